-- `rimemagpie::rimemagpie_key` meets its contract: a named row's slot is in the store.
use mathlib.Core.Path.{sym, ◌∙◌}
use Rattle.delayed_auth.proofs.Naming.{keyed_facts}
use borrow.Author.Rules.{rules}
use Rattle.rimemagpie.proofs.rimemagpie_key.Goals as goal

pub overflow_mul-offset : goal.overflow_mul-offset
overflow_mul-offset c =
    let s = (keyed_facts _ _ _ (sym c.in-Ok.is ∙ c.named_row.ensures)).slot_inside in
    search rules
