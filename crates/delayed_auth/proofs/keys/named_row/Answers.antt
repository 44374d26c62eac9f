-- `delayed_auth::named_row` meets its contract: each end is one leaf of `keyed_of` (proofs/Naming.antt).
use mathlib.Core.Path.{sym, ◌∙◌}
use Rattle.refusal.proofs.Raised.{raised}
use Rattle.delayed_auth.proofs.Finding.{sound_ascends}
use Rattle.delayed_auth.proofs.Admits.{full_passed}
use Rattle.delayed_auth.proofs.Naming.{form_keyed, row_keyed}
use Rattle.delayed_auth.proofs.keys.named_row.Goals as goal

pub row_of-requires : goal.row_of-requires
row_of-requires c = sound_ascends _ (full_passed _ _ _ (sym c.in_ok-auth.was ∙ c.admitted.ensures)).0

pub returns-in_err-auth : goal.returns-in_err-auth
returns-in_err-auth c =
    raised c.from_residual.result c.from_residual.ensures.1 ∙ form_keyed _ _ _ (sym c.in_err-auth.was ∙ c.admitted.ensures)

pub returns : goal.returns
returns c =
    c.ok_or.ensures.value ∙ row_keyed _ _ _ (sym c.in_ok-auth.was ∙ c.admitted.ensures) c.row_of.result (sym c.row_of.ensures)
