-- `rimemagpie::rimemagpie_card_feed` meets its contract: a piece that is refused leaves the parts as they were (proofs/Stated.antt).
use mathlib.Core.Path.{sym, ◌∙◌}
use borrow.Author.Rules.{rules}
use Rattle.rimemagpie.proofs.Stated.{not_fed}
use Rattle.rimemagpie.proofs.rimemagpie_card_feed.Goals as goal

pub returns-in-Err : goal.returns-in-Err
returns-in-Err c =
    let told = not_fed _ _ _ _ _ _ _ _ _ (search rules) _ (sym c.in-Err.is ∙ c.feed.ensures.answer) in
    record {
      number = search rules;
      spare = search rules;
      tail = told.tail;
      kept = told.kept;
      read = told.read;
      low = told.low;
      form = told.form;
      phase = told.phase;
    }
