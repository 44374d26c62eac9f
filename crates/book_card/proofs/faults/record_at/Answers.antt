-- `book_card::record_at` meets its contract: each end is one case of `record_in` on the bytes from here on (proofs/Causes.antt).
use borrow.Author.Rules.{rules}
use native.Mathlib.Omega.{arith}
use mathlib.Core.Path.{sym, ◌∙◌}
use Rattle.book_card.proofs.Causes.{lost_short, lost_kind, lost_cut, record_faulty, record_row, record_close}
use Rattle.book_card.proofs.faults.record_at.Goals as goal

pub returns-then-card-at : goal.returns-then-card-at
returns-then-card-at c = lost_short c.args.card.now c.args.at (omega arith)

pub returns-then-left-lt-BODY_AT : goal.returns-then-left-lt-BODY_AT
returns-then-left-lt-BODY_AT c = lost_short c.args.card.now c.args.at (search rules)

pub returns-then-size-lt-KIND_SIZE : goal.returns-then-size-lt-KIND_SIZE
returns-then-size-lt-KIND_SIZE c = lost_kind _ _ _ c.little-size.ensures.0 (search rules) (search rules)

pub returns-then-left-size : goal.returns-then-left-size
returns-then-left-size c = lost_cut _ _ _ c.little-size.ensures.0 (search rules) (search rules) (search rules)

pub returns-in-Broken : goal.returns-in-Broken
returns-in-Broken c =
    record_faulty _ _ _ c.little-size.ensures.0 (search rules) (search rules) (search rules) _ c.form_in-form.ensures
    (sym c.in-Broken.is ∙ c.front_at.ensures) _ c.little-kind.ensures.0 _ c.fault_at.ensures

pub returns-in-Row : goal.returns-in-Row
returns-in-Row c =
    record_row _ _ _ c.little-size.ensures.0 (search rules) (search rules) (search rules) _ c.form_in-form.ensures
    _ _ _ _ _ (sym c.in-Row.is ∙ c.front_at.ensures)

pub returns-in-Close : goal.returns-in-Close
returns-in-Close c =
    record_close _ _ _ c.little-size.ensures.0 (search rules) (search rules) (search rules) _ c.form_in-form.ensures
    _ (sym c.in-Close.is ∙ c.front_at.ensures)
