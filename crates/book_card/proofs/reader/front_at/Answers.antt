-- `book_card::front_at` meets its contract: each end is one case of `front_of` on the bytes from here on (proofs/Fronts.antt).
use borrow.Author.Rules.{rules}
use native.Mathlib.Omega.{arith}
use mathlib.Core.Path.{sym, ◌∙◌}
use Rattle.book_card.proofs.Fronts.{front_short, front_cut, front_close_size, front_close, front_kind, front_row}
use Rattle.book_card.proofs.reader.front_at.Goals as goal

pub returns-then-card-at : goal.returns-then-card-at
returns-then-card-at c = front_short c.args.form c.args.card.now c.args.at (omega arith)

pub returns-then-left-lt-BODY_AT : goal.returns-then-left-lt-BODY_AT
returns-then-left-lt-BODY_AT c = front_short c.args.form c.args.card.now c.args.at (search rules)

pub returns-then-left-size : goal.returns-then-left-size
returns-then-left-size c = front_cut _ _ _ _ c.little-size.ensures.0 (search rules) (search rules)

pub returns-then-size : goal.returns-then-size
returns-then-size c =
    front_close_size _ _ _ _ c.little-size.ensures.0 (search rules) (search rules) _ c.little-kind.ensures.0
    (search rules) (search rules)

pub returns-then-kind-eq-CLOSE_KIND : goal.returns-then-kind-eq-CLOSE_KIND
returns-then-kind-eq-CLOSE_KIND c =
    front_close _ _ _ _ c.little-size.ensures.0 (search rules) (search rules) _ c.little-kind.ensures.0
    (search rules) (search rules) _ c.little.ensures.0

pub returns-then-kind-row_kind : goal.returns-then-kind-row_kind
returns-then-kind-row_kind c =
    front_kind _ _ _ _ c.little-size.ensures.0 (search rules) (search rules) _ c.little-kind.ensures.0 (search rules)
    (λ e. c.if-kind-row_kind.true (e ∙ sym c.row_kind.ensures))

pub returns : goal.returns
returns c =
    front_row _ _ _ _ c.little-size.ensures.0 (search rules) (search rules) _ c.little-kind.ensures.0
    (c.if-kind-row_kind.false ∙ c.row_kind.ensures) _ c.row_at.ensures
