use borrow.Author.Rules.{rules}
use native.Mathlib.Omega.{arith}
use mathlib.Core.Path.{sym, ◌∙◌}
use Rattle.card_pieces.proofs.Passing.{ends_until, ends_stop, row_inside, passing_turn}
use Rattle.card_pieces.proofs.records.read_rows.Goals as goal

pub returns-in_default : goal.returns-in_default
returns-in_default c =
    let e = ends_stop c.loop-at.invariant.0 _ c.requires.until_in_bounds _ c.next_at-next.ensures c.in_default.not-Row _ c.stop_by.ensures in
    record { same = c.loop-at.invariant.1; inside = e.0; counted = e.1.0; stops = e.1.1.0; sizes = e.1.1.1.0; goes = e.1.1.1.1 }

pub overflow_add-key_from : goal.overflow_add-key_from
overflow_add-key_from c =
    omega (
      arith,
      row_inside c.loop-at.invariant.0 _ _ _ _ _ (sym c.in-Row.is ∙ c.next_at-next.ensures),
      c.key_at-head.ensures,
    )

pub overflow_add-end : goal.overflow_add-end
overflow_add-end c =
    omega (
      arith,
      row_inside c.loop-at.invariant.0 _ _ _ _ _ (sym c.in-Row.is ∙ c.next_at-next.ensures),
      c.key_at-head.ensures,
    )

pub slice_bounds-row-end : goal.slice_bounds-row-end
slice_bounds-row-end c =
    omega (
      arith,
      row_inside c.loop-at.invariant.0 _ _ _ _ _ (sym c.in-Row.is ∙ c.next_at-next.ensures),
      c.key_at-head.ensures,
    )

pub loop-at-preserved : goal.loop-at-preserved
loop-at-preserved c =
    (passing_turn c.loop-at.invariant.0 _ _ _ _ _ (sym c.in-Row.is ∙ c.next_at-next.ensures) _ c.key_at-head.ensures _ c.put_row.ensures.rows, search rules)

pub returns : goal.returns
returns c =
    let e = ends_until c.loop-at.invariant.0 _ c.loop-at-test.false in
    rw c.pass_to.ensures (record { same = c.loop-at.invariant.1; inside = e.0; counted = e.1.0; stops = e.1.1.0; sizes = e.1.1.1.0; goes = e.1.1.1.1 })
