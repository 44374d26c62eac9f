use native.Mathlib.Omega.{arith}
use mathlib.Core.Path.{◌≡◌}
use Prim.Native.Nat.{◌<◌}
use lib.ListN.{get_or, take}
use lib.Seq.{length-take-le, get_or-take}
use Rattle.book_card.proofs.Forms.{size_new}
use Rattle.book_card.proofs.Writes.{summing_start, summing_turn}
use Rattle.book_card.proofs.writing.card_size.Goals as goal
use Rattle.book_card.proofs.writing.card_size.Goals.{In-loop-length}

-- the lengths that the loop goes over are those of the rows
in_rows : (c : In-loop-length) → c.loop-length.length-index < c.args.rows
in_rows c = let n = length-take-le _ _ c.requires.rows_in_bounds in omega arith

its : (c : In-loop-length)
    → get_or (take c.args.rows c.args.lengths.now) c.loop-length.length-index 0 ≡ get_or c.args.lengths.now c.loop-length.length-index 0
its c = get_or-take _ _ _ 0 (in_rows c)

pub loop-length-init : goal.loop-length-init
loop-length-init c = summing_start _ _

pub overflow_add-size : goal.overflow_add-size
overflow_add-size c =
    let at = (goal.at.overflow_add-size c).In-loop-length in
    omega (arith, its at, c.type_inv.lengths c.loop-length.length-index, c.key_at-head.ensures, size_new)

pub overflow_add-size-in-loop-length : goal.overflow_add-size-in-loop-length
overflow_add-size-in-loop-length c =
    let at = (goal.at.overflow_add-size-in-loop-length c).In-loop-length in
    let l = in_rows at in
    omega (arith, its at, c.type_inv.lengths c.loop-length.length-index, c.key_at-head.ensures, size_new)

pub loop-length-preserved : goal.loop-length-preserved
loop-length-preserved c =
    let at = (goal.at.loop-length-preserved c).In-loop-length in
    rw (its at)
    (summing_turn _ _ _ _ c.loop-length.invariant (in_rows at) (omega (arith, c.type_inv.lengths c.loop-length.length-index)) _ c.key_at-head.ensures)
