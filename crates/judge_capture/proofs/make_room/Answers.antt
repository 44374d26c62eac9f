-- `judge_capture::make_room` meets its contract: there is room, or all that waits is written (proofs/Rooms.antt).
use mathlib.Core.Path.{sym}
use native.Mathlib.Omega.{arith}
use lib.ListN.{length}
use lib.Seq.{length-take-le}
use Rattle.judge_capture.proofs.Rooms.{room_kept, room_emptied}
use borrow.Author.Rules.{rules}
use Rattle.std.proofs.lemmas.Result.{err_from_is_err_and}
use Rattle.judge_capture.proofs.make_room.Goals as goal

pub returns-then-size-out : goal.returns-then-size-out
returns-then-size-out g c = record { left = room_kept c.args.size (length c.args.out.now) (omega arith); fits = search rules }

pub slice_bounds-write_all-end : goal.slice_bounds-write_all-end
slice_bounds-write_all-end g c = sym (length-take-le _ _ (omega arith))

pub returns-in_err-write_all : goal.returns-in_err-write_all
returns-in_err-write_all g c =
    let r = err_from_is_err_and c.from_residual.result c.from_residual.ensures.1 in
    rw r.1 (record { left = omega arith; fits = tt })

pub returns : goal.returns
returns g c = record { left = room_emptied c.args.size (length c.args.out.now) (omega arith); fits = search rules }
