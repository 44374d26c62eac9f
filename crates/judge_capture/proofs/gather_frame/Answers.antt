-- `judge_capture::gather_frame` meets its contract: the window has the frame at its front, or the file ended inside it (proofs/Taken.antt).
use mathlib.Core.Path.{refl}
use native.Mathlib.Omega.{arith}
use Rattle.judge_capture.proofs.Taken.{frame_short}
use Rattle.judge_capture.proofs.gather_frame.Goals as goal

pub overflow_add-result : goal.overflow_add-result
overflow_add-result g c =
    let g = rw c.in-Enough.is at c.gather.ensures in
    omega (arith, g.0.ordered, g.0.within, g.1)

pub returns-in-Failed : goal.returns-in-Failed
returns-in-Failed g c = rw c.in-Failed.is at c.gather.ensures

pub returns-in-Ended : goal.returns-in-Ended
returns-in-Ended g c =
    let g = rw c.in-Ended.is at c.gather.ensures in
    frame_short g.0 g.1

pub returns-in-Enough : goal.returns-in-Enough
returns-in-Enough g c =
    let g = rw c.in-Enough.is at c.gather.ensures in
    record { grown = g.0; frame_ends = omega arith; frame_ordered = omega arith; frame_within = omega arith; handed_on = refl }
