-- `judge_capture::open_capture` meets its contract: a header is taken from what was read (proofs/Taken.antt).
use mathlib.Core.Path.{sym, ◌∙◌}
use native.Mathlib.Omega.{arith}
use Rattle.judge_capture.proofs.Taken.{capture_there}
use Rattle.judge_capture.proofs.open_capture.Goals as goal

pub overflow_add-from : goal.overflow_add-from
overflow_add-from g c =
    let g = rw c.in-Enough.is at c.fill.ensures.gathered in
    omega (arith, g.0.ordered, g.0.within, g.1)

pub slice_bounds-file_header-end : goal.slice_bounds-file_header-end
slice_bounds-file_header-end g c =
    let g = rw c.in-Enough.is at c.fill.ensures.gathered in
    omega (arith, g.0.ordered, g.0.within, g.1)

pub returns : goal.returns
returns g c =
    let g = rw c.in-Enough.is at c.fill.ensures.gathered in
    let f = rw c.in-Enough.is at c.fill.ensures.front in
    capture_there g.0 (omega arith) (omega arith) f (omega arith) (sym c.file_header.ensures ∙ c.in_ok-order.was)
