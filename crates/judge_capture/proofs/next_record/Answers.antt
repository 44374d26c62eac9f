-- `judge_capture::next_record` meets its contract: the file has ended; or a header is taken, and then the frame of which it tells (proofs/Taken.antt).
use mathlib.Core.Path.{sym, ◌∙◌}
use native.Mathlib.Omega.{arith}
use Rattle.judge_capture.proofs.Taken.{at_end_lem, captured_most, none_whole, header_short, header_cut, record_there}
use borrow.Author.Rules.{rules}
use Rattle.judge_capture.proofs.next_record.Goals as goal

pub returns-in-Ended-eq0 : goal.returns-in-Ended-eq0
returns-in-Ended-eq0 g c =
    let g = rw c.in-Ended-eq0.is at c.gather.ensures in
    at_end_lem g.0 (search rules)

pub overflow_add-from : goal.overflow_add-from
overflow_add-from g c =
    let g = rw c.in-Enough.is at c.gather.ensures in
    omega (arith, g.0.ordered, g.0.within, g.1)

pub slice_bounds-record_header-end : goal.slice_bounds-record_header-end
slice_bounds-record_header-end g c =
    let g = rw c.in-Enough.is at c.gather.ensures in
    omega (arith, g.0.ordered, g.0.within, g.1)

pub returns-in_default : goal.returns-in_default
returns-in_default g c =
    let g = rw c.in-Enough.is at c.gather.ensures in
    header_cut g.0 (omega arith) (omega arith) _ (omega arith) (sym c.record_header.ensures ∙ c.in_default.is)

pub gather_frame-requires : goal.gather_frame-requires
gather_frame-requires g c = let g = rw c.in-Enough.is at c.gather.ensures in
    let h = captured_most _ _ (sym c.record_header.ensures ∙ c.in-Some.is) in
    record { ordered = omega arith; within = omega arith; captured_in_bounds = omega arith }

pub returns-in-Failed : goal.returns-in-Failed
returns-in-Failed g c = none_whole _ _ (rw c.in-Failed.is at c.gather.ensures)

pub returns-in-Ended : goal.returns-in-Ended
returns-in-Ended g c =
    let g = rw c.in-Ended.is at c.gather.ensures in
    header_short _ g.0 (search rules) g.1

pub returns-in-Some : goal.returns-in-Some
returns-in-Some g c =
    let g = rw c.in-Enough.is at c.gather.ensures in
    let e = sym c.record_header.ensures ∙ c.in-Some.is in
    record_there g.0 (omega arith) (omega arith) _ (omega arith) c.gather_frame.new.room e c.gather_frame.result c.gather_frame.ensures
