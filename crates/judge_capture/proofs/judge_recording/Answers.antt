-- `judge_capture::judge_recording` meets its contract: the recording is unreadable, or its header is taken and then its records are judged
-- (proofs/Runs.antt).
use mathlib.Core.Path.{refl, sym}
use lib.Seq.{length-take-le}
use mathlib.Core.Logic.{inl, inr}
use Rattle.judge_capture.proofs.Runs.{recorded}
use borrow.Author.Rules.{rules}
use Rattle.judge_capture.proofs.judge_recording.Goals as goal

pub returns-in_default : goal.returns-in_default
returns-in_default g c = inl (refl, refl)

pub returns-in_default-open_capture : goal.returns-in_default-open_capture
returns-in_default-open_capture g c = inl (refl, refl)

pub judge_records-requires : goal.judge_records-requires
judge_records-requires g c =
    let o = rw c.in-Some.is at c.open_capture.ensures in
    record {
      start_ordered = o.ordered;
      start_within = o.within;
      frame_most_in_bounds = search rules;
      numbered_most_in_bounds = search rules;
    }

pub returns-in_err-size : goal.returns-in_err-size
returns-in_err-size g c =
    let o = rw c.in-Some.is at c.open_capture.ensures in
    inr (recorded o c.judge_records.ensures.judged)

pub slice_bounds-write_all-end : goal.slice_bounds-write_all-end
slice_bounds-write_all-end g c =
    let w = rw c.in_ok-size.was at c.judge_records.ensures.within in
    sym (length-take-le _ _ w)

pub returns : goal.returns
returns g c =
    let o = rw c.in-Some.is at c.open_capture.ensures in
    inr (recorded o c.judge_records.ensures.judged)
