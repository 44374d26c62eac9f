-- `judge_capture::judge_records` meets its contract: each turn keeps `Looping` (proofs/Runs.antt).
use mathlib.Core.Path.{refl}
use native.Mathlib.Omega.{arith}
use borrow.Author.Rules.{rules}
use Rattle.std.proofs.lemmas.Result.{err_from_is_err_and}
use Rattle.judge_capture.proofs.Runs.{progress_start, progress_turn, judged, no_record, ended_by_lem, ended_numbers}
use Rattle.judge_capture.proofs.judge_records.Goals as goal

pub loop-number-init : goal.loop-number-init
loop-number-init g c =
    record {
      ordered = search rules;
      within = search rules;
      long = refl;
      marks_long = refl;
      counters_long = refl;
      out_long = refl;
      waiting = search rules;
      progress = progress_start _ _ _ _;
    }

pub next_record-next-requires : goal.next_record-next-requires
next_record-next-requires g c =
    let l = c.loop-number.invariant in
    record { ordered = l.ordered; within = l.within; frame_most_in_bounds = omega (arith, l.long) }

pub add_end-requires : goal.add_end-requires
add_end-requires g c = omega (arith, c.loop-number.invariant.waiting, c.loop-number.invariant.out_long)

pub returns-in_default : goal.returns-in_default
returns-in_default g c =
    let x = c.next_record-next in
    let e = c.add_end.ensures in
    let w = ended_by_lem c.loop-number.invariant x.new.room x.result (no_record x.result c.in_default.not-Record) x.ensures e.put_at e.upper_bound
    (search rules) in
    record { judged = w.judged; within = w.within; lines = w }

pub slice_bounds-judge_frame-count : goal.slice_bounds-judge_frame-count
slice_bounds-judge_frame-count g c = let t = rw c.in-Record.is at c.next_record-next.ensures in t.frame_ordered

pub slice_bounds-judge_frame-start : goal.slice_bounds-judge_frame-start
slice_bounds-judge_frame-start g c = let t = rw c.in-Record.is at c.next_record-next.ensures in t.frame_ordered

pub slice_bounds-judge_frame-end : goal.slice_bounds-judge_frame-end
slice_bounds-judge_frame-end g c =
    let t = rw c.in-Record.is at c.next_record-next.ensures in
    omega (arith, t.frame_within, t.within)

pub judge_frame-added-requires : goal.judge_frame-added-requires
judge_frame-added-requires g c = omega (arith, c.loop-number.invariant.waiting, c.loop-number.invariant.out_long)

pub make_room-requires : goal.make_room-requires
make_room-requires g c =
    let l = c.loop-number.invariant in
    record { numbered_most_in_bounds = omega (arith, l.waiting, l.out_long); size_in_bounds = search rules }

pub returns-in_err-size : goal.returns-in_err-size
returns-in_err-size g c =
    let l = c.loop-number.invariant in
    let t = rw c.in-Record.is at c.next_record-next.ensures in
    let j = c.judge_frame-added.ensures in
    let p = progress_turn l.progress t j.line j.marked j.stored refl (omega (arith, l.waiting, l.out_long)) j.within (search rules) refl in
    let r = err_from_is_err_and c.from_residual.result c.from_residual.ensures.1 in
    rw r.1 (record { judged = judged p; within = tt; lines = tt })

pub loop-number-preserved : goal.loop-number-preserved
loop-number-preserved g c =
    let l = c.loop-number.invariant in
    let t = rw c.in-Record.is at c.next_record-next.ensures in
    let j = c.judge_frame-added.ensures in
    let m = rw c.in_ok-size.was at c.make_room.ensures.left in
    let f = rw c.in_ok-size.was at c.make_room.ensures.fits in
    record {
      ordered = t.frame_within;
      within = t.within;
      long = search rules;
      marks_long = search rules;
      counters_long = search rules;
      out_long = search rules;
      waiting = search rules;
      progress = progress_turn l.progress t j.line j.marked j.stored refl (omega (arith, l.waiting, l.out_long)) j.within (search rules) m;
    }

pub returns-in_ok-size : goal.returns-in_ok-size
returns-in_ok-size g c =
    let l = c.loop-number.invariant in
    let t = rw c.in-Record.is at c.next_record-next.ensures in
    let j = c.judge_frame-added.ensures in
    let m = rw c.in_ok-size.was at c.make_room.ensures.left in
    let f = rw c.in_ok-size.was at c.make_room.ensures.fits in
    let p = progress_turn l.progress t j.line j.marked j.stored refl (omega (arith, l.waiting, l.out_long)) j.within (search rules) m in
    let w = ended_numbers p (search rules) (omega arith) (omega arith) in
    record { judged = w.judged; within = w.within; lines = w }
