-- `capture_verdict::record_line` meets its contract: the frame has no payload, or its payload is checked (proofs/Judged.antt); and a payload lies within
-- its frame (capture, proofs/Frames.antt).
use mathlib.Core.Path.{sym, ap, ◌∙◌}
use native.Mathlib.Omega.{arith}
use Rattle.key_book.specs.Book.{Book, book_of}
use Rattle.file_verdict.specs.Files.{verdict_line}
use Rattle.capture.proofs.Frames.{place_within, payload_skipped}
use Rattle.capture_verdict.proofs.Judged.{payload_part, line_skipped, marks_kept, received_kept, line_judged, marks_judged, received_judged}
use Rattle.capture_verdict.proofs.record_line.Goals as goal
use Rattle.capture_verdict.proofs.record_line.Goals.{Start}

abbrev lent : Start → Book
lent s =
    let a = s.args in
    book_of a.ids.now a.lengths.now a.store.now a.marks.now a.received.now a.sent.now a.rows

pub returns-in_default : goal.returns-in_default
returns-in_default c =
    let b = lent (goal.at.returns-in_default c).Start in
    let e = payload_skipped _ _ (sym c.payload_place.ensures ∙ c.in_default.is) in
    record { answer = line_skipped b _ _ e; marked = marks_kept b _ _ e; stored = received_kept b _ _ e }

pub overflow_add-end : goal.overflow_add-end
overflow_add-end c = omega (arith, place_within _ _ _ _ (sym c.payload_place.ensures ∙ c.in-Some.is))

pub slice_bounds-check-end : goal.slice_bounds-check-end
slice_bounds-check-end c = place_within _ _ _ _ (sym c.payload_place.ensures ∙ c.in-Some.is)

pub returns : goal.returns
returns c =
    let b = lent (goal.at.returns c).Start in
    let e = payload_part _ _ _ _ (sym c.payload_place.ensures ∙ c.in-Some.is) in
    let v = c.check-verdict.ensures in
    record {
      answer = c.line_of.ensures ∙ ap verdict_line v.answer ∙ line_judged b _ _ e;
      marked = v.marked ∙ marks_judged b _ _ e;
      stored = v.stored ∙ received_judged b _ _ e;
    }
