-- `file_verdict::message_line` meets its contract: the message may not be judged, or it is handed on to the check (proofs/Stages.antt).
use mathlib.Core.Path.{sym}
use lib.Seq.{length-take-le}
use Rattle.key_book.specs.Book.{Book, book_of}
use Rattle.file_verdict.proofs.Contents.{judged_by_lem}
use Rattle.file_verdict.proofs.Stages.{message_none, message_checked, row_marked, counter_stored}
use Rattle.file_verdict.proofs.message_line.Goals as goal
use Rattle.file_verdict.proofs.message_line.Goals.{Start}

abbrev lent : Start → Book
lent s =
    let a = s.args in
    book_of a.ids.now a.lengths.now a.store.now a.marks.now a.received.now a.sent.now a.rows

pub returns-in_default : goal.returns-in_default
returns-in_default c =
    let b = lent (goal.at.returns-in_default c).Start in
    let p = message_none b _ (rw c.in_default.is at (judged_by_lem _ _ c.within_limit.ensures)) in
    record { answer = p.0; marked = p.1.0; stored = p.1.1 }

pub slice_bounds-check-end : goal.slice_bounds-check-end
slice_bounds-check-end c =
    sym (length-take-le _ _ (rw c.in-Some.is at (judged_by_lem _ _ c.within_limit.ensures)).0)

pub returns : goal.returns
returns c =
    let b = lent (goal.at.returns c).Start in
    let j = (rw c.in-Some.is at (judged_by_lem _ _ c.within_limit.ensures)).1 in
    let e = c.check-verdict.ensures in
    record {
      answer = message_checked b _ j c.line_of.ensures e.answer;
      marked = row_marked b _ j e.marked;
      stored = counter_stored b _ j e.stored;
    }
