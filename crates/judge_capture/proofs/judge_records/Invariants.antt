-- Each turn keeps `Looping` (proofs/Runs.antt).
use Rattle.std.proofs.Common.{length}
use Rattle.key_book.specs.Book.{book_of}
use Rattle.judge_capture.specs.Window.{in_window}
use Rattle.judge_capture.proofs.Runs.{Looping}
use Rattle.judge_capture.proofs.judge_records.Given as goal

abbrev pub invariant-loop-number : goal.invariant-loop-number
invariant-loop-number g l =
    let b = book_of l.ids l.lengths l.store l.fn.marks l.fn.received l.sent l.rows in
    let first = in_window l.fn.room l.fn.start in
    Looping l.order b first (length l.fn.room) (length l.fn.out) l.room l.marks l.received l.out l.size l.number l.window.from l.window.end
