-- `file_verdict::load_card` meets its contract: the card may not be judged, or it is handed on to reading (proofs/Stages.antt).
use mathlib.Core.Path.{◌≡◌, sym, ◌∙◌}
use lib.Seq.{length-take-le}
use Rattle.std.specs.Prelude.{Some}
use Rattle.std.proofs.lemmas.Result.{err_from_is_err_and}
use Rattle.refusal.proofs.Raised.{asked_there, asked_none}
use Rattle.key_book.specs.Book.{Book}
use Rattle.key_book.specs.Lent.{room_in}
use Rattle.file_verdict.proofs.Contents.{judged_by_lem}
use Rattle.file_verdict.proofs.Stages.{card_none, card_read, book_read}
use borrow.Author.Rules.{rules}
use Rattle.file_verdict.proofs.load_card.Goals as goal
use Rattle.file_verdict.proofs.load_card.Goals.{Start, In_ok-size}

abbrev lent : Start → Book
lent s = room_in s.args.book.now 0

there : (c : In_ok-size) → c.within_limit.result ≡ Some c.in_ok-size.size
there c = asked_there _ _ (sym c.ok_or.ensures.value ∙ c.in_ok-size.was)

pub returns-in_err-size : goal.returns-in_err-size
returns-in_err-size c =
    let b = lent (goal.at.returns-in_err-size c).Start in
    let n = asked_none _ _ (sym c.ok_or.ensures.value ∙ c.in_err-size.was) in
    let p = card_none b _ (rw n.0 at (judged_by_lem _ _ c.within_limit.ensures)) in
    let r = err_from_is_err_and c.from_residual.result c.from_residual.ensures.1 in
    rw (r.1, r.2, ← n.1) (record { same = search rules; answer = p.0; after = p.1 })

pub slice_bounds-card_read-end : goal.slice_bounds-card_read-end
slice_bounds-card_read-end c =
    sym (length-take-le _ _ (rw (there c) at (judged_by_lem _ _ c.within_limit.ensures)).0)

pub returns-in-Ok : goal.returns-in-Ok
returns-in-Ok c =
    let b = lent (goal.at.returns-in-Ok c).Start in
    let j = (rw (there (goal.at.returns-in-Ok c).In_ok-size) at (judged_by_lem _ _ c.within_limit.ensures)).1 in
    let e = c.card_read.ensures in
    record { same = e.same; answer = card_read b _ j c.in-Ok.is e.answer; after = book_read b _ j (rw c.in-Ok.is at e.after) }

pub returns-in-Err : goal.returns-in-Err
returns-in-Err c =
    let b = lent (goal.at.returns-in-Err c).Start in
    let j = (rw (there (goal.at.returns-in-Err c).In_ok-size) at (judged_by_lem _ _ c.within_limit.ensures)).1 in
    let e = c.card_read.ensures in
    record { same = e.same; answer = card_read b _ j c.in-Err.is e.answer; after = book_read b _ j (rw c.in-Err.is at e.after) }
