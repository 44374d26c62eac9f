use native.Mathlib.Omega.{arith}
use Rattle.key_book.specs.Book.{Book}
use Rattle.key_book.specs.Lent.{book_in}
use Rattle.book_card.specs.declared.CardForm.TheVariants.{New}
use Rattle.book_card.specs.Writing.{rows_of}
use Rattle.book_card.proofs.Writes.{rows_count}
use Rattle.book_card.proofs.Puts.{rowing_start, rowing_turn, rowing_end, close_room, Next, row_next}
use Rattle.book_card.proofs.writing.put_card.Goals as goal
use Rattle.book_card.proofs.writing.put_card.Goals.{After-key_of, Start}

-- the lent book
abbrev lent : Start → Book
lent s =
    book_in s.args.book

-- the same book in a turn
abbrev book : After-key_of → Book
book c =
    book_in c.args.book

next : (c : After-key_of) → Next (book c) c.loop-row.row c.loop-row.at c.loop-row.card c.key_of.result.now
next c = row_next (book c) c.requires.sound _ c.loop-row-test.true _ c.key_of.ensures.content _ _ _ c.loop-row.invariant

pub loop-row-init : goal.loop-row-init
loop-row-init c = rowing_start New _ _ c.requires.b_in_bounds

pub put_record-at-requires : goal.put_record-at-requires
put_record-at-requires c =
    let n = next (goal.at.put_record-at-requires c).After-key_of in
    record { key_len_bound = n.short; key_in_bounds = n.room }

pub overflow_add-at : goal.overflow_add-at
overflow_add-at c = omega (arith, c.put_record-at.ensures.0, (next (goal.at.overflow_add-at c).After-key_of).room)

pub loop-row-preserved : goal.loop-row-preserved
loop-row-preserved c =
    let turn = (goal.at.loop-row-preserved c).After-key_of in
    let n = next turn in
    let put = c.put_record-at.ensures in
    rowing_turn New (rows_of (book turn)) _ _ _ _ c.loop-row.invariant n.used _ _ _ n.row put.0 put.1

pub put_close-requires : goal.put_close-requires
put_close-requires c =
    let n = rows_count (lent (goal.at.put_close-requires c).Start) in
    close_room New _ _ _ _ _ c.loop-row.invariant (omega (arith, c.loop-row-test.false))

pub returns : goal.returns
returns c =
    let book = lent (goal.at.returns c).Start in
    let n = rows_count book in
    rowing_end New (rows_of book) _ _ _ _ c.loop-row.invariant (omega (arith, c.loop-row-test.false)) _ _ (omega arith)
    c.put_close.ensures
