-- `book_card::put_row` meets its contract: it tests whether the row has its place (proofs/Loads.antt).
use mathlib.Core.Path.{sym}
use Rattle.key_book.specs.Book.{Book}
use Rattle.key_book.specs.Lent.{room_in}
use Rattle.book_card.specs.Card.{Row}
use Rattle.book_card.specs.Lent.{row_lent}
use Rattle.book_card.proofs.Loads.{put_unsized, put_past, put_long, put_place, put_done}
use mathlib.Core.Path.{ap}
use mathlib.Core.Bool.{not}
use Rattle.book_card.proofs.reading.put_row.Goals as goal
use Rattle.book_card.proofs.reading.put_row.Goals.{Start}

-- the book as it is lent, and the row
abbrev lent : Start → Book
lent s =
    room_in s.args.room.now 0

abbrev row : Start → Row
row s = row_lent s.args.row

pub returns-then-not-sizes_agree-clause-rows : goal.returns-then-not-sizes_agree-clause-rows
returns-then-not-sizes_agree-clause-rows c =
    let start = (goal.at.returns-then-not-sizes_agree-clause-rows c).Start in
    put_unsized (lent start) c.args.place (row start) _ c.sizes_agree.ensures (ap not c.if-not-sizes_agree.true)

pub returns-then-room-place-clause-rows : goal.returns-then-room-place-clause-rows
returns-then-room-place-clause-rows c =
    let start = (goal.at.returns-then-room-place-clause-rows c).Start in
    sym (put_past (lent start) c.args.place (row start) c.if-room-place.true)

pub returns-then-row-gt-SLOT_SIZE-clause-rows : goal.returns-then-row-gt-SLOT_SIZE-clause-rows
returns-then-row-gt-SLOT_SIZE-clause-rows c =
    let start = (goal.at.returns-then-row-gt-SLOT_SIZE-clause-rows c).Start in
    put_long (lent start) c.args.place (row start) _ c.sizes_agree.ensures c.if-row-gt-SLOT_SIZE.true

pub set_row-requires : goal.set_row-requires
set_row-requires c =
    let start = (goal.at.set_row-requires c).Start in
    let both = put_place (lent start) c.args.place (row start) _ c.sizes_agree.ensures (ap not c.if-not-sizes_agree.false)
    c.if-room-place.false c.if-row-gt-SLOT_SIZE.false in
    record { within = both.0; key_len_bound = both.1 }

pub returns-clause-rows : goal.returns-clause-rows
returns-clause-rows c =
    let start = (goal.at.returns-clause-rows c).Start in
    put_done (lent start) c.args.place (row start) _ c.sizes_agree.ensures (ap not c.if-not-sizes_agree.false)
    c.if-room-place.false c.if-row-gt-SLOT_SIZE.false _ c.set_row.ensures.rows
