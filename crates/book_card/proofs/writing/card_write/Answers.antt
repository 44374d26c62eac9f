-- `book_card::card_write` meets its contract: each end is one case of `write_of`, with the room as `room_after` says (proofs/Puts.antt).
use native.Mathlib.Omega.{arith}
use Rattle.key_book.specs.Book.{Book}
use Rattle.key_book.specs.Lent.{book_in}
use Rattle.book_card.proofs.Puts.{told_sound, rows_in_lem, size_is, write_unsound, write_no_room, write_done}
use mathlib.Core.Path.{ap}
use mathlib.Core.Bool.{not}
use Rattle.book_card.proofs.writing.card_write.Goals as goal
use Rattle.book_card.proofs.writing.card_write.Goals.{Start}

-- the lent book
abbrev lent : Start → Book
lent s =
    book_in s.args.book

pub returns-then-not-is_sound : goal.returns-then-not-is_sound
returns-then-not-is_sound c =
    write_unsound (lent (goal.at.returns-then-not-is_sound c).Start) _ _ c.is_sound.ensures (ap not c.if-not-is_sound.true)

pub card_size-size-requires : goal.card_size-size-requires
card_size-size-requires c =
    let lent = lent (goal.at.card_size-size-requires c).Start in
    let both = rows_in_lem lent (told_sound lent _ c.is_sound.ensures (ap not c.if-not-is_sound.false)) in
    record { rows_in_bounds = both.0; rows_le_rows_most = both.1 }

pub returns-then-card-size : goal.returns-then-card-size
returns-then-card-size c =
    let lent = lent (goal.at.returns-then-card-size c).Start in
    write_no_room lent _ _ c.is_sound.ensures (ap not c.if-not-is_sound.false) _ c.card_size-size.ensures c.if-card-size.true

pub put_card-requires : goal.put_card-requires
put_card-requires c =
    let lent = lent (goal.at.put_card-requires c).Start in
    let size = size_is lent c.args.card.now _ c.is_sound.ensures (ap not c.if-not-is_sound.false) _ c.card_size-size.ensures in
    record { sound = told_sound lent _ c.is_sound.ensures (ap not c.if-not-is_sound.false); b_in_bounds = omega arith }

pub returns : goal.returns
returns c =
    let lent = lent (goal.at.returns c).Start in
    write_done lent _ _ c.is_sound.ensures (ap not c.if-not-is_sound.false) _ c.card_size-size.ensures c.if-card-size.false _ c.put_card.ensures
