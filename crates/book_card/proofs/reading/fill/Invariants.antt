-- `book_card::fill` meets its contract: each turn keeps `Filling`, that with the other rows set the book is the loaded one (proofs/Fills.antt).
use Rattle.key_book.specs.Lent.{room_in, SameRoom}
use Rattle.book_card.proofs.Fills.{Filling}
use Rattle.book_card.proofs.reading.fill.Given as goal

abbrev pub invariant-loop-place : goal.invariant-loop-place
invariant-loop-place l =
    Filling l.card.form l.card.bytes.now l.card.rows
    (room_in l.initial.room 0)
    (room_in l.room 0) l.place-iterator.iter l.place-iterator.count × SameRoom l.initial.room l.room
