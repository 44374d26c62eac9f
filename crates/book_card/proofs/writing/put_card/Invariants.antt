-- `book_card::put_card` meets its contract: each turn keeps `Rowing`, that with what is left written the whole card is (proofs/Puts.antt).
use Rattle.key_book.specs.Lent.{book_in}
use Rattle.book_card.specs.declared.CardForm.TheVariants.{New}
use Rattle.book_card.specs.Writing.{rows_of}
use Rattle.book_card.proofs.Puts.{Rowing}
use Rattle.book_card.proofs.writing.put_card.Given as goal

abbrev pub invariant-loop-row : goal.invariant-loop-row
invariant-loop-row l =
    Rowing New (rows_of (book_in l.book)) l.initial.card l.card l.at l.row
