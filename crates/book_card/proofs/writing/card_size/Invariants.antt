-- `book_card::card_size` meets its contract: each turn keeps `Summing`, the size of the rows passed (proofs/Writes.antt).
use Rattle.book_card.proofs.Writes.{Summing}
use Rattle.book_card.proofs.writing.card_size.Given as goal

abbrev pub invariant-loop-length : goal.invariant-loop-length
invariant-loop-length l = Summing l.fn.lengths l.rows l.size l.length-index
