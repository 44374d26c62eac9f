-- `book_card::all_heard` meets its contract: each turn keeps `Hearing`, that the rows which are left decide (proofs/Moves.antt).
use Rattle.book_card.proofs.Moves.{Hearing}
use Rattle.book_card.proofs.moving.all_heard.Given as goal

abbrev pub invariant-loop-row : goal.invariant-loop-row
invariant-loop-row l = Hearing l.card.form l.card.bytes.now l.card.rows l.row-iterator
