-- `book_card::put_moved` meets its contract: each turn keeps `Copying`, that the rows that came stand in the room and that with what is left written the
-- whole card does (proofs/Moves.antt).
use Rattle.book_card.proofs.Moves.{Copying}
use Rattle.book_card.proofs.moving.put_moved.Given as goal

abbrev pub invariant-loop-row : goal.invariant-loop-row
invariant-loop-row l = Copying l.wanted l.card.form l.card.bytes.now l.card.rows l.initial.room l.room l.row-iterator l.to
