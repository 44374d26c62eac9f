-- `book_card::count_rows` meets its contract: each turn keeps `Counting`, that reading on from here gives the whole answer (proofs/Counting.antt).
-- The measure is how many rows may still come.
use Prim.Native.Nat.{◌-◌}
use Rattle.key_book.specs.Limits.{rows_most}
use Rattle.book_card.proofs.Counting.{Counting}
use Rattle.book_card.proofs.reader.count_rows.Given as goal

abbrev pub invariant-loop-row : goal.invariant-loop-row
invariant-loop-row l = Counting l.form l.card l.left l.rows l.low

abbrev pub decreases-loop-row : goal.decreases-loop-row
decreases-loop-row l = rows_most - l.rows
