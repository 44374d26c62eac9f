-- `card_pieces::read_rows` meets its contract: each turn keeps `Passing`, that reading on from here leaves what the whole leaves (proofs/Passing.antt).
-- The measure is how many bytes are left.
use Prim.Native.Nat.{◌-◌}
use lib.ListN.{length}
use Rattle.key_book.specs.Lent.{room_in, SameRoom}
use Rattle.card_pieces.proofs.Passing.{Passing}
use Rattle.card_pieces.proofs.records.read_rows.Given as goal

abbrev pub invariant-loop-at : goal.invariant-loop-at
invariant-loop-at l =
    Passing l.form l.s l.before l.least
    (room_in l.initial.room 0)
    (room_in l.room 0) l.at l.rows l.low × SameRoom l.initial.room l.room

abbrev pub decreases-loop-at : goal.decreases-loop-at
decreases-loop-at l =
    length l.s - l.at
