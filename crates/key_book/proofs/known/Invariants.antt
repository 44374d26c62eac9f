-- `key_book::known` meets its contract: each turn keeps `Halving`, that what the steps come to in the rows left they come to in all (proofs/Halves.antt).
-- The measure is how many rows are left.
use Prim.Native.Nat.{◌-◌}
use Rattle.key_book.proofs.Halves.{Halving}
use Rattle.key_book.proofs.known.Given as goal

abbrev pub invariant-loop-low : goal.invariant-loop-low
invariant-loop-low l = Halving l.ids l.count l.id l.low l.high l.looks

abbrev pub decreases-loop-low : goal.decreases-loop-low
decreases-loop-low l = l.high - l.low
