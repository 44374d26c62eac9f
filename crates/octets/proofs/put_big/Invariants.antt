-- `octets::put_big` meets its contract: each turn keeps `PuttingHigh`, that what is left of the number, put in front, gives the whole (proofs/Loops.antt).
use Rattle.octets.proofs.Loops.{PuttingHigh}
use Rattle.octets.proofs.put_big.Given as goal

abbrev pub invariant-loop-i : goal.invariant-loop-i
invariant-loop-i l = PuttingHigh l.initial.to l.at l.width l.x l.to l.rest l.i
