-- `octets::big` meets its contract: the number read so far, with the bytes that are left behind it, is the whole (proofs/Loops.antt).
use Rattle.std.proofs.Common.{◌≡◌, drop}
use Rattle.octets.specs.Numbers.{big_at}
use Rattle.octets.proofs.Loops.{high_over}
use Rattle.octets.proofs.big.Given as goal

abbrev pub invariant-loop-byte : goal.invariant-loop-byte
invariant-loop-byte l = high_over (drop l.byte-index l.byte-items) l.x ≡ big_at l.s l.at l.width
