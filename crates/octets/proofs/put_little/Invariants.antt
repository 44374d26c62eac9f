-- `octets::put_little` meets its contract: the bytes up to here are written.
use Rattle.std.proofs.Common.{◌≡◌, ◌++◌, ◌-◌, take}
use Rattle.octets.specs.Numbers.{le}
use Rattle.octets.proofs.put_little.Given as goal

abbrev pub invariant-loop-byte : goal.invariant-loop-byte
invariant-loop-byte l = take l.byte-index l.byte-items ++ le (l.width - l.byte-index) l.rest ≡ le l.width l.x
