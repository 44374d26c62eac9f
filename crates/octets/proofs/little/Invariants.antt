-- `octets::little` meets its contract: the number read so far, with the bytes that are left below it, is the whole (proofs/Loops.antt).
use Rattle.std.proofs.Common.{◌≡◌}
use Rattle.octets.specs.Numbers.{little_at}
use Rattle.octets.proofs.Loops.{low_over}
use Rattle.octets.proofs.little.Given as goal

abbrev pub invariant-loop-byte : goal.invariant-loop-byte
invariant-loop-byte l =
    (goal.iterator-loop-byte).can_next l.byte-iterator ×
    (goal.iterator-loop-byte).is_finite l.byte-iterator ×
    (low_over l.byte-iterator.iter.rest.now l.x ≡ little_at l.s l.at l.width)
