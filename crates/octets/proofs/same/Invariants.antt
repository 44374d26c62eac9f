-- `octets::same` meets its contract: what was compared so far, with what is left, gives the whole answer (proofs/Comparing.antt).
use Rattle.std.proofs.Common.{◌≡◌, length}
use mathlib.Core.Bool.{◌&&◌}
use Rattle.octets.specs.Bytes.{same_bytes}
use Rattle.octets.proofs.same.Given as goal

abbrev pub invariant-loop-x : goal.invariant-loop-x
invariant-loop-x l =
    (length l.x-iterator.a.rest.now ≡ length l.x-iterator.b.rest.now) ×
    ((l.agree && same_bytes l.x-iterator.a.rest.now l.x-iterator.b.rest.now) ≡ same_bytes l.a l.b)
