-- What one read means (`after_read`), a law for each end of the decision; and what the loop that reads a file needs of it.
use Prim.Native.Nat.{ℕ, ◌+◌, ◌≤◌, ◌<◌}
use mathlib.Core.Path.{◌≡◌, refl}
use mathlib.Core.Bool.{Bool, true, false, cond}
use native.Mathlib.Omega.{arith}
use borrow.Author.Tests.{le-leb, lt-leb, leb-true, ne_eqb, eqb-false}
use lib.Dec.{leb, eqb}
use Rattle.file_verdict.specs.Files.{after_read}
use Rattle.file_verdict.specs.declared.Progress.{Progress}
use Rattle.file_verdict.specs.declared.Progress.TheVariants.{Ended, More}
use Rattle.std.specs.Prelude.{None, Some, Option}

module _ (have room : ℕ) where
  pub read_failed : Ended None ≡ after_read have room None
  unfolding after_read
  read_failed = refl

  pub read_end : Ended (Some have) ≡ after_read have room (Some 0)
  unfolding after_read
  read_end = refl

  pub read_more : (n : ℕ) → 0 < n → have + n ≤ room → More (have + n) ≡ after_read have room (Some n)
  unfolding after_read
  read_more n p h = rw (ne_eqb n 0 (λ e. omega arith), le-leb (have + n) room h)

  pub read_too_much : (n : ℕ) → 0 < n → room < have + n → Ended None ≡ after_read have room (Some n)
  unfolding after_read
  read_too_much n p h = rw (ne_eqb n 0 (λ e. omega arith), lt-leb (have + n) room h)

-- one turn of a loop that reads: a file that has ended has as many bytes as were read before, and what goes on has more, and no more than the room
abbrev pub ReadTurn : ℕ → ℕ → Progress → Type 0
ReadTurn have room (Ended None) = Unit {0}
ReadTurn have room (Ended (Some n)) = n ≡ have
ReadTurn have room (More n) = (have < n) × (n ≤ room)

pub read_turn : (have room : ℕ) (got : Option ℕ) → ReadTurn have room (after_read have room got)
unfolding after_read
read_turn have room None = tt
read_turn have room (Some n) = on (eqb n 0) refl (leb (have + n) room) refl
  where
    on : (t : Bool) → eqb n 0 ≡ t → (u : Bool) → leb (have + n) room ≡ u
        → ReadTurn have room (cond t (Ended (Some have)) (cond u (More (have + n)) (Ended None)))
    on true e u f = refl
    on false e false f = tt
    on false e true f =
        let z = eqb-false n 0 e in
        let l = leb-true (have + n) room f in
        (omega arith, l)
