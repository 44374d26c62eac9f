-- How a number is shown to be the lowest that applies: an answer is right if it names what applies with nothing lower, or nothing applies at all.
-- Numbers tell refusals apart, so a right answer's number is the lowest (`lowest`).
use Prim.Native.Nat.{ℕ, ◌+◌}
use native.Mathlib.Decide.{dec_lt}
use native.Mathlib.Omega.{arith}
use mathlib.Core.Path.{◌≡◌, refl}
use Rattle.refusal.specs.declared.Refusal.{Refusal}
use Rattle.refusal.specs.Number.{number_of, done}
use Rattle.refusal.specs.Lowest.{NothingBelow, Lowest}
use Rattle.refusal.proofs.Names.{numbers_tell}
use Rattle.std.specs.Prelude.{None, Option, Some}

-- the number of an answer that may be a refusal
abbrev pub number_by : Option Refusal → ℕ
number_by None = done
number_by (Some r) = number_of r

module _ (A : Refusal → Type 0) where
  -- ---- below a number

  -- nothing has a number below 1
  pub nothing_first : NothingBelow A 1
  nothing_first q l a = omega (arith, numbers_tell.not_done q)

  -- one that doesn't apply makes it one more
  pub nothing_more : (r : Refusal) → NothingBelow A (number_of r) → (A r → ⊥) → NothingBelow A (number_of r + 1)
  nothing_more r h n q l a =
      elim (dec_lt (number_of q) (number_of r)) [
        | yes g ↦ h q g a
        | no g ↦ n (rw (numbers_tell.apart q r (omega arith)) at a)
      ]

  -- nothing below any number is nothing at all
  pub nothing_below_any : ((n : ℕ) → NothingBelow A n) → (r : Refusal) → A r → ⊥
  nothing_below_any h r a = h (number_of r + 1) r (omega arith) a

  -- ---- a right answer

  abbrev pub Right : Option Refusal → Type 0
  Right None = (r : Refusal) → A r → ⊥
  Right (Some r) = A r × NothingBelow A (number_of r)

  refused_to : (o : Option Refusal) → Right o → (r : Refusal) → number_by o ≡ number_of r → A r × NothingBelow A (number_of r)
  refused_to None h r e = absurd (omega (arith, e, numbers_tell.not_done r))
  refused_to (Some q) h r e = rw (numbers_tell.apart q r e) at h

  refused_from : (o : Option Refusal) → Right o → (r : Refusal) → A r × NothingBelow A (number_of r) → number_by o ≡ number_of r
  refused_from None h r a = absurd (h r a.0)
  refused_from (Some q) h r a =
      elim (dec_lt (number_of q) (number_of r)) [
        | yes l ↦ absurd (a.1 q l h.0)
        | no l ↦ elim (dec_lt (number_of r) (number_of q)) [
          | yes g ↦ absurd (h.1 r g a.0)
          | no g ↦ omega arith
        ]
      ]

  done_to : (o : Option Refusal) → Right o → number_by o ≡ done → (r : Refusal) → A r → ⊥
  done_to None h e = h
  done_to (Some q) h e = absurd (omega (arith, e, numbers_tell.not_done q))

  done_from : (o : Option Refusal) → Right o → ((r : Refusal) → A r → ⊥) → number_by o ≡ done
  done_from None h f = refl
  done_from (Some q) h f = absurd (f q h.0)

  pub lowest : (o : Option Refusal) → Right o → Lowest A (number_by o)
  lowest o h = record { refused = λ r. (refused_to o h r, refused_from o h r); none_applies = (done_to o h, done_from o h) }
