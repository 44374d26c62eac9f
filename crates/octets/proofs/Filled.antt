-- Laws of zeros, alone and behind a list.
use mathlib.Core.Path.{◌≡◌, refl, sym, ap, ◌∙◌}
use mathlib.Core.List.{List, ◌∷◌, ◌++◌}
use Prim.Native.Nat.{ℕ, zero, suc, ◌+◌, ◌-◌, ◌≤◌, ◌<◌}
use native.Mathlib.Nat.{zero-add}
use native.Mathlib.Omega.{arith}
use lib.ListN.{length, get_or, take, drop, length-append, length-replicate, get_or-replicate, get_or-append}
use lib.Seq.{take_at, drop_at, length-take-le, get_or-append-add}
use Rattle.octets.specs.Bytes.{written, zeros, filled}
use Rattle.octets.proofs.Written.{written_last, written_join}

pub take_zeros : (m n : ℕ) → m ≤ n → take m (zeros n) ≡ zeros m
take_zeros zero n h = refl
take_zeros (suc m) zero h = absurd (omega arith)
take_zeros (suc m) (suc n) h = ap (λ (l : List ℕ). 0 ∷ l) (take_zeros m n (omega arith))

pub drop_zeros : (m n : ℕ) → drop m (zeros n) ≡ zeros (n - m)
drop_zeros zero n = let e : n - 0 ≡ n = omega arith in rw e
drop_zeros (suc m) zero = let e : 0 - suc m ≡ 0 = omega arith in rw e
drop_zeros (suc m) (suc n) = let e : suc n - suc m ≡ n - m = omega arith in rw e (drop_zeros m n)

module _ (size : ℕ) (s : List ℕ) where
  pub filled_parts : filled size s ≡ s ++ zeros (size - length s)
  unfolding filled
  filled_parts = refl

  pub length_filled : length s ≤ size → length (filled size s) ≡ size
  unfolding filled
  length_filled h = simp (length-append, length-replicate) (omega arith)

  pub take_filled : (n : ℕ) → length s ≡ n → take n (filled size s) ≡ s
  unfolding filled
  take_filled n e = take_at s (zeros (size - length s)) n e

  pub drop_filled : (n : ℕ) → length s ≡ n → drop n (filled size s) ≡ zeros (size - n)
  unfolding filled
  drop_filled n e = drop_at s (zeros (size - length s)) n e ∙ ap (λ (k : ℕ). zeros (size - k)) e

  -- a list written over the front of zeros
  pub written_zeros : written 0 s (zeros size) ≡ filled size s
  unfolding written filled
  written_zeros = ap (λ (l : List ℕ). s ++ l) (ap (λ (n : ℕ). drop n (zeros size)) (zero-add (length s)) ∙ drop_zeros (length s) size)

-- a list cleared from an offset on
pub cleared_from : (at : ℕ) (old : List ℕ) → at ≤ length old → written at (zeros (length old - at)) old ≡ filled (length old) (take at old)
unfolding filled
cleared_from at old h =
    let e = length-take-le at old h in
    written_last at (zeros (length old - at)) old (omega (arith, length-replicate {A = ℕ} (length old - at) 0))
    ∙ ap (λ (n : ℕ). take at old ++ zeros (length old - n)) (sym e)

-- its bytes, and how it is written, the list first
module _ (size : ℕ) (s : List ℕ) (fits : length s ≤ size) where
  pub filled_in : (i : ℕ) → i < length s → get_or (filled size s) i 0 ≡ get_or s i 0
  unfolding filled
  filled_in i h = get_or-append s (zeros (size - length s)) 0 i h

  pub filled_behind : (i : ℕ) → length s ≤ i → i < size → get_or (filled size s) i 0 ≡ 0
  unfolding filled
  filled_behind i h l =
      let d : length s + (i - length s) ≡ i = omega arith in
      ap (λ (m : ℕ). get_or (s ++ zeros (size - length s)) m 0) (sym d)
      ∙ get_or-append-add s (zeros (size - length s)) (i - length s) 0
      ∙ get_or-replicate (size - length s) (i - length s) 0 0 (omega arith)

  pub written_filled : (at : ℕ) (old : List ℕ) → at + size ≤ length old
      → written (at + length s) (zeros (size - length s)) (written at s old) ≡ written at (filled size s) old
  unfolding filled
  written_filled at old h = written_join at (at + length s) s (zeros (size - length s)) old refl (omega arith)
