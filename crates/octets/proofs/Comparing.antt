-- Laws of comparing two byte strings: byte after byte, and that they are the same exactly where the lists are equal.
use mathlib.Core.Path.{◌≡◌, refl, sym, ap}
use mathlib.Core.Logic.{◌≢◌, ◌⊎◌, inl, inr}
use mathlib.Core.Bool.{Bool, true, false, ◌&&◌, true≢false, and-eq-true_iff}
use mathlib.Core.List.{List, [], ◌∷◌}
use Prim.Native.Nat.{ℕ}
use native.Mathlib.Omega.{arith}
use borrow.Author.Tests.{eq-eqb, eqb-true}
use lib.Dec.{eqb}
use lib.ListN.{length}
use Rattle.octets.specs.Bytes.{same_bytes}

-- ---- one byte after the other

pub and_assoc : (a b c : Bool) → (a && b && c) ≡ (a && (b && c))
and_assoc true b c = refl
and_assoc false b c = refl

pub and_true : (a : Bool) → (a && true) ≡ a
and_true true = refl
and_true false = refl

pub same_turn : (s : Bool) (x y : ℕ) (xs ys p q : List ℕ) → p ≡ x ∷ xs → q ≡ y ∷ ys → length p ≡ length q
    → (length xs ≡ length ys) × ((s && eqb x y && same_bytes xs ys) ≡ (s && same_bytes p q))
unfolding same_bytes
same_turn s x y xs ys p q e f l = (omega (arith, ap length e, ap length f), rw (e, f) (and_assoc s (eqb x y) (same_bytes xs ys)))

-- one of the two is at its end, and so is the other
pub same_end : (s : Bool) (xs ys : List ℕ) → length xs ≡ length ys → (xs ≡ []) ⊎ (ys ≡ []) → s ≡ (s && same_bytes xs ys)
unfolding same_bytes
same_end s [] [] l h = sym (and_true s)
same_end s [] (y ∷ ys) l h = absurd (omega arith)
same_end s (x ∷ xs) [] l h = absurd (omega arith)
same_end s (x ∷ xs) (y ∷ ys) l h =
    elim h [
      | inl e ↦ absurd (omega (arith, ap length e))
      | inr e ↦ absurd (omega (arith, ap length e))
    ]

-- ---- `same_bytes` is true exactly where the lists are equal

pub same_equal : (xs ys : List ℕ) → same_bytes xs ys ≡ true → xs ≡ ys
unfolding same_bytes
same_equal [] [] e = refl
same_equal [] (y ∷ ys) e = absurd (true≢false (sym e))
same_equal (x ∷ xs) [] e = absurd (true≢false (sym e))
same_equal (x ∷ xs) (y ∷ ys) e =
    let w = (and-eq-true_iff (eqb x y) (same_bytes xs ys)).0 e in
    let h = eqb-true x y w.0 in
    let t = same_equal xs ys w.1 in
    cc

same_itself : (xs : List ℕ) → same_bytes xs xs ≡ true
unfolding same_bytes
same_itself [] = refl
same_itself (x ∷ xs) = rw (eq-eqb x x refl) (same_itself xs)

pub equal_same : (xs ys : List ℕ) → xs ≡ ys → same_bytes xs ys ≡ true
equal_same xs ys e = rw (← e) (same_itself xs)

pub same_differ : (xs ys : List ℕ) → same_bytes xs ys ≡ false → xs ≢ ys
same_differ xs ys e g = let t = equal_same xs ys g in let z : ◌≡◌ {A = ℕ} 0 1 = cc in omega arith

pub differ_same : (xs ys : List ℕ) → xs ≢ ys → same_bytes xs ys ≡ false
differ_same xs ys h = on (same_bytes xs ys) refl
  where
    on : (t : Bool) → same_bytes xs ys ≡ t → t ≡ false
    on true e = absurd (h (same_equal xs ys e))
    on false e = refl

-- lists of two lengths are not the same
pub lengths_differ : (xs ys : List ℕ) → length xs ≢ length ys → false ≡ same_bytes xs ys
lengths_differ xs ys h = sym (differ_same xs ys (λ e. h (ap length e)))
