-- Laws of a list's first bytes: `starts` is equality with as many bytes in front, and is decided byte by byte.
use mathlib.Core.Path.{◌≡◌, refl, sym, ap, ap₂, ◌∙◌}
use mathlib.Core.Logic.{◌≢◌}
use Prim.Native.Nat.{ℕ, ◌+◌, ◌≤◌, ◌<◌}
use native.Mathlib.Numerals.{add-one}
use native.Mathlib.Omega.{arith}
use mathlib.Core.Bool.{Bool, true, false, ◌&&◌}
use mathlib.Core.List.{List, [], ◌∷◌, ◌++◌}
use lib.ListN.{length, take, drop, get_or}
use lib.Seq.{drop-cons}
use lib.Dec.{eqb}
use borrow.Author.Tests.{eqb-true, eqb-false, eq-eqb, ne_eqb}
use Rattle.octets.specs.Bytes.{starts}

pub and_true : (a b : Bool) → (a && b) ≡ true → (a ≡ true) × (b ≡ true)
and_true true b h = (refl, h)
and_true false b h = let z : ◌≡◌ {A = ℕ} 0 1 = cc in absurd (omega arith)

pub starts_true : (xs ys : List ℕ) → starts xs ys ≡ true → take (length xs) ys ≡ xs
starts_true [] ys h = refl
starts_true (x ∷ xs) [] h = let z : ◌≡◌ {A = ℕ} 0 1 = cc in absurd (omega arith)
starts_true (x ∷ xs) (y ∷ ys) h =
    let s = and_true (eqb y x) (starts xs ys) h in
    ap₂ (λ (a : ℕ) (l : List ℕ). a ∷ l) (eqb-true y x s.0) (starts_true xs ys s.1)

pub starts_taken : (xs ys : List ℕ) → take (length xs) ys ≡ xs → starts xs ys ≡ true
starts_taken [] ys h = refl
starts_taken (x ∷ xs) [] h = let z : ◌≡◌ {A = ℕ} 0 1 = cc in absurd (omega arith)
starts_taken (x ∷ xs) (y ∷ ys) h =
    let a : y ≡ x = cc in
    let b : take (length xs) ys ≡ xs = cc in
    by (eqb y x) refl a (starts_taken xs ys b)
  where
    by : (t : Bool) → eqb y x ≡ t → y ≡ x → starts xs ys ≡ true → (eqb y x && starts xs ys) ≡ true
    by true e q s = rw (e, s)
    by false e q s = absurd (eqb-false y x e q)

pub starts_append : (xs p q : List ℕ) → length xs ≤ length p → starts xs (p ++ q) ≡ starts xs p
starts_append [] p q h = refl
starts_append (x ∷ xs) [] q h = absurd (omega arith)
starts_append (x ∷ xs) (y ∷ p) q h = ap (λ (t : Bool). eqb y x && t) (starts_append xs p q (omega arith))

pub starts_short : (xs ys : List ℕ) → length ys < length xs → false ≡ starts xs ys
starts_short [] ys h = absurd (omega arith)
starts_short (x ∷ xs) [] h = refl
starts_short (x ∷ xs) (y ∷ ys) h = by (eqb y x) (starts_short xs ys (omega arith))
  where
    by : (t : Bool) → false ≡ starts xs ys → false ≡ (t && starts xs ys)
    by true e = e
    by false e = refl

-- byte by byte: one that differs ends it, one that agrees goes on with the next, the last one decides
module _ (m : List ℕ) (at x : ℕ) (h : at < length m) where
  pub starts_byte : (xs : List ℕ) → starts (x ∷ xs) (drop at m) ≡ (eqb (get_or m at 0) x && starts xs (drop (at + 1) m))
  starts_byte xs = rw (drop-cons m at 0 h, add-one)

  pub starts_miss : (xs : List ℕ) → get_or m at 0 ≢ x → false ≡ starts (x ∷ xs) (drop at m)
  starts_miss xs n = sym (starts_byte xs ∙ rw (ne_eqb _ _ n))

  pub starts_hit : (xs : List ℕ) (next : ℕ) (r : Bool) → at + 1 ≡ next → get_or m at 0 ≡ x → r ≡ starts xs (drop next m) → r ≡ starts (x ∷ xs) (drop at m)
  starts_hit xs next r n e s = s ∙ ap (λ (k : ℕ). starts xs (drop k m)) (sym n) ∙ sym (starts_byte xs ∙ rw (eq-eqb _ _ e))

  pub starts_last : eqb (get_or m at 0) x ≡ starts (x ∷ []) (drop at m)
  starts_last = sym (starts_byte [] ∙ by (eqb (get_or m at 0) x))
    where
      by : (t : Bool) → (t && true) ≡ t
      by true = refl
      by false = refl

-- bytes that don't start so are others
pub starts_not : (xs ys : List ℕ) → starts xs ys ≡ false → take (length xs) ys ≢ xs
starts_not xs ys h e = let t = starts_taken xs ys e in let w : ◌≡◌ {A = ℕ} 0 1 = cc in omega arith
