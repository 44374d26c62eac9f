-- Numbers with the highest byte first, of any width: a number's bytes give it back, and the number depends on its bytes alone.
use mathlib.Core.Path.{◌≡◌, refl, sym, ap, ap₂, ◌∙◌}
use mathlib.Core.List.{List, [], ◌∷◌, ◌++◌, append_assoc}
use Prim.Native.Nat.{ℕ, zero, suc, ◌+◌, ◌*◌, ◌/◌, ◌%◌, ◌^◌, ◌≤◌, ◌<◌}
use native.Mathlib.Nat.{add_assoc, zero-add, pow-zero, pow-suc, div-lt_iff_lt-mul, mod-add-div, mod-lt}
use native.Mathlib.Numerals.{add-one}
use native.Mathlib.Omega.{arith}
use lib.ListN.{length, drop, get_or, length-append, get_or-append}
use lib.Seq.{drop_at, get_or-drop, get_or-append_seam}
use Rattle.octets.specs.Bytes.{Bytes}
use Rattle.octets.specs.Numbers.{be, big_at}
use Rattle.octets.proofs.Elements.{bytes_at_lem, bytes_append}

pub be_length : (n x : ℕ) → length (be n x) ≡ n
unfolding be
be_length zero x = refl
be_length (suc n) x = length-append (be n (x / 256)) (x % 256 ∷ []) ∙ ap (λ (k : ℕ). k + 1) (be_length n (x / 256)) ∙ add-one n

pub bytes_be : (n x : ℕ) → Bytes (be n x)
unfolding be
bytes_be zero x = tt
bytes_be (suc n) x = bytes_append (be n (x / 256)) (x % 256 ∷ []) (bytes_be n (x / 256)) (mod-lt x {m = 256} (omega arith), tt)

-- the same bytes at another place give the same number
pub big_same : (m x : List ℕ) (i j n : ℕ) → ((k : ℕ) → k < n → get_or m (i + k) 0 ≡ get_or x (j + k) 0) → big_at m i n ≡ big_at x j n
unfolding big_at
big_same m x i j zero g = refl
big_same m x i j (suc n) g = ap₂ (λ (a b : ℕ). a + 256 * b) (g n (omega arith)) (big_same m x i j n (λ k h. g k (omega arith)))

pub big_fits : (s : List ℕ) (at n : ℕ) → Bytes s → big_at s at n < 256 ^ n
unfolding big_at
big_fits s at zero h = let e = pow-zero 256 in omega arith
big_fits s at (suc n) h =
    let l = big_fits s at n h in
    let e = pow-suc 256 n in
    omega (arith, bytes_at_lem s h (at + n))

-- a number is read as it was written
pub big_be : (n x : ℕ) (t : List ℕ) → x < 256 ^ n → big_at (be n x ++ t) 0 n ≡ x
unfolding be big_at
big_be zero x t h = let e = pow-zero 256 in omega arith
big_be (suc n) x t h =
    let y = x / 256 in
    let l : y < 256 ^ n = (div-lt_iff_lt-mul {k = 256} {x = x} {y = 256 ^ n} (omega arith)).1 (rw pow-suc at h) in
    let a : (be n y ++ (x % 256 ∷ [])) ++ t ≡ be n y ++ (x % 256 ∷ t) = append_assoc (be n y) (x % 256 ∷ []) t in
    let g : get_or (be n y ++ (x % 256 ∷ t)) n 0 ≡ x % 256 =
    ap (λ (k : ℕ). get_or (be n y ++ (x % 256 ∷ t)) k 0) (sym (be_length n y)) ∙ get_or-append_seam (be n y) (x % 256) t 0 in
    ap₂ (λ (s : List ℕ) (k : ℕ). get_or s k 0 + 256 * big_at s 0 n) a (zero-add n)
    ∙ ap₂ (λ (p q : ℕ). p + 256 * q) g (big_be n y (x % 256 ∷ t) l)
    ∙ mod-add-div x 256

-- from an offset on, behind other bytes, and before others
pub big_from : (s : List ℕ) (at more n : ℕ) → big_at (drop at s) more n ≡ big_at s (at + more) n
big_from s at more n =
    big_same (drop at s) s more (at + more) n
    (λ k h. get_or-drop at s (more + k) 0 ∙ ap (λ (i : ℕ). get_or s i 0) (sym (add_assoc at more k)))

pub big_behind : (p s : List ℕ) (at n : ℕ) → big_at (p ++ s) (length p + at) n ≡ big_at s at n
big_behind p s at n = sym (big_from (p ++ s) (length p) at n) ∙ ap (λ (l : List ℕ). big_at l at n) (drop_at p s (length p) refl)

pub big_append : (s t : List ℕ) (at n : ℕ) → at + n ≤ length s → big_at (s ++ t) at n ≡ big_at s at n
big_append s t at n h = big_same (s ++ t) s at at n (λ k l. get_or-append s t 0 (at + k) (omega arith))
