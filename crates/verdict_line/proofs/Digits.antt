-- Decimal digits: the recursion that the definition's count hides, and how many digits a number has.
use mathlib.Core.Path.{◌≡◌, refl, ap, ◌∙◌}
use mathlib.Core.Bool.{Bool, true, false, cond}
use mathlib.Core.List.{List, [], ◌∷◌, ◌++◌}
use Prim.Native.Nat.{ℕ, zero, suc, ◌+◌, ◌-◌, ◌/◌, ◌%◌, ◌^◌, ◌≤◌, ◌<◌}
use native.Mathlib.Nat.{pow-zero, pow-suc, div-lt_iff_lt-mul}
use native.Mathlib.Omega.{arith}
use borrow.Author.Tests.{lt-ltb, le-ltb, ltb-true, ltb-false}
use lib.Dec.{ltb}
use lib.ListN.{length, length-append}
use Rattle.verdict_line.specs.Decimal.{digit, digits_to, decimal}

-- any count above the number gives the same digits
enough : (m k n : ℕ) → n < m → n < k → digits_to m n ≡ digits_to k n
unfolding digits_to
enough zero k n p q = absurd (omega arith)
enough (suc m) zero n p q = absurd (omega arith)
enough (suc m) (suc k) n p q = on (ltb n 10) refl (enough m k (n / 10))
  where
    on : (t : Bool) → ltb n 10 ≡ t → (n / 10 < m → n / 10 < k → digits_to m (n / 10) ≡ digits_to k (n / 10))
        → cond t (digit n ∷ []) (digits_to m (n / 10) ++ (digit (n % 10) ∷ [])) ≡ cond t (digit n ∷ []) (digits_to k (n / 10) ++ (digit (n % 10) ∷ []))
    on true e go = refl
    on false e go =
        let h = ltb-false n 10 e in
        ap (λ (l : List ℕ). l ++ (digit (n % 10) ∷ [])) (go (omega arith) (omega arith))

pub decimal_one : (n : ℕ) → n < 10 → decimal n ≡ digit n ∷ []
unfolding decimal digits_to
decimal_one n h = rw (lt-ltb n 10 h)

pub decimal_more : (n : ℕ) → 10 ≤ n → decimal n ≡ decimal (n / 10) ++ (digit (n % 10) ∷ [])
unfolding decimal digits_to
decimal_more n h =
    let e : digits_to n (n / 10) ≡ digits_to (suc (n / 10)) (n / 10) = enough n (suc (n / 10)) (n / 10) (omega arith) (omega arith) in
    rw (le-ltb n 10 h) (ap (λ (l : List ℕ). l ++ (digit (n % 10) ∷ [])) e)

pub length_one : (n : ℕ) → n < 10 → length (decimal n) ≡ 1
length_one n h = ap length (decimal_one n h)

pub length_more : (n : ℕ) → 10 ≤ n → length (decimal n) ≡ length (decimal (n / 10)) + 1
length_more n h = ap length (decimal_more n h) ∙ length-append (decimal (n / 10)) (digit (n % 10) ∷ [])

-- a number below a power of ten has all its digits in as many as the exponent
digits_are : (k n : ℕ) → n < 10 ^ suc k → decimal n ≡ digits_to (suc k) n
unfolding digits_to
digits_are zero n h = let l : n < 10 = omega (arith, pow-suc 10 0, pow-zero 10) in rw (lt-ltb n 10 l) (decimal_one n l)
digits_are (suc k) n h =
    let l = (div-lt_iff_lt-mul {k = 10} {x = n} {y = 10 ^ suc k} (omega arith)).1 (rw pow-suc at h) in
    on (ltb n 10) refl (digits_are k (n / 10) l)
  where
    on : (t : Bool) → ltb n 10 ≡ t → decimal (n / 10) ≡ digits_to (suc k) (n / 10)
        → decimal n ≡ cond t (digit n ∷ []) (digits_to (suc k) (n / 10) ++ (digit (n % 10) ∷ []))
    on true e go = decimal_one n (ltb-true n 10 e)
    on false e go = decimal_more n (ltb-false n 10 e) ∙ ap (λ (s : List ℕ). s ++ (digit (n % 10) ∷ [])) go

digits_most : (k n : ℕ) → length (digits_to k n) ≤ k
unfolding digits_to
digits_most zero n = omega arith
digits_most (suc k) n = on (ltb n 10) (digits_most k (n / 10))
  where
    on : (t : Bool) → length (digits_to k (n / 10)) ≤ k → length (cond t (digit n ∷ []) (digits_to k (n / 10) ++ (digit (n % 10) ∷ []))) ≤ suc k
    on true h = omega arith
    on false h = simp length-append (omega arith)

pub length_below : (k n : ℕ) → n < 10 ^ suc k → length (decimal n) ≤ suc k
length_below k n h = omega (arith, ap length (digits_are k n h), digits_most (suc k) n)

-- a number of 64 bits has at most twenty digits, and the largest has twenty
pub length_word : (n : ℕ) → n < 2 ^ 64 → length (decimal n) ≤ 20
length_word n h = length_below 19 n (omega arith)

pub length_largest : length (decimal (2 ^ 64 - 1)) ≡ 20
unfolding digits_to
length_largest = ap length (digits_are 19 (2 ^ 64 - 1) (omega arith))
