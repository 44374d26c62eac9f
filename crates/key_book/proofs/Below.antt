-- A test of every number below a bound (`all_below`): what it says when it holds and when it fails, and a loop over it.
use mathlib.Core.Path.{◌≡◌, refl, sym, ap, ap₂}
use mathlib.Core.Logic.{⊎_elim}
use mathlib.Core.Bool.{Bool, true, false, ◌&&◌, and-eq-true_iff, and-true, and_assoc}
use mathlib.Core.List.{List}
use Prim.Native.Nat.{ℕ, zero, suc, ◌+◌, ◌≤◌, ◌<◌}
use native.Mathlib.Nat.{eq-or-lt_of_le, le_of_suc-le-suc, lt_trans}
use native.Mathlib.Numerals.{add-one}
use native.Mathlib.Omega.{arith}
use lib.ListN.{length, get_or, take}
use lib.Seq.{length-take-le, get_or-take}
use Rattle.key_book.specs.Book.{all_below}

-- a test that cannot hold fails
pub is_false : (t : Bool) → (t ≡ true → ⊥) → false ≡ t
is_false true h = absurd (h refl)
is_false false h = refl

pub both : (s t : Bool) → s ≡ true → t ≡ true → (s && t) ≡ true
both s t e f = (and-eq-true_iff s t).1 (e, f)

module _ (p : ℕ → Bool) where
  pub all_says : (n : ℕ) → all_below p n ≡ true → (k : ℕ) → k < n → p k ≡ true
  unfolding all_below
  all_says zero e k h = absurd (omega arith)
  all_says (suc n) e k h =
      let t = (and-eq-true_iff (all_below p n) (p n)).0 e in
      ⊎_elim (λ (q : k ≡ n). rw q t.1) (λ (l : k < n). all_says n t.0 k l) (eq-or-lt_of_le (le_of_suc-le-suc h))

  pub all_holds : (n : ℕ) → ((k : ℕ) → k < n → p k ≡ true) → all_below p n ≡ true
  unfolding all_below
  all_holds zero h = refl
  all_holds (suc n) h = both (all_below p n) (p n) (all_holds n (λ k l. h k (omega arith))) (h n (omega arith))

  -- a loop over them, turn by turn
  pub below_none : all_below p 0 ≡ true
  unfolding all_below
  below_none = refl

  pub below_more : (k : ℕ) → all_below p (k + 1) ≡ (all_below p k && p k)
  unfolding all_below
  below_more k = rw add-one refl

  -- the first number apart
  pub below_front : (n : ℕ) → all_below p (suc n) ≡ (p 0 && all_below (λ k. p (suc k)) n)
  unfolding all_below
  below_front zero = sym (and-true (p 0))
  below_front (suc n) = rw (below_front n) (and_assoc (p 0) (all_below (λ k. p (suc k)) n) (p (suc n)))

-- two tests that agree below the bound
pub all_alike : (p q : ℕ → Bool) (n : ℕ) → ((k : ℕ) → k < n → p k ≡ q k) → all_below p n ≡ all_below q n
unfolding all_below
all_alike p q zero h = refl
all_alike p q (suc n) h = ap₂ (λ (s t : Bool). s && t) (all_alike p q n (λ k l. h k (omega arith))) (h n (omega arith))

-- a loop over the first n elements of a list, which is at their end
pub taken_end : (p : ℕ → Bool) (xs : List ℕ) (n k : ℕ) → n ≤ length xs → length (take n xs) ≤ k → k ≤ length (take n xs)
    → all_below (λ i. p (get_or (take n xs) i 0)) k ≡ all_below (λ i. p (get_or xs i 0)) n
taken_end p xs n k h l m =
    let t = length-take-le n xs h in
    let e : k ≡ n = omega arith in
    rw e (all_alike _ _ n (λ i b. ap p (get_or-take n xs i 0 b)))

-- what ascends from each place to the next ascends
pub ascends : (f : ℕ → ℕ) (n : ℕ) → ((k : ℕ) → k + 1 < n → f k < f (k + 1)) → (j k : ℕ) → j < k → k < n → f j < f k
ascends f n h j zero l m = absurd (omega arith)
ascends f n h j (suc k) l m =
    let s : f k < f (suc k) = rw add-one at (h k (omega arith)) in
    ⊎_elim (λ (q : j ≡ k). rw q s) (λ (r : j < k). lt_trans (ascends f n h j k r (omega arith)) s) (eq-or-lt_of_le (le_of_suc-le-suc l))
