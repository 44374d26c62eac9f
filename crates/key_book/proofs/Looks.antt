-- How many ids a search by halving looks at: no more than the count has binary digits, and for some lists as many. The only law file that unfolds
-- `digits_in` and `binary_digits`.
use mathlib.Core.Path.{◌≡◌, refl, sym, ap, ◌∙◌}
use mathlib.Core.Logic.{◌↔◌}
use mathlib.Core.List.{List}
use Prim.Native.Nat.{ℕ, zero, suc, ◌+◌, ◌-◌, ◌/◌, ◌^◌, ◌≤◌, ◌<◌}
use native.Mathlib.Nat.{pow-zero, pow-suc, le_refl}
use native.Mathlib.Decide.{dec_le}
use native.Mathlib.Omega.{arith}
use borrow.Author.Tests.{ne_eqb}
use lib.ListN.{get_or}
use Rattle.key_book.specs.Halving.{middle, Halves, ended, met, before, after, Taken, halved, known_of, looks_of, digits_in, binary_digits}
use Rattle.key_book.specs.Known.{DigitsSay, FewLooks}
use Rattle.key_book.specs.declared.Sought.{Sought}
use Rattle.key_book.specs.declared.Sought.TheVariants.{Stands, Missing, Unsized}
use Rattle.key_book.proofs.Halves.{middle_within, search_halves, known_taken, known_says, halves_holds}
use Rattle.std.specs.Prelude.{None, Option, Some}

-- ---- binary digits

digits_none : (most : ℕ) → digits_in most 0 ≡ 0
unfolding digits_in
digits_none zero = refl
digits_none (suc most) = refl

digits_more : (most n : ℕ) → 0 < n → digits_in (suc most) n ≡ digits_in most (n / 2) + 1
unfolding digits_in
digits_more most n h = rw (ne_eqb n 0 (λ e. omega arith))

-- halving a number takes a digit off
half_below : (n d : ℕ) → (n < 2 ^ suc d) ↔ (n / 2 < 2 ^ d)
half_below n d = let p = pow-suc 2 d in (λ h. omega arith, λ h. omega arith)

power_above : (d : ℕ) → 0 < 2 ^ d
power_above zero = let p = pow-zero 2 in omega arith
power_above (suc d) = let p = pow-suc 2 d in let h = power_above d in omega arith

-- however many halves are looked at, if they are as many as the number
abbrev LeastIn : (most n d : ℕ) → Type 0
LeastIn most n d = (digits_in most n ≤ d) ↔ (n < 2 ^ d)

of_zero : (most d : ℕ) → LeastIn most 0 d
of_zero most d = let p = power_above d in let z = digits_none most in (λ l. p, λ l. omega arith)

of_half : (most n d : ℕ) → 0 < n → ((e : ℕ) → LeastIn most (n / 2) e) → LeastIn (suc most) n d
of_half most n zero h half = let z = digits_more most n h in let p = pow-zero 2 in (λ l. absurd (omega arith), λ l. absurd (omega arith))
of_half most n (suc d) h half =
    let z = digits_more most n h in
    let b = half_below n d in
    (λ l. b.1 ((half d).0 (omega arith)), λ l. (let m = (half d).1 (b.0 l) in omega arith))

digits_say_in : (most n d : ℕ) → n ≤ most → LeastIn most n d
digits_say_in zero n d h = let z : n ≡ 0 = omega arith in rw z (of_zero zero d)
digits_say_in (suc most) n d h = elim (dec_le 1 n) [
  | yes l ↦ of_half most n d l (λ e. digits_say_in most (n / 2) e (omega arith))
  | no l ↦ let z : n ≡ 0 = omega arith in rw z (of_zero (suc most) d)
]

pub digits_say : DigitsSay
unfolding binary_digits
digits_say n d = digits_say_in n n d (le_refl n)

-- ---- looks

module _ (ids : List ℕ) (id : ℕ) where
  -- either part that may be kept is at most half of what was left, less the one looked at
  few_looks_in : {low high looks : ℕ} {row : Option ℕ} → Halves ids id low high row looks → (d : ℕ) → high - low < 2 ^ d → looks ≤ d
  few_looks_in (ended h) d l = omega arith
  few_looks_in (met h e) zero l = let p = pow-zero 2 in absurd (omega arith)
  few_looks_in (met h e) (suc d) l = omega arith
  few_looks_in (before h m s) zero l = let p = pow-zero 2 in absurd (omega arith)
  few_looks_in (before h m s) (suc d) l =
      let p = pow-suc 2 d in
      let w = middle_within h in
      let r = few_looks_in s d (omega arith) in
      omega arith
  few_looks_in (after h m s) zero l = let p = pow-zero 2 in absurd (omega arith)
  few_looks_in (after h m s) (suc d) l =
      let p = pow-suc 2 d in
      let w = middle_within h in
      let r = few_looks_in s d (omega arith) in
      omega arith

  -- where every id is larger, the part before the middle is kept each time, which is half of what was left
  all_larger : {low high looks : ℕ} {row : Option ℕ} → Halves ids id low high row looks → low ≡ 0 → ((k : ℕ) → k < high → id < get_or ids k 0)
      → (most : ℕ) → high ≤ most → looks ≡ digits_in most high
  all_larger {low} {high} (ended h) z a most m = let e : high ≡ 0 = omega arith in rw (e, digits_none most)
  all_larger {low} {high} (met h e) z a most m = absurd (let l = a (middle low high) (middle_within h).1 in omega arith)
  all_larger (before h l s) z a zero m = absurd (omega arith)
  all_larger {low} {high} (before h l s) z a (suc most) m =
      let w = middle_within h in
      let r = all_larger s z (λ k b. a k (omega arith)) most (omega arith) in
      let e : middle low high ≡ high / 2 = omega arith in
      ap (λ (n : ℕ). n + 1) (r ∙ ap (digits_in most) e) ∙ sym (digits_more most high (omega arith))
  all_larger {low} {high} (after h l s) z a most m = absurd (let g = a (middle low high) (middle_within h).1 in omega arith)

module _ (ids : List ℕ) (count id : ℕ) where
  few : {looks : ℕ} {row : Option ℕ} → Taken ids count × Halves ids id 0 count row looks → looks ≤ 11
  few s = few_looks_in ids id s.1 11 (let t = s.0 in omega arith)

  at_most : (s : Sought) → known_of ids count id ≡ s → looks_of s ≤ 11
  at_most (Stands k looks) e = few ((known_says.stands ids count id k looks).0 e)
  at_most (Missing looks) e = few ((known_says.missing ids count id looks).0 e)
  at_most Unsized e = omega arith

pub few_looks : FewLooks
unfolding binary_digits
few_looks = record {
  by_digits = λ ids count id looks row s. few_looks_in ids id s (binary_digits count)
      (let l = (digits_say count (binary_digits count)).0 (le_refl (binary_digits count)) in omega arith);
  reached = λ ids count id looks row a s. all_larger ids id s refl a count (le_refl count);
  at_most_11 = λ ids count id. at_most ids count id (known_of ids count id) refl;
}

-- so an id below all is not found, by as many looks
pub larger_missing : (ids : List ℕ) (count id : ℕ) → Taken ids count → ((k : ℕ) → k < count → id < get_or ids k 0)
    → known_of ids count id ≡ Missing (binary_digits count)
larger_missing ids count id t a = on (halved ids count id).row refl
  where
    on : (o : Option ℕ) → (halved ids count id).row ≡ o → known_of ids count id ≡ Missing (binary_digits count)
    on None e = known_taken ids count id t ∙ rw (e, few_looks.reached ids count id _ _ a (search_halves ids id count))
    on (Some k) e =
        let h = halves_holds ids id (search_halves ids id count) k e in
        absurd (let l = a k h.below_high in let n = h.named in omega arith)
