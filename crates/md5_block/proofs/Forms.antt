-- Laws of bits and of sums of words: the forms in which a step is written out are those of RFC 1321.
use Rattle.std.proofs.Common.{◌≡◌, ℕ, zero, suc, ◌+◌, ◌-◌, ◌*◌, ◌/◌, ◌%◌, ◌^◌, ◌<◌, refl, ap, ◌∙◌, pow-suc, arith}
use lib.Bits.{bit_and, bit_or, bit_xor, and_shr, or_shr, xor_shr, and_mod, or_mod, xor_mod, and_zero_r, or_zero_r, or_self, or_disjoint, xor_add_and}
use Rattle.md5_block.specs.Word.{not32, add32, rotl}

-- ---- bit by bit

-- two numbers are equal when their halves and their lowest bits are
halves : (x y : ℕ) → x / 2 ≡ y / 2 → x % 2 ≡ y % 2 → x ≡ y
halves x y p q = omega arith

module _ (a b : ℕ) where
  and_half : bit_and a b / 2 ≡ bit_and (a / 2) (b / 2)
  and_half = and_shr a b 1

  or_half : bit_or a b / 2 ≡ bit_or (a / 2) (b / 2)
  or_half = or_shr a b 1

  xor_half : bit_xor a b / 2 ≡ bit_xor (a / 2) (b / 2)
  xor_half = xor_shr a b 1

  and_low : bit_and a b % 2 ≡ bit_and (a % 2) (b % 2)
  and_low = and_mod a b 1

  or_low : bit_or a b % 2 ≡ bit_or (a % 2) (b % 2)
  or_low = or_mod a b 1

  xor_low : bit_xor a b % 2 ≡ bit_xor (a % 2) (b % 2)
  xor_low = xor_mod a b 1

-- a word of one bit more: its half, and "not" of it by halves
module _ (k b : ℕ) (h : b < 2 ^ suc k) where
  twice : 2 ^ suc k ≡ 2 ^ k * 2
  twice = pow-suc 2 k

  half_lt : b / 2 < 2 ^ k
  half_lt = omega (arith, twice)

  flip_half : ((2 ^ suc k - 1) - b) / 2 ≡ (2 ^ k - 1) - b / 2
  flip_half = omega (arith, twice)

  flip_low : ((2 ^ suc k - 1) - b) % 2 ≡ 1 - b % 2
  flip_low = omega (arith, twice)

none : (b : ℕ) → b < 1 → b ≡ 0
none b h = omega arith

-- what holds of 0 and of 1 holds of the lowest bit of any number
bit : (P : ℕ → Type 0) → P 0 → P 1 → (n : ℕ) → n < 2 → P n
bit P p q zero h = p
bit P p q (suc zero) h = q
bit P p q (suc (suc n)) h = absurd (omega arith)

low : (P : ℕ → Type 0) → P 0 → P 1 → (b : ℕ) → P (b % 2)
low P p q b = bit P p q (b % 2) (omega arith)

-- ---- F: where b has a 1 take c's bit, else d's

choose_low : (b c d : ℕ)
    → bit_xor (d % 2) (bit_and (b % 2) (bit_xor (c % 2) (d % 2))) ≡ bit_or (bit_and (b % 2) (c % 2)) (bit_and (1 - b % 2) (d % 2))
choose_low b c d =
    low (λ (p : ℕ). bit_xor (d % 2) (bit_and p (bit_xor (c % 2) (d % 2))) ≡ bit_or (bit_and p (c % 2)) (bit_and (1 - p) (d % 2)))
    (low (λ (r : ℕ). bit_xor r (bit_and 0 (bit_xor (c % 2) r)) ≡ bit_or (bit_and 0 (c % 2)) (bit_and 1 r)) refl refl d)
    (low (λ (r : ℕ). bit_xor r (bit_and 1 (bit_xor (c % 2) r)) ≡ bit_or (bit_and 1 (c % 2)) (bit_and 0 r))
    (low (λ (q : ℕ). bit_xor 0 (bit_and 1 (bit_xor q 0)) ≡ bit_or (bit_and 1 q) (bit_and 0 0)) refl refl c)
    (low (λ (q : ℕ). bit_xor 1 (bit_and 1 (bit_xor q 1)) ≡ bit_or (bit_and 1 q) (bit_and 0 1)) refl refl c)
    d)
    b

choose : (k b c d : ℕ) → b < 2 ^ k → d < 2 ^ k → bit_xor d (bit_and b (bit_xor c d)) ≡ bit_or (bit_and b c) (bit_and ((2 ^ k - 1) - b) d)
choose zero b c d hb hd = rw (none b hb, none d hd)
choose (suc k) b c d hb hd =
    halves _ _
    (simp (and_half, or_half, xor_half) (rw (flip_half k b hb) (choose k (b / 2) (c / 2) (d / 2) (half_lt k b hb) (half_lt k d hd))))
    (simp (and_low, or_low, xor_low) (rw (flip_low k b hb) (choose_low b c d)))

-- ---- G: its two parts share no bit, so that their sum is G

apart_low : (b c d : ℕ) → bit_and (bit_and b (d % 2)) (bit_and c (1 - d % 2)) ≡ 0
apart_low b c d = low (λ (p : ℕ). bit_and (bit_and b p) (bit_and c (1 - p)) ≡ 0) (rw (and_zero_r b)) (rw (and_zero_r c, and_zero_r (bit_and b 1))) d

apart : (k b c d : ℕ) → d < 2 ^ k → bit_and (bit_and b d) (bit_and c ((2 ^ k - 1) - d)) ≡ 0
apart zero b c d hd = rw (none d hd, and_zero_r b)
apart (suc k) b c d hd =
    halves _ _
    (simp and_half (rw (flip_half k d hd) (apart k (b / 2) (c / 2) (d / 2) (half_lt k d hd))))
    (simp and_low (rw (flip_low k d hd) (apart_low (b % 2) (c % 2) d)))

-- ---- sums of words

-- by their bits: those that differ, and twice those that both have
pub sum_by_bits : (x y : ℕ) → add32 (bit_xor x y) ((bit_and x y * 2) % 2 ^ 32) ≡ add32 x y
sum_by_bits x y = let e : bit_xor x y + bit_and x y * 2 ≡ x + y = xor_add_and x y in omega arith

inner_left : (x y : ℕ) → add32 (x % 2 ^ 32) y ≡ add32 x y
inner_left x y = omega arith

inner_right : (x y : ℕ) → add32 x (y % 2 ^ 32) ≡ add32 x y
inner_right x y = omega arith

-- RFC 1321 adds f, the word and the constant to a, in this order; `s` is a with word and constant
module _ (a x t : ℕ) {s : ℕ} (e : s ≡ add32 a (add32 x t)) where
  pub in_order_lem : (f : ℕ) → add32 s f ≡ add32 (add32 (add32 a f) x) t
  in_order_lem f =
      let p : a + (x + t) + f ≡ a + f + x + t = omega arith in
      rw (e, inner_right a (x + t), inner_left (a + (x + t)) f, inner_left (a + f) x, inner_left (a + f + x) t) (ap (λ (n : ℕ). n % 2 ^ 32) p)

  -- f as a sum of two parts
  parts_in_order : (u v : ℕ) → add32 (add32 s u) v ≡ add32 (add32 (add32 a (v + u)) x) t
  parts_in_order u v =
      let p : s + u + v ≡ s + (v + u) = omega arith in
      inner_left (s + u) v ∙ ap (λ (n : ℕ). n % 2 ^ 32) p ∙ in_order_lem (v + u)

-- ---- a step's sum in the two rounds that have another form of it

module _ (a b c d x t : ℕ) {s : ℕ} (e : s ≡ add32 a (add32 x t)) (hd : d < 2 ^ 32) where
  pub first_sum : b < 2 ^ 32 → add32 s (bit_xor d (bit_and b (bit_xor c d))) ≡ add32 (add32 (add32 a (bit_or (bit_and b c) (bit_and (not32 b) d))) x) t
  first_sum hb = rw (choose 32 b c d hb hd) (in_order_lem a x t e (bit_or (bit_and b c) (bit_and (not32 b) d)))

  pub second_sum : {u : ℕ} → u ≡ add32 s (bit_and c (not32 d))
      → add32 u (bit_and b d) ≡ add32 (add32 (add32 a (bit_or (bit_and b d) (bit_and c (not32 d)))) x) t
  second_sum p =
      rw (p, or_disjoint (bit_and b d) (bit_and c (not32 d)) (apart 32 b c d hd)) (parts_in_order a x t e (bit_and c (not32 d)) (bit_and b d))

-- ---- a rotation

pub turns : (x s : ℕ) → x < 2 ^ 32 → s < 32 → bit_or ((x * 2 ^ s) % 2 ^ 32) (x / 2 ^ ((32 - s) % 32)) ≡ rotl x s
unfolding rotl
turns x zero h l =
    let e : x * 1 % 2 ^ 32 ≡ x = omega arith in
    let f : x / 2 ^ 32 ≡ 0 = omega arith in
    let g : x / 1 ≡ x = omega arith in
    rw (e, f, g, or_self x, or_zero_r x)
turns x (suc s) h l =
    let e : (32 - suc s) % 32 ≡ 32 - suc s = omega arith in
    rw e
