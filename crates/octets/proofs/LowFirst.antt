-- Numbers with the lowest byte first, of any width: a number's bytes give it back, and bytes are those of their number.
use mathlib.Core.Path.{◌≡◌, refl, sym, ap, ap₂, ◌∙◌}
use mathlib.Core.List.{List, [], ◌∷◌, ◌++◌}
use Prim.Native.Nat.{ℕ, zero, suc, ◌+◌, ◌*◌, ◌/◌, ◌%◌, ◌^◌, ◌≤◌, ◌<◌}
use native.Mathlib.Nat.{zero-add, pow-zero, pow-suc, div-lt_iff_lt-mul, mod-add-div, mod-lt, mod-eq_of_lt}
use native.Mathlib.Nat.{add-mul-mod_self_left, add-mul-div_left, div-eq_of_lt}
use native.Mathlib.Omega.{arith}
use lib.ListN.{length, take, drop, length-drop, take-append-drop}
use lib.Seq.{drop-drop, take_at, drop_at, length-take-le, take-append-le, drop-append-le}
use Rattle.octets.specs.Bytes.{Bytes}
use Rattle.octets.specs.Numbers.{le, value, little_at}
use Rattle.octets.proofs.Elements.{bytes_take, bytes_drop}

pub le_length : (n x : ℕ) → length (le n x) ≡ n
unfolding le
le_length zero x = refl
le_length (suc n) x = ap suc (le_length n (x / 256))

pub value_le : (n x : ℕ) → x < 256 ^ n → value (le n x) ≡ x
unfolding le value
value_le zero x h = let e = pow-zero 256 in omega arith
value_le (suc n) x h =
    let l : x / 256 < 256 ^ n = (div-lt_iff_lt-mul {k = 256} {x = x} {y = 256 ^ n} (omega arith)).1 (rw pow-suc at h) in
    rw (value_le n (x / 256) l) (mod-add-div x 256)

pub value_bound : (s : List ℕ) → Bytes s → value s < 256 ^ length s
unfolding value
value_bound [] h = let e = pow-zero 256 in omega arith
value_bound (b ∷ s) h =
    let t = value_bound s h.1 in
    let f = h.0 in
    let e = pow-suc 256 (length s) in
    omega arith

pub le_value : (s : List ℕ) → Bytes s → le (length s) (value s) ≡ s
unfolding le value
le_value [] h = refl
le_value (b ∷ s) h =
    let m : (b + 256 * value s) % 256 ≡ b = add-mul-mod_self_left b 256 (value s) ∙ mod-eq_of_lt h.0 in
    let d : (b + 256 * value s) / 256 ≡ value s =
    add-mul-div_left b (value s) {y = 256} (omega arith) ∙ ap (λ (n : ℕ). n + value s) (div-eq_of_lt h.0) ∙ zero-add (value s) in
    rw (m, d) (ap (λ (l : List ℕ). b ∷ l) (le_value s h.1))

pub bytes_le : (n x : ℕ) → Bytes (le n x)
unfolding le
bytes_le zero x = tt
bytes_le (suc n) x = (mod-lt x {m = 256} (omega arith), bytes_le n (x / 256))

-- the number at an offset within the list
module _ (s : List ℕ) (h : Bytes s) (at width : ℕ) (fits : at + width ≤ length s) where
  field_long : length (take width (drop at s)) ≡ width
  field_long = length-take-le width (drop at s) (rw length-drop (omega arith))

  pub number_fits : little_at s at width < 256 ^ width
  unfolding little_at
  number_fits = rw field_long at (value_bound (take width (drop at s)) (bytes_take width (drop at s) (bytes_drop at s h)))

  -- what stands there is the number's bytes, and then what follows them
  pub number_split : (x : ℕ) (t : List ℕ) → little_at s at width ≡ x → drop (at + width) s ≡ t → drop at s ≡ le width x ++ t
  unfolding little_at
  number_split x t e f =
      let part = take width (drop at s) in
      let b : le (length part) (value part) ≡ part = le_value part (bytes_take width (drop at s) (bytes_drop at s h)) in
      let g : part ≡ le width x = sym b ∙ ap₂ le field_long e in
      sym (take-append-drop width (drop at s)) ∙ ap₂ (λ (y z : List ℕ). y ++ z) g (drop-drop width at s ∙ f)

pub number_from : (s : List ℕ) (at more width : ℕ) → little_at (drop at s) more width ≡ little_at s (at + more) width
unfolding little_at
number_from s at more width = ap (λ (l : List ℕ). value (take width l)) (drop-drop more at s)

-- what stands behind the number does not matter
pub number_append : (p q : List ℕ) (at width : ℕ) → at + width ≤ length p → little_at (p ++ q) at width ≡ little_at p at width
unfolding little_at
number_append p q at width h =
    let l : at ≤ length p = omega arith in
    let m : width ≤ length (drop at p) = rw length-drop (omega arith) in
    ap (λ (x : List ℕ). value (take width x)) (drop-append-le at p q l) ∙ ap value (take-append-le width (drop at p) q m)

-- a number within a part
pub number_part : (s : List ℕ) (a n at width : ℕ) → a + n ≤ length s → at + width ≤ n → little_at (take n (drop a s)) at width ≡ little_at s (a + at) width
number_part s a n at width h k =
    let d = drop a s in
    let l : at + width ≤ length (take n d) = rw (length-take-le n d (rw length-drop (omega arith))) k in
    sym (number_append (take n d) (drop n d) at width l)
    ∙ ap (λ (x : List ℕ). little_at x at width) (take-append-drop n d)
    ∙ number_from s a at width

-- where a number's bytes stand at an offset: the number there, and what follows it
pub number_of : (s : List ℕ) (at width x : ℕ) (t : List ℕ) → drop at s ≡ le width x ++ t → x < 256 ^ width
    → (little_at s at width ≡ x) × (drop (at + width) s ≡ t)
unfolding little_at
number_of s at width x t e h = (
  ap (λ (l : List ℕ). value (take width l)) e ∙ ap value (take_at (le width x) t width (le_length width x)) ∙ value_le width x h,
  sym (drop-drop width at s) ∙ ap (drop width) e ∙ drop_at (le width x) t width (le_length width x),
)
