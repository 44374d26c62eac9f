-- What each turn keeps in the loops that read or write a number.
use mathlib.Core.Path.{◌≡◌, refl, sym, ap, ◌∙◌}
use mathlib.Core.List.{List, [], ◌∷◌, ◌++◌, append-nil}
use Prim.Native.Nat.{ℕ, zero, suc, ◌+◌, ◌-◌, ◌*◌, ◌/◌, ◌%◌, ◌^◌, ◌≤◌, ◌<◌}
use native.Mathlib.Nat.{add_comm, pow-le-pow_right}
use native.Mathlib.Numerals.{add-one}
use native.Mathlib.Omega.{arith}
use lib.ListN.{length, get_or, take, drop, set, length-set, length-drop, drop_of_length-le}
use lib.Seq.{length-take-le, take-suc, take_all, take-suc-set, append_snoc, get_or-drop, drop-cons}
use mir.Syntax.{w8}
use mir.Val.{Fits}
use Rattle.std.specs.List.{push}
use Rattle.octets.specs.Bytes.{written}
use Rattle.octets.specs.Numbers.{le, value, little_at, be, big_at}
use Rattle.octets.proofs.Elements.{bytes_lent}
use Rattle.octets.proofs.Written.{length_written, written_join, written_none, written_cons, written_snoc, copied_part}
use Rattle.octets.proofs.LowFirst.{le_length, number_fits}
use Rattle.octets.proofs.HighFirst.{be_length, big_fits}

-- ---- writing

-- the elements `more` are still to be written, from `p` on: then the list is the target
pub record Writing (old target new : List ℕ) (p : ℕ) (more : List ℕ) : Type 0 where
  pub long : length new ≡ length old
  pub rest : written p more new ≡ target

module _ (old target new : List ℕ) (p : ℕ) where
  -- the next element at the front, or at the back, is stored
  pub writing_front : (v : ℕ) (more : List ℕ) → p < length old → Writing old target new p (v ∷ more) → Writing old target (set new p v) (p + 1) more
  writing_front v more h w =
      let l = w.long in
      record { long = length-set new p v ∙ l; rest = sym (written_cons p v more new (omega arith)) ∙ w.rest }

  pub writing_back : (v : ℕ) (more : List ℕ) → p + length more < length old → Writing old target new p (more ++ (v ∷ []))
      → Writing old target (set new (p + length more) v) p more
  writing_back v more h w =
      let l = w.long in
      record { long = length-set new (p + length more) v ∙ l; rest = sym (written_snoc p v more new (omega arith)) ∙ w.rest }

  -- the next elements at the front are written
  pub writing_run : (xs more : List ℕ) (q : ℕ) → p + length xs ≡ q → q ≤ length old → Writing old target new p (xs ++ more)
      → (new' : List ℕ) → new' ≡ written p xs new → Writing old target new' q more
  writing_run xs more q e h w new' f =
      let l = w.long in
      record {
        long = ap length f ∙ length_written p xs new (omega arith) ∙ l;
        rest = ap (written q more) f ∙ written_join p q xs more new e (omega arith) ∙ w.rest;
      }

  pub writing_end : Writing old target new p [] → new ≡ target
  writing_end w = sym (written_none p new) ∙ w.rest

-- ---- `put_big`: the first `left` bytes are still to be written, and hold `rest`

abbrev pub PuttingHigh : List ℕ → ℕ → ℕ → ℕ → List ℕ → ℕ → ℕ → Type 0
PuttingHigh old at width x new rest left = (left ≤ width) × Writing old (written at (be width x) old) new at (be left rest)

module _ (old : List ℕ) (at width x : ℕ) where
  pub putting_high_start : PuttingHigh old at width x old x width
  putting_high_start = (omega arith, record { long = refl; rest = refl })

  pub putting_high_turn : (new : List ℕ) (rest left : ℕ) → at + width ≤ length old → 0 < left → PuttingHigh old at width x new rest left
      → PuttingHigh old at width x (set new (at + (left - 1)) (rest % 256)) (rest / 256) (left - 1)
  unfolding be
  putting_high_turn new rest left fits more c =
      let n = left - 1 in
      let e : left ≡ suc n = omega arith in
      let k = be_length n (rest / 256) in
      let h = c.0 in
      let w = writing_back old (written at (be width x) old) new at (rest % 256) (be n (rest / 256)) (omega arith) (rw e at c.1) in
      (omega arith, rw k at w)

  pub putting_high_end : (new : List ℕ) (rest left : ℕ) → left ≤ 0 → PuttingHigh old at width x new rest left → new ≡ written at (be width x) old
  unfolding be
  putting_high_end new rest left h c =
      let e : left ≡ 0 = omega arith in
      writing_end old (written at (be width x) old) new at (rw e at c.1)

-- ---- `put_little`: the front of the part holds the first bytes of the number, and `rest` what is left of it

module _
    (old : List ℕ) (at width x : ℕ) (within : at + width ≤ length old)
    (part : List ℕ) (long : length part ≡ length (take (at + width - at) (drop at old)))
  where
    part_long : length part ≡ width
    part_long = long ∙ length-take-le (at + width - at) (drop at old) (rw length-drop (omega arith)) ∙ omega arith

    pub putting_low_turn : (rest i : ℕ) → i < length part → take i part ++ le (width - i) rest ≡ le width x
        → take (i + 1) (set part i (rest % 256)) ++ le (width - (i + 1)) (rest / 256) ≡ le width x
    unfolding le
    putting_low_turn rest i h e =
        let n : width - i ≡ suc (width - (i + 1)) = omega (arith, part_long) in
        let front : take (i + 1) (set part i (rest % 256)) ≡ take i part ++ (rest % 256 ∷ []) = rw (add-one i) (take-suc-set part i (rest % 256) h) in
        rw (front, append_snoc) (rw n at e)

    pub putting_low_end : (rest i : ℕ) → length part ≤ i → take i part ++ le (width - i) rest ≡ le width x
        → take at old ++ (part ++ drop (at + width - at) (drop at old)) ≡ written at (le width x) old
    unfolding le
    putting_low_end rest i h e =
        let n : width - i ≡ 0 = omega (arith, part_long) in
        let k : at + width - at ≡ length (le width x) = omega (arith, le_length width x) in
        let p : part ≡ le width x = sym (append-nil part) ∙ rw (n, take_all i part h) at e in
        copied_part at (at + width - at) (le width x) part old p k

-- ---- reading: a number x, and the bytes that are left, behind it or before it

-- the lowest byte first: the next one is the last of those that are left
pub low_over : List ℕ → ℕ → ℕ
low_over [] x = x
low_over (b ∷ bs) x = b + 256 * low_over bs x

pub low_over_none : (bs : List ℕ) → low_over bs 0 ≡ value bs
unfolding low_over value
low_over_none [] = refl
low_over_none (b ∷ bs) = ap (λ (n : ℕ). b + 256 * n) (low_over_none bs)

pub low_over_last : (bs : List ℕ) (b x : ℕ) → low_over (bs ++ (b ∷ [])) x ≡ low_over bs (b + 256 * x)
unfolding low_over
low_over_last [] b x = refl
low_over_last (c ∷ bs) b x = ap (λ (n : ℕ). c + 256 * n) (low_over_last bs b x)

pub low_over_least : (bs : List ℕ) (x : ℕ) → x ≤ low_over bs x
unfolding low_over
low_over_least [] x = omega arith
low_over_least (b ∷ bs) x = omega (arith, low_over_least bs x)

-- the highest byte first
pub high_over : List ℕ → ℕ → ℕ
high_over [] x = x
high_over (b ∷ bs) x = high_over bs (b + 256 * x)

pub high_over_first : (bs : List ℕ) (b x : ℕ) → high_over (b ∷ bs) x ≡ high_over bs (b + 256 * x)
unfolding high_over
high_over_first bs b x = refl

pub high_over_last : (bs : List ℕ) (b x : ℕ) → high_over (bs ++ (b ∷ [])) x ≡ b + 256 * high_over bs x
unfolding high_over
high_over_last [] b x = refl
high_over_last (c ∷ bs) b x = high_over_last bs b (c + 256 * x)

pub high_over_least : (bs : List ℕ) (x : ℕ) → x ≤ high_over bs x
unfolding high_over
high_over_least [] x = omega arith
high_over_least (b ∷ bs) x = omega (arith, high_over_least bs (b + 256 * x))

pub high_over_none : (s : List ℕ) (at n : ℕ) → at + n ≤ length s → high_over (take n (drop at s)) 0 ≡ big_at s at n
unfolding high_over big_at
high_over_none s at zero h = refl
high_over_none s at (suc n) h =
    let l : n < length (drop at s) = rw length-drop (omega arith) in
    rw (take-suc (drop at s) n 0 l, get_or-drop)
    (high_over_last (take n (drop at s)) (get_or s (at + n) 0) 0 ∙ ap (λ (x : ℕ). get_or s (at + n) 0 + 256 * x) (high_over_none s at n (omega arith)))

-- ---- `little` and `big`: what is read fits, since it is no more than the whole

-- the whole, in so many bytes, at most eight; and a number on the way to it
eight : (n whole x : ℕ) → n ≤ 8 → whole < 256 ^ n → x ≤ whole → x < 2 ^ 64
eight n whole x h l m =
    let p : 256 ^ n ≤ 256 ^ 8 = pow-le-pow_right {n = 256} (omega arith) {i = n} {j = 8} h in
    omega arith

module _ (s : List ℕ) (at width : ℕ) (bytes : (k : ℕ) → Fits w8 (get_or s k 0)) (few : width ≤ 8) (within : at + width ≤ length s) where
  abbrev pub part : List ℕ
  part = take (at + width - at) (drop at s)

  part_of : part ≡ take width (drop at s)
  part_of = let e : at + width - at ≡ width = omega arith in rw e

  pub low_start : (bs : List ℕ) → bs ≡ part → low_over bs 0 ≡ little_at s at width
  unfolding little_at
  low_start bs e = ap (λ (b : List ℕ). low_over b 0) (e ∙ part_of) ∙ low_over_none (take width (drop at s))

  pub low_turn : (bs left : List ℕ) (b x : ℕ) → bs ≡ push left b → low_over bs x ≡ little_at s at width → low_over left (b + 256 * x) ≡ little_at s at width
  low_turn bs left b x e h = sym (low_over_last left b x) ∙ rw e at h

  pub low_fits : (bs left : List ℕ) (b x : ℕ) → bs ≡ push left b → low_over bs x ≡ little_at s at width → b + 256 * x < 2 ^ 64
  low_fits bs left b x e h =
      eight width (little_at s at width) (b + 256 * x) few (number_fits s (bytes_lent s bytes) at width within)
      (omega (arith, low_over_least left (b + 256 * x), low_turn bs left b x e h))

  pub low_end : (left : List ℕ) (x : ℕ) → length left ≡ 0 → low_over left x ≡ little_at s at width → (x ≡ little_at s at width) × (x < 256 ^ width)
  unfolding low_over
  low_end [] x e h = (h, rw h (number_fits s (bytes_lent s bytes) at width within))
  low_end (b ∷ left) x e h = absurd (omega arith)

  pub high_start : high_over part 0 ≡ big_at s at width
  high_start = rw part_of (high_over_none s at width within)

  pub high_turn : (i x : ℕ) → i < length part → high_over (drop i part) x ≡ big_at s at width
      → high_over (drop (i + 1) part) (256 * x + get_or part i 0) ≡ big_at s at width
  unfolding high_over
  high_turn i x l h = rw (add-one i, add_comm (256 * x) (get_or part i 0)) (rw (drop-cons part i 0 l) at h)

  pub high_fits : (i x : ℕ) → i < length part → high_over (drop i part) x ≡ big_at s at width → 256 * x + get_or part i 0 < 2 ^ 64
  high_fits i x l h =
      let y : ℕ = 256 * x + get_or part i 0 in
      eight width (big_at s at width) y few (big_fits s at width (bytes_lent s bytes))
      (omega (arith, high_over_least (drop (i + 1) part) y, high_turn i x l h))

  pub high_end : (i x : ℕ) → length part ≤ i → high_over (drop i part) x ≡ big_at s at width → (x ≡ big_at s at width) × (x < 256 ^ width)
  unfolding high_over
  high_end i x l h = let e : x ≡ big_at s at width = rw (drop_of_length-le part l) at h in
      (e, rw e (big_fits s at width (bytes_lent s bytes)))

-- ---- what the check finds the answers of each loop by

pub ruleset low_read = (low_start, low_fits, low_end)

pub ruleset high_read = (high_start, high_turn, high_fits, high_end)

pub ruleset low_put = (putting_low_turn, putting_low_end)
