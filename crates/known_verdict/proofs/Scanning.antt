-- An argument read from its front, a character at a time: the laws of `id_behind` and `id_in`, one for each end and turn of `read_id`'s loop; and which words
-- and room hold one (specs/Laws.antt, `ArgumentSays`).
use mathlib.Core.Path.{◌≡◌, refl, sym, ap, ◌∙◌}
use mathlib.Core.Logic.{◌≢◌}
use mathlib.Core.Bool.{Bool, true, false, cond, ◌&&◌}
use mathlib.Core.List.{List, [], ◌∷◌}
use Prim.Native.Nat.{ℕ, ◌+◌, ◌≤◌, ◌<◌}
use native.Mathlib.Numerals.{add-one}
use native.Mathlib.Omega.{arith}
use borrow.Author.Tests.{lt-ltb, le-ltb, le-leb, lt-leb, ne_eqb}
use lib.Dec.{eqb}
use lib.ListN.{length, get_or, take, drop, drop_of_length-le}
use lib.Seq.{drop-cons}
use Rattle.std.specs.Prelude.{None, Option, Some}
use Rattle.verdict_line.specs.Decimal.{digit_zero}
use Rattle.known_verdict.specs.Argument.{ids_limit, digit_nine, digits_only, digit_behind, value_behind, id_behind, id_in}
use Rattle.known_verdict.specs.Argument.{words_wanted, argument_in, argument_of}
use Rattle.known_verdict.specs.Laws.{ArgumentSays}

-- more digits never make a number less
value_grows : (n : ℕ) (text : List ℕ) → n ≤ value_behind n text
unfolding value_behind
value_grows n [] = omega arith
value_grows n (c ∷ text) = omega (arith, value_grows (digit_behind n c) text)

-- the next character is a digit, or stands before or behind the digits; and nothing more is looked at once the limit is passed
module _ (n : ℕ) where
  digit_next : (c : ℕ) (text : List ℕ) → digit_zero ≤ c → c ≤ digit_nine → id_behind n (c ∷ text) ≡ id_behind (digit_behind n c) text
  unfolding id_behind digits_only value_behind
  digit_next c text l h = rw (le-leb digit_zero c l, le-leb c digit_nine h)

  before_digits : (c : ℕ) (text : List ℕ) → c < digit_zero → id_behind n (c ∷ text) ≡ None
  unfolding id_behind digits_only
  before_digits c text h = rw (lt-leb digit_zero c h)

  behind_digits : (c : ℕ) (text : List ℕ) → digit_nine < c → id_behind n (c ∷ text) ≡ None
  unfolding id_behind digits_only
  behind_digits c text h = let l : digit_zero ≤ c = omega arith in rw (le-leb digit_zero c l, lt-leb c digit_nine h)

  past_limit : (text : List ℕ) → ids_limit ≤ n → id_behind n text ≡ None
  unfolding id_behind
  past_limit text h =
      let g = value_grows n text in
      let l : ids_limit ≤ value_behind n text = omega arith in
      rw (le-ltb (value_behind n text) ids_limit l) (on (digits_only text))
    where
      on : (t : Bool) → cond (t && false) (Some (value_behind n text)) None ≡ None
      on true = refl
      on false = refl

  all_read : n < ids_limit → id_behind n [] ≡ Some n
  unfolding id_behind digits_only value_behind
  all_read h = rw (lt-ltb n ids_limit h)

-- ---- the loop

-- no character at all
pub empty_read : (text : List ℕ) → length text ≡ 0 → None ≡ id_in text
unfolding id_in
empty_read [] e = refl
empty_read (c ∷ text) e = absurd (omega arith)

pub read_starts : (text : List ℕ) → 0 < length text → id_behind 0 (drop 0 text) ≡ id_in text
unfolding id_in
read_starts [] h = absurd (omega arith)
read_starts (c ∷ text) h = refl

-- what is left, behind the number read so far, is the whole argument's id
module _ (text : List ℕ) (i n : ℕ) (e : id_behind n (drop i text) ≡ id_in text) where
  pub read_ends : length text ≤ i → n < ids_limit → Some n ≡ id_in text
  read_ends h l = sym (all_read n l) ∙ ap (id_behind n) (sym (drop_of_length-le text h)) ∙ e

  module _ (h : i < length text) where
    left : id_in text ≡ id_behind n (get_or text i 0 ∷ drop (i + 1) text)
    left = sym e ∙ rw (add-one, drop-cons text i 0)

    pub stops_before : get_or text i 0 < digit_zero → None ≡ id_in text
    stops_before l = sym (left ∙ before_digits n _ _ l)

    pub stops_behind : digit_nine < get_or text i 0 → None ≡ id_in text
    stops_behind l = sym (left ∙ behind_digits n _ _ l)

    module _ (low : digit_zero ≤ get_or text i 0) (high : get_or text i 0 ≤ digit_nine) where
      pub goes_on : id_behind (digit_behind n (get_or text i 0)) (drop (i + 1) text) ≡ id_in text
      goes_on = sym (left ∙ digit_next n _ _ low high)

      pub stops_past : ids_limit ≤ digit_behind n (get_or text i 0) → None ≡ id_in text
      stops_past l = sym (sym goes_on ∙ past_limit _ _ l)

-- the loop's turn and its ends
pub ruleset turns = (goes_on, stops_before, stops_behind, stops_past, empty_read, read_ends)

-- ---- the argument

pub argument_says : ArgumentSays
unfolding argument_in
argument_says = record {
  held = λ size room h. ap (λ (t : Bool). cond (eqb 2 words_wanted && t) (Some (take size room)) None) (le-leb size (length room) h);
  not_held = λ size room h. rw (lt-leb size (length room) h);
  not_one = λ words size room f. rw (ne_eqb words words_wanted f);
}

-- the ends of `read_argument`
module _ (words size : ℕ) (room : List ℕ) where
  pub other_words : words ≢ words_wanted → None ≡ argument_of (argument_in words size room)
  other_words f = sym (ap argument_of (argument_says.not_one words size room f))

  module _ (e : words ≡ words_wanted) where
    pub room_short : length room < size → None ≡ argument_of (argument_in words size room)
    room_short h = rw e (sym (ap argument_of (argument_says.not_held size room h)))

    pub room_holds : size ≤ length room → {asked : Option ℕ} → asked ≡ id_in (take size room) → asked ≡ argument_of (argument_in words size room)
    room_holds h a = rw e (a ∙ sym (ap argument_of (argument_says.held size room h)))
