-- What a message in full form is known to have: its tokens, where its options 90 and 82 stand, and what its option 90 says.
use mathlib.Core.Path.{◌≡◌, refl, sym, ap, ap₂, ◌∙◌}
use Prim.Native.Nat.{ℕ, ◌+◌, ◌≤◌}
use native.Mathlib.Omega.{arith}
use mathlib.Core.Bool.{true}
use mathlib.Core.List.{List, ◌∷◌, ◌++◌}
use lib.ListN.{length, take, drop, get_or, length-drop}
use lib.Seq.{drop-drop, take-append-le, drop-append-le}
use Rattle.octets.specs.Bytes.{starts}
use Rattle.octets.specs.Numbers.{big_at}
use Rattle.octets.proofs.HighFirst.{big_from, big_append}
use Rattle.dhcp_message.specs.Layout.{delayed}
use Rattle.dhcp_message.specs.Options.{Token, encode}
use Rattle.dhcp_message.specs.Message.{option_of, offset_of, Checked, stopped, passed, checked_of}
use Rattle.dhcp_message.specs.Shape.{places_of}
use Rattle.dhcp_message.specs.Said.{says, said_of, auth_of, form_said, form_in, form_of}
use Rattle.dhcp_message.specs.declared.Auth.{Auth}
use Rattle.dhcp_message.proofs.Tokens.{Split}
use Rattle.dhcp_message.proofs.Passing.{Passing, passing, form_in_lem, said_passed, from_option, inside, split_90, length_byte, option_length}
use Rattle.dhcp_message.proofs.Forms.{said_full, only_full}
use Rattle.std.specs.Prelude.{Ok}

pub record Fully (m : List ℕ) (a : Auth) : Type 0 where
  pub tokens : List Token
  pub rest : List ℕ
  pub passing : Passing m tokens rest
  pub long : get_or (option_of 90 tokens) 1 0 ≡ 31
  pub method : starts delayed (drop 2 (option_of 90 tokens)) ≡ true
  pub is : a ≡ auth_of (places_of tokens) (big_at (option_of 90 tokens) 5 8) (big_at (option_of 90 tokens) 13 4)

pub fully : (m : List ℕ) (a : Auth) → form_of m ≡ Ok a → Fully m a
fully m a e = by (checked_of m) refl (sym (form_in_lem m) ∙ e)
  where
    by : (c : Checked) → checked_of m ≡ c → form_in c ≡ Ok a → Fully m a
    by (stopped r) h e = let z : ◌≡◌ {A = ℕ} 0 1 = cc in absurd (omega arith)
    by (passed ts rest) h e =
        let w = only_full (option_of 90 ts) (places_of ts) a e in
        let f = sym (ap (form_said (places_of ts)) (said_full (option_of 90 ts) w.0 w.1)) ∙ e in
        record { tokens = ts; rest = rest; passing = passing m ts rest h; long = w.0; method = w.1; is = cc }

module _ {m : List ℕ} {a : Auth} (y : Fully m a) where
  abbrev pub option : List ℕ
  option = option_of 90 y.tokens

  -- its tokens around option 90
  abbrev pub parts : Split 90 y.tokens
  parts = split_90 y.passing

  abbrev behind : List ℕ
  behind = encode parts.back ++ (255 ∷ y.rest)

  pub at_is : a.at ≡ offset_of 90 y.tokens
  at_is = ap (λ (a : Auth). a.at) y.is

  pub cut_is : a.cut ≡ offset_of 82 y.tokens
  cut_is = ap (λ (a : Auth). a.cut) y.is

  pub gap_is : a.gap ≡ length (option_of 82 y.tokens)
  gap_is = ap (λ (a : Auth). a.gap) y.is

  pub counter_is : a.counter ≡ big_at option 5 8
  counter_is = ap (λ (a : Auth). a.counter) y.is

  pub id_is : a.id ≡ big_at option 13 4
  id_is = ap (λ (a : Auth). a.id) y.is

  pub body_long : length parts.body ≡ 31
  body_long = sym (length_byte y.passing) ∙ y.long

  option_long : length option ≡ 33
  option_long = omega (arith, option_length y.passing, y.long)

  pub at_late : 240 ≤ a.at
  at_late = omega (arith, at_is)

  pub option_inside : a.at + 33 ≤ length m
  option_inside = omega (arith, inside y.passing parts, option_long, at_is)

  pub from_at : drop a.at m ≡ option ++ behind
  from_at = ap (λ (n : ℕ). drop n m) at_is ∙ from_option y.passing parts

  -- a number of option 90, and its MAC, where they stand in the message
  number_there : (at n : ℕ) → at + n ≤ 33 → big_at option at n ≡ big_at m (a.at + at) n
  number_there at n h =
      sym (big_append option behind at n (omega (arith, option_long)))
      ∙ ap (λ (l : List ℕ). big_at l at n) (sym from_at) ∙ big_from m a.at at n

  pub counter_there : a.counter ≡ big_at m (a.at + 5) 8
  counter_there = counter_is ∙ number_there 5 8 (omega arith)

  pub id_there : a.id ≡ big_at m (a.at + 13) 4
  id_there = id_is ∙ number_there 13 4 (omega arith)

  mac_there : take 16 (drop 17 option) ≡ take 16 (drop (a.at + 17) m)
  mac_there =
      let l : 17 ≤ length option = omega (arith, option_long) in
      let n : 16 ≤ length (drop 17 option) = rw length-drop (omega (arith, option_long)) in
      sym (take-append-le 16 (drop 17 option) behind n)
      ∙ ap (take 16) (sym (drop-append-le 17 option behind l) ∙ ap (drop 17) (sym from_at) ∙ drop-drop 17 a.at m)

  pub said_there : said_of m ≡ says a.counter a.id (take 16 (drop (a.at + 17) m))
  said_there =
      said_passed y.passing ∙ said_full option y.long y.method
      ∙ ap₂ (λ (c i : ℕ). says c i (take 16 (drop 17 option))) (sym counter_is) (sym id_is)
      ∙ ap (says a.counter a.id) mac_there
