-- Checks 2 to 7 by the tests of the code: what the pass over the options finds decides 5 to 7 as the definitions on tokens do.
use mathlib.Core.Path.{◌≡◌, refl, sym, ap, ◌∙◌}
use mathlib.Core.Logic.{◌⊎◌, inl, inr}
use Prim.Native.Nat.{ℕ, ◌+◌, ◌≤◌, ◌<◌}
use native.Mathlib.Nat.{zero-add}
use native.Mathlib.Omega.{arith}
use mathlib.Core.Bool.{Bool, true, false, cond}
use mathlib.Core.List.{List}
use lib.ListN.{length, drop}
use lib.Dec.{ltb, eqb}
use borrow.Author.Tests.{eqb-true, eqb-false, ltb-true, ltb-false}
use Rattle.refusal.specs.declared.Refusal.TheVariants.{MessageSize, WrongCookie, BrokenOptions}
use Rattle.refusal.specs.declared.Refusal.TheVariants.{NoAuthentication, RepeatedAuthentication, RelayInformation}
use Rattle.octets.specs.Bytes.{starts}
use Rattle.dhcp_message.specs.Layout.{magic_cookie}
use Rattle.dhcp_message.specs.Options.{Token, Parsed, broken, parsed, encode, decode}
use Rattle.dhcp_message.specs.Message.{count, checked_tokens, checked_parsed}
use Rattle.dhcp_message.specs.Scan.{scan_parsed, empty_tally, scan_of}
use Rattle.dhcp_message.specs.Scan.{shape_found}
use Rattle.dhcp_message.specs.Shape.{places_of, shape_in, shape_of}
use Rattle.dhcp_message.specs.declared.scan.Tally.{Tally}
use Rattle.dhcp_message.specs.declared.Places.{Places}
use Rattle.dhcp_message.proofs.Tokens.{once, option_none, before_none}
use Rattle.dhcp_message.proofs.Turns.{head_start}
use Rattle.dhcp_message.proofs.Found.{place, size, resume, scan_is, place_once, size_once}
use Rattle.dhcp_message.proofs.Passing.{by_tests, by_tests_lem, shape_in_lem, checks_short, checks_long, checks_cookie, checks_options}
use Rattle.std.specs.Prelude.{Err, None, Ok, Option, Result, Some}
use Rattle.dhcp_message.specs.declared.scan.Scanned.{Scanned}
use Rattle.refusal.specs.declared.Refusal.{Refusal}
use Rattle.dhcp_message.specs.Scan.{scan_to}

-- ---- checks 5 to 7

abbrev shape_scan : Option Scanned → Result Places Refusal
shape_scan None = Err BrokenOptions
shape_scan (Some a) = shape_found a.found a.end

module _ (ts : List Token) (rest : List ℕ) where
  abbrev places₀ : Places
  places₀ = record { at = place 90 240 0 ts; cut = 240 + length (encode ts); gap = 0 }

  abbrev places₁ : Places
  places₁ = record { at = place 90 240 0 ts; cut = place 82 240 0 ts; gap = size 82 0 ts }

  same_places₀ : count 90 ts ≡ 1 → count 82 ts ≡ 0 → places₀ ≡ places_of ts
  same_places₀ a r i = record {
    at = place_once 90 ts a 240 0 i;
    cut = ap (λ (us : List Token). 240 + length (encode us)) (sym (before_none 82 ts r)) i;
    gap = ap length (sym (option_none 82 ts r)) i;
  }

  same_places₁ : count 90 ts ≡ 1 → count 82 ts ≡ 1 → places₁ ≡ places_of ts
  same_places₁ a r i = record {
    at = place_once 90 ts a 240 0 i;
    cut = place_once 82 ts r 240 0 i;
    gap = size_once 82 ts r 0 i;
  }

  abbrev by_pass : Bool → Bool → Bool → Bool → Result Places Refusal
  by_pass x y z w =
      cond x (Err NoAuthentication)
      (cond y (Err RepeatedAuthentication)
      (cond z (Ok places₀) (cond w (Err RelayInformation) (Ok places₁))))

  found_by : (x y z w : Bool) → eqb (count 90 ts) 0 ≡ x → ltb 1 (count 90 ts) ≡ y → eqb (count 82 ts) 0 ≡ z → ltb 1 (count 82 ts) ≡ w
      → by_pass x y z w ≡ shape_in (by_tests ts rest x y w)
  found_by true y z w hx hy hz hw = refl
  found_by false true z w hx hy hz hw = refl
  found_by false false z w hx hy hz hw = by z w (once (count 90 ts) (eqb-false (count 90 ts) 0 hx) (ltb-false 1 (count 90 ts) hy)) hz hw
    where
      by : (z w : Bool) → count 90 ts ≡ 1 → eqb (count 82 ts) 0 ≡ z → ltb 1 (count 82 ts) ≡ w
          → by_pass false false z w ≡ shape_in (by_tests ts rest false false w)
      by true true a hz hw = absurd (omega (arith, eqb-true (count 82 ts) 0 hz, ltb-true 1 (count 82 ts) hw))
      by true false a hz hw = ap Ok (same_places₀ a (eqb-true (count 82 ts) 0 hz))
      by false true a hz hw = refl
      by false false a hz hw = ap Ok (same_places₁ a (once (count 82 ts) (eqb-false (count 82 ts) 0 hz) (ltb-false 1 (count 82 ts) hw)))

  found_tokens : shape_found (resume empty_tally 240 ts) (240 + length (encode ts)) ≡ shape_in (checked_tokens ts rest)
  unfolding shape_found
  found_tokens =
      rw (zero-add (count 90 ts), zero-add (count 82 ts)) (found_by _ _ _ _ refl refl refl refl) ∙ ap shape_in (sym (by_tests_lem ts rest))

shape_scan_lem : (p : Parsed) → shape_scan (scan_parsed empty_tally 240 p) ≡ shape_in (checked_parsed p)
shape_scan_lem broken = refl
shape_scan_lem (parsed ts rest) = ap shape_scan (scan_is ts empty_tally 240) ∙ found_tokens ts rest

-- ---- checks 2 to 7, by the tests of `shape_of`

module _ (m : List ℕ) where
  pub shape_size : (length m < 241) ⊎ ((241 ≤ length m) × (1472 < length m)) → Err MessageSize ≡ shape_of m
  shape_size (inl h) = sym (shape_in_lem m ∙ ap shape_in (checks_short m h))
  shape_size (inr h) = sym (shape_in_lem m ∙ ap shape_in (checks_long m h.0 h.1))

  module _ (h₀ : 241 ≤ length m) where
    module _ (h₁ : length m ≤ 1472) (k : Bool) (ek : k ≡ starts magic_cookie (drop 236 m)) where
      pub shape_cookie : k ≡ false → Err WrongCookie ≡ shape_of m
      shape_cookie h = sym (shape_in_lem m ∙ ap shape_in (checks_cookie m h₀ h₁ (sym ek ∙ h)))

      module _ (t : k ≡ true) where
        shape_go : shape_scan (scan_of m) ≡ shape_of m
        shape_go =
            ap shape_scan (sym (head_start m))
            ∙ shape_scan_lem (decode (drop 240 m))
            ∙ sym (shape_in_lem m ∙ ap shape_in (checks_options m h₀ h₁ (sym ek ∙ t)))

        pub shape_broken : None ≡ scan_of m → Err BrokenOptions ≡ shape_of m
        shape_broken e = ap shape_scan e ∙ shape_go

        pub shape_whole : (f : Tally) (e : ℕ) (s : Result Places Refusal) → scan_to f e ≡ scan_of m → s ≡ shape_found f e → s ≡ shape_of m
        shape_whole f e s w j = j ∙ ap shape_scan w ∙ shape_go
