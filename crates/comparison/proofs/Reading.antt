-- The parts of a message that passes checks 2 to 7. Of the laws these alone unfold `parts_of`.
use mathlib.Core.Path.{◌≡◌, refl, sym, ap, ◌∙◌, subst}
use Prim.Native.Nat.{ℕ}
use mathlib.Core.List.{List}
use lib.ListN.{take}
use Rattle.dhcp_message.specs.Options.{Token}
use Rattle.dhcp_message.specs.Message.{Checked, stopped, passed, checked_of, Passed as PassedChecks, Passes27}
use Rattle.dhcp_message.specs.Shape.{places_of, shape_in, shape_of}
use Rattle.dhcp_message.specs.declared.Places.{Places}
use Rattle.dhcp_message.proofs.Passing.{Passing, passing, tokens_of, shape_in_lem, checks}
use Rattle.comparison.specs.Difference.{Parts, parts_in, parts_of}
use Rattle.std.specs.Prelude.{Ok}

pub parts_passed : {m : List ℕ} {ts : List Token} {rest : List ℕ} → Passing m ts rest
    → parts_of m ≡ record { header = take 240 m; tokens = ts; rest = rest }
unfolding parts_of
parts_passed {m} p = ap (parts_in (take 240 m)) p.reads

module _ (m : List ℕ) (h : Passes27 m) where
  pub header_parts : (parts_of m).header ≡ take 240 m
  header_parts = let t = tokens_of m h in ap (λ (a : Parts). a.header) (parts_passed (passing m t.tokens t.rest t.checked))

  pub passing_parts : Passing m (parts_of m).tokens (parts_of m).rest
  passing_parts =
      let t = tokens_of m h in
      let p = passing m t.tokens t.rest t.checked in
      subst (λ (a : Parts). Passing m a.tokens a.rest) (sym (parts_passed p)) p

-- what checks 2 to 7 found is of the parts
module _ (m : List ℕ) {p : Places} (e : shape_of m ≡ Ok p) where
  pub shape_passes : Passes27 m
  shape_passes = by (checked_of m) refl (sym (shape_in_lem m) ∙ e)
    where
      by : (c : Checked) → checked_of m ≡ c → shape_in c ≡ Ok p → Passes27 m
      by (stopped r) k f = absurd (cc)
      by (passed ts rest) k f = subst PassedChecks (sym k) tt

  pub shape_places : p ≡ places_of (parts_of m).tokens
  shape_places = let f = sym e ∙ shape_in_lem m ∙ ap shape_in (checks m (passing_parts m shape_passes)) in cc
