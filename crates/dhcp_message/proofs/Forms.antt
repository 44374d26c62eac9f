-- Checks 8 and 9: the code reads option 90 where it stands in the message, the definition reads option 90's own bytes.
use mathlib.Core.Path.{◌≡◌, refl, sym, ap, ap₂, ◌∙◌, subst}
use mathlib.Core.Logic.{◌≢◌}
use Prim.Native.Nat.{ℕ, ◌+◌, ◌≤◌, ◌<◌}
use native.Mathlib.Omega.{arith}
use mathlib.Core.Bool.{Bool, true, false}
use mathlib.Core.List.{List, [], ◌∷◌, ◌++◌}
use lib.ListN.{length, take, drop, get_or, length-drop, get_or-append}
use lib.Seq.{drop-drop, get_or-drop, take-append-le, drop-append-le}
use lib.Dec.{eqb}
use borrow.Author.Tests.{ne_eqb, eqb-true}
use Rattle.refusal.specs.declared.Refusal.{Refusal}
use Rattle.refusal.specs.declared.Refusal.TheVariants.{OtherAuthentication, RequestForm}
use Rattle.dhcp_message.specs.Layout.{delayed}
use Rattle.octets.specs.Bytes.{starts}
use Rattle.octets.specs.Numbers.{big_at}
use Rattle.dhcp_message.specs.Options.{Token}
use Rattle.dhcp_message.specs.Message.{option_of, offset_of, Checked, stopped, passed, checked_of}
use Rattle.dhcp_message.specs.Said.{Said, says, said_for, full_said, said_by, auth_of, form_said, form_in, form_of}
use Rattle.dhcp_message.specs.Shape.{places_of, shape_in, shape_of}
use Rattle.dhcp_message.specs.declared.Places.{Places}
use Rattle.dhcp_message.specs.declared.Auth.{Auth}
use Rattle.octets.proofs.Starts.{starts_append, starts_short}
use Rattle.octets.proofs.HighFirst.{big_from, big_append}
use Rattle.dhcp_message.proofs.Passing.{Passing, passing, shape_in_lem, form_in_lem, form_passed, from_option, inside, split_90, option_length}
use Rattle.std.specs.Prelude.{Err, Ok, Result}

-- ---- what option 90 says, read off a message

-- the full form says counter, id and MAC
pub said_full : (x : List ℕ) → get_or x 1 0 ≡ 31 → starts delayed (drop 2 x) ≡ true → said_by x ≡ full_said x
unfolding said_by
said_full x n t = ap₂ (λ (n : ℕ) (b : Bool). said_for (eqb n 31) (eqb n 11) b (full_said x)) n t

-- and nothing else does
pub only_full : (x : List ℕ) (p : Places) (a : Auth) → form_said p (said_by x) ≡ Ok a
    → (get_or x 1 0 ≡ 31) × (starts delayed (drop 2 x) ≡ true)
unfolding said_by
only_full x p a e = by (eqb (get_or x 1 0) 31) (eqb (get_or x 1 0) 11) (starts delayed (drop 2 x)) refl refl e
  where
    by : (u v b : Bool) → eqb (get_or x 1 0) 31 ≡ u → starts delayed (drop 2 x) ≡ b → form_said p (said_for u v b (full_said x)) ≡ Ok a
        → (get_or x 1 0 ≡ 31) × (starts delayed (drop 2 x) ≡ true)
    by true v true hu hb e = (eqb-true _ _ hu, hb)
    by true v false hu hb e = let z : ◌≡◌ {A = ℕ} 0 1 = cc in absurd (omega arith)
    by false true true hu hb e = let z : ◌≡◌ {A = ℕ} 0 1 = cc in absurd (omega arith)
    by false true false hu hb e = let z : ◌≡◌ {A = ℕ} 0 1 = cc in absurd (omega arith)
    by false false b hu hb e = let z : ◌≡◌ {A = ℕ} 0 1 = cc in absurd (omega arith)

-- as many bytes as there are behind the option's length may follow it
module _ (x t : List ℕ) where
  method_kept : 5 ≤ length x → starts delayed (drop 2 (x ++ t)) ≡ starts delayed (drop 2 x)
  method_kept h =
      let l : 2 ≤ length x = omega arith in
      let n : length delayed ≤ length (drop 2 x) = rw length-drop (omega arith) in
      ap (starts delayed) (drop-append-le 2 x t l) ∙ starts_append delayed (drop 2 x) t n

  full_kept : 33 ≤ length x → full_said (x ++ t) ≡ full_said x
  full_kept h =
      let a : 17 ≤ length x = omega arith in
      let b : 16 ≤ length (drop 17 x) = rw length-drop (omega arith) in
      let c = big_append x t 5 8 (omega arith) in
      let i = big_append x t 13 4 (omega arith) in
      let m = ap (take 16) (drop-append-le 17 x t a) ∙ take-append-le 16 (drop 17 x) t b in
      cc

  said_by_lem : (u v : Bool) → eqb (get_or x 1 0) 31 ≡ u → eqb (get_or x 1 0) 11 ≡ v → 2 + get_or x 1 0 ≡ length x
      → said_for u v (starts delayed (drop 2 (x ++ t))) (full_said (x ++ t)) ≡ said_for u v (starts delayed (drop 2 x)) (full_said x)
  said_by_lem true v hu hv h =
      let n = eqb-true (get_or x 1 0) 31 hu in
      ap₂ (λ (b : Bool) (s : Said). said_for true v b s) (method_kept (omega arith)) (full_kept (omega arith))
  said_by_lem false true hu hv h =
      let n = eqb-true (get_or x 1 0) 11 hv in
      ap (λ (b : Bool). said_for false true b (full_said x)) (method_kept (omega arith))
  said_by_lem false false hu hv h = refl

  said_kept : 2 + get_or x 1 0 ≡ length x → said_by (x ++ t) ≡ said_by x
  unfolding said_by
  said_kept h =
      ap (λ (n : ℕ). said_for (eqb n 31) (eqb n 11) (starts delayed (drop 2 (x ++ t))) (full_said (x ++ t))) (get_or-append x t 0 1 (omega arith))
      ∙ said_by_lem (eqb (get_or x 1 0) 31) (eqb (get_or x 1 0) 11) refl refl h

-- ---- a method that passes the end

pub method_past : (m : List ℕ) (at protocol algorithm replay : ℕ) → length m < at + 5
    → false ≡ starts (protocol ∷ algorithm ∷ replay ∷ []) (drop (at + 2) m)
method_past m at protocol algorithm replay h =
    let n = length-drop (at + 2) m in
    starts_short (protocol ∷ algorithm ∷ replay ∷ []) (drop (at + 2) m) (omega arith)

-- ---- by the tests of `form_at`

module _ (m : List ℕ) (p : Places) where
  abbrev at : ℕ
  at = p.at

  abbrev answer : Result Auth Refusal
  answer = form_said p (said_by (drop at m))

  -- what stands at the offset, by length, method, counter and id
  answer_is : (n : ℕ) (d : Bool) (counter id : ℕ) → get_or m (at + 1) 0 ≡ n → d ≡ starts delayed (drop (at + 2) m)
      → counter ≡ big_at m (at + 5) 8 → id ≡ big_at m (at + 13) 4
      → form_said p (said_for (eqb n 31) (eqb n 11) d (says counter id (take 16 (drop (at + 17) m)))) ≡ answer
  unfolding said_by
  answer_is n d counter id en ed ec ei =
      let l = get_or-drop at m 1 0 in
      let s = drop-drop 2 at m in
      let c = big_from m at 5 8 in
      let i = big_from m at 13 4 in
      let x = drop-drop 17 at m in
      cc

  module _ (d : Bool) (e : d ≡ starts delayed (drop (at + 2) m)) where
    pub form_full : (counter id : ℕ) → get_or m (at + 1) 0 ≡ 31 → d ≡ true → counter ≡ big_at m (at + 5) 8 → id ≡ big_at m (at + 13) 4
        → Ok (auth_of p counter id) ≡ answer
    form_full counter id n t ec ei = rw t at (answer_is 31 d counter id n e ec ei)

    pub form_other : d ≡ false → Err OtherAuthentication ≡ answer
    form_other t = by (eqb (get_or m (at + 1) 0) 31) (eqb (get_or m (at + 1) 0) 11) _ ∙ rw t at (answer_is _ d _ _ refl e refl refl)
      where
        by : (u v : Bool) (s : Said) → Err OtherAuthentication ≡ form_said p (said_for u v false s)
        by true v s = refl
        by false true s = refl
        by false false s = refl

    pub form_request : get_or m (at + 1) 0 ≡ 11 → d ≡ true → Err RequestForm ≡ answer
    form_request n t = rw t at (answer_is 11 d _ _ n e refl refl)

  pub form_other_length : get_or m (at + 1) 0 ≢ 31 → get_or m (at + 1) 0 ≢ 11 → Err OtherAuthentication ≡ answer
  form_other_length n k = rw (ne_eqb _ _ n, ne_eqb _ _ k) at (answer_is _ _ _ _ refl refl refl refl)

-- ---- of a message that passes 2 to 7

module _ {m : List ℕ} {ts : List Token} {rest : List ℕ} (p : Passing m ts rest) where
  said_in_place : said_by (drop (offset_of 90 ts) m) ≡ said_by (option_of 90 ts)
  said_in_place = ap said_by (from_option p (split_90 p)) ∙ said_kept (option_of 90 ts) _ (option_length p)

  whole_in_place : offset_of 90 ts + 2 + get_or m (offset_of 90 ts + 1) 0 ≤ length m
  whole_in_place =
      let l : 1 < length (option_of 90 ts) = omega (arith, option_length p) in
      let e : get_or m (offset_of 90 ts + 1) 0 ≡ get_or (option_of 90 ts) 1 0 =
      sym (get_or-drop (offset_of 90 ts) m 1 0) ∙ ap (λ (x : List ℕ). get_or x 1 0) (from_option p (split_90 p)) ∙ get_or-append (option_of 90 ts) _ 0 1 l in
      omega (arith, inside p (split_90 p), option_length p)

-- ---- `form_of`

module _ (m : List ℕ) where
  pub form_refused : (r : Refusal) → Err r ≡ shape_of m → Err r ≡ form_of m
  form_refused r e = by (checked_of m) (e ∙ shape_in_lem m) ∙ sym (form_in_lem m)
    where
      by : (c : Checked) → Err r ≡ shape_in c → Err r ≡ form_in c
      by (stopped q) e = let z : r ≡ q = cc in ap Err z
      by (passed ts rest) e = let z : ◌≡◌ {A = ℕ} 0 1 = cc in absurd (omega arith)

  -- what is known of the places of a message that passes
  record Placed (p : Places) : Type 0 where
    tokens : List Token
    rest : List ℕ
    passes : Passing m tokens rest
    places : places_of tokens ≡ p

  placed : (p : Places) → Ok p ≡ shape_of m → Placed p
  placed p e = by (checked_of m) refl (e ∙ shape_in_lem m)
    where
      by : (c : Checked) → checked_of m ≡ c → Ok p ≡ shape_in c → Placed p
      by (stopped q) h e = let z : ◌≡◌ {A = ℕ} 0 1 = cc in absurd (omega arith)
      by (passed ts rest) h e = record { tokens = ts; rest = rest; passes = passing m ts rest h; places = cc }

  pub form_fits_lem : (p : Places) → Ok p ≡ shape_of m → p.at + 2 + get_or m (p.at + 1) 0 ≤ length m
  form_fits_lem p e =
      let q = placed p e in
      subst (λ (p : Places). p.at + 2 + get_or m (p.at + 1) 0 ≤ length m) q.places (whole_in_place q.passes)

  -- and such a message is not too long
  pub form_short : (p : Places) → Ok p ≡ shape_of m → length m ≤ 1472
  form_short p e = (placed p e).passes.short

  pub form_where_passed : (p : Places) (f : Result Auth Refusal) → Ok p ≡ shape_of m → f ≡ form_said p (said_by (drop p.at m)) → f ≡ form_of m
  form_where_passed p f e h =
      let q = placed p e in
      h ∙ ap (λ (p : Places). form_said p (said_by (drop p.at m))) (sym q.places)
      ∙ ap (form_said (places_of q.tokens)) (said_in_place q.passes) ∙ sym (form_passed q.passes)
