-- Between two messages that are alike the lines name only what is a relay's: the other fields stand apart from hops and giaddr, and an option of another
-- code has its like, of the same occurrence and body, in the other message.
use mathlib.Core.Path.{◌≡◌, refl, sym, ap, ap₂, ◌∙◌, subst}
use mathlib.Core.Logic.{◌≢◌}
use Prim.Native.Nat.{ℕ, suc, ◌+◌, ◌≤◌}
use native.Mathlib.Omega.{arith}
use native.Mathlib.Decide.{ℕ_discrete}
use mathlib.Core.Bool.{Bool, true, false, cond}
use mathlib.Core.List.{List, [], ◌∷◌, ◌++◌, append_assoc}
use lib.ListN.{length, take}
use lib.Dec.{eqb}
use borrow.Author.Tests.{ne_eqb, eq-eqb, eqb-true}
use Rattle.octets.specs.Bytes.{same_bytes, zeros}
use Rattle.octets.proofs.Comparing.{equal_same, same_differ}
use Rattle.dhcp_message.specs.Options.{Token, pad, opt}
use Rattle.dhcp_message.specs.Message.{count}
use Rattle.dhcp_message.specs.Types.{bodies_of}
use Rattle.dhcp_message.specs.Image.{without, head_zero}
use Rattle.dhcp_message.proofs.Headers.{head_behind, part_first, part_between}
use Rattle.dhcp_message.proofs.Typing.{bodies_append, bodies_counted}
use Rattle.comparison.specs.declared.Side.{Side}
use Rattle.comparison.specs.declared.Side.TheVariants.{First, Second}
use Rattle.comparison.specs.Fields.{Field, part, fields, op, htype, hlen, xid, secs, flags, ciaddr, yiaddr, siaddr, chaddr, sname, file}
use Rattle.comparison.specs.Difference.{Parts, Difference, differs, altered, layout, fields_differing, body_at, said_of}
use Rattle.comparison.specs.Difference.{options_differing, same_layout, layout_differing, differences_of}
use Rattle.comparison.specs.Laws.{Among, Alike, OfRelay, of_hops, of_giaddr, of_altered, of_missing, of_added, of_layout}
use Rattle.std.specs.Prelude.{None, Option, Some, slice_get}

-- ---- something holds of all in a list

infixr 20 ◌and◌
data Every {A : Type 0} (P : A → Type 0) : List A → Type 0 where
  none_left : Every P []
  ◌and◌ : {x : A} {xs : List A} → P x → Every P xs → Every P (x ∷ xs)

module _ {A : Type 0} {P : A → Type 0} where
  every_append : {xs ys : List A} → Every P xs → Every P ys → Every P (xs ++ ys)
  every_append (none_left) k = k
  every_append (p and h) k = p and every_append h k

  every_here : (front : List A) (x : A) (back : List A) → Every P (front ++ (x ∷ back)) → P x
  every_here [] x back (p and h) = p
  every_here (y ∷ front) x back (p and h) = every_here front x back h

  every_among : {x : A} {xs : List A} → Every P xs → Among x xs → P x
  every_among {x} h a = every_here a.front x a.back (subst (Every P) a.splits h)

abbrev Ours : List Difference → Type 0
Ours = Every OfRelay

-- ---- the header's fields

module _ (header other : List ℕ) where
  -- where the field differs it is a relay's
  abbrev Marked : Field → Type 0
  Marked f = part f header ≢ part f other → OfRelay (differs f)

  marked : (fs : List Field) → Every Marked fs → Ours (fields_differing fs header other)
  unfolding fields_differing
  marked [] h = none_left
  marked (f ∷ fs) (m and h) = by (same_bytes (part f header) (part f other)) refl (marked fs h)
    where
      by : (t : Bool) → same_bytes (part f header) (part f other) ≡ t → Ours (fields_differing fs header other)
          → Ours (cond t [] (differs f ∷ []) ++ fields_differing fs header other)
      by true e k = k
      by false e k = m (same_differ _ _ e) and k

  module _ (l : 240 ≤ length header) (k : 240 ≤ length other) (zero : head_zero header ≡ head_zero other) where
    -- equal with hops and giaddr zero, what these leave as it is is equal
    alike : (f : Field) → ((h : List ℕ) → 240 ≤ length h → part f (head_zero h) ≡ part f h) → Marked f
    alike f stays n = absurd (n (sym (stays header l) ∙ ap (part f) zero ∙ stays other k))

    first : (f : Field) → f.at + f.size ≤ 3 → Marked f
    first f p = alike f (λ h s. part_first (zeros 1) (zeros 4) refl refl h (omega arith) f.at f.size p)

    between : (f : Field) → 4 ≤ f.at → f.at + f.size ≤ 24 → Marked f
    between f p q = alike f (λ h s. part_between (zeros 1) (zeros 4) refl refl h (omega arith) f.at f.size p q)

    behind : (f : Field) → 28 ≤ f.at → f.at ≤ 240 → Marked f
    behind f p q = alike f (λ h s. ap (take f.size) (head_behind (zeros 1) (zeros 4) refl refl h (omega arith) f.at p (omega arith)))

    fields_ours : Ours (fields_differing fields header other)
    fields_ours =
        marked fields
        (first op (omega arith) and first htype (omega arith) and first hlen (omega arith)
        and (λ n. of_hops)
        and between xid (omega arith) (omega arith) and between secs (omega arith) (omega arith) and between flags (omega arith) (omega arith)
        and between ciaddr (omega arith) (omega arith) and between yiaddr (omega arith) (omega arith) and between siaddr (omega arith) (omega arith)
        and (λ n. of_giaddr)
        and behind chaddr (omega arith) (omega arith) and behind sname (omega arith) (omega arith) and behind file (omega arith) (omega arith)
        and none_left)

-- ---- options

-- what is said of an option 82 is a relay's
said_82 : (side : Side) (n : ℕ) (body : List ℕ) (other : Option (List ℕ)) → Ours (said_of side 82 n body other)
unfolding said_of
said_82 First n body (Some other) = by (same_bytes body other)
  where
    by : (t : Bool) → Ours (cond t [] (altered 82 n ∷ []))
    by true = none_left
    by false = of_altered n and none_left
said_82 First n body None = of_missing n and none_left
said_82 Second n body (Some other) = none_left
said_82 Second n body None = of_added n and none_left

-- of an option that has its like nothing is said
said_like : (side : Side) (c n : ℕ) (body : List ℕ) → said_of side c n body (Some body) ≡ []
unfolding said_of
said_like First c n body = rw (equal_same body body refl)
said_like Second c n body = refl

-- the body behind so many others
element_at : (p : List (List ℕ)) (b : List ℕ) (q : List (List ℕ)) → slice_get (p ++ (b ∷ q)) (length p) ≡ Some b
element_at [] b q = refl
element_at (a ∷ p) b q = element_at p b q

bodies_without : (d c : ℕ) → c ≢ d → (ts : List Token) → bodies_of c (without d ts) ≡ bodies_of c ts
bodies_without d c n [] = refl
bodies_without d c n (pad ∷ ts) = bodies_without d c n ts
bodies_without d c n (opt e b ∷ ts) = by (bodies_without d c n ts) (eqb e d) refl
  where
    by : bodies_of c (without d ts) ≡ bodies_of c ts → (x : Bool) → eqb e d ≡ x
        → bodies_of c (cond x (without d ts) (opt e b ∷ without d ts)) ≡ cond (eqb e c) (b ∷ bodies_of c ts) (bodies_of c ts)
    by ih true h =
        let k : e ≢ c = λ q. n (sym q ∙ eqb-true e d h) in
        rw (ne_eqb _ _ k) ih
    by ih false h = ap (λ (l : List (List ℕ)). cond (eqb e c) (b ∷ l) l) ih

-- the options of the other codes are those passed and those to come
abbrev Likes : (before tokens other : List Token) → Type 0
Likes before tokens other = (c : ℕ) → c ≢ 82 → bodies_of c other ≡ bodies_of c before ++ bodies_of c tokens

module _ (side : Side) (other : List Token) where
  likes_on : (before : List Token) (c : ℕ) (body : List ℕ) (ts : List Token) → Likes before (opt c body ∷ ts) other
      → Likes (before ++ (opt c body ∷ [])) ts other
  likes_on before c body ts likes d n =
      likes d n ∙ ap (λ (l : List (List ℕ)). bodies_of d before ++ l) (bodies_append d (opt c body ∷ []) ts)
      ∙ sym (append_assoc (bodies_of d before) (bodies_of d (opt c body ∷ [])) (bodies_of d ts))
      ∙ ap (λ (l : List (List ℕ)). l ++ bodies_of d ts) (sym (bodies_append d before (opt c body ∷ [])))

  said_ours : (before : List Token) (c : ℕ) (body : List ℕ) (ts : List Token) → Likes before (opt c body ∷ ts) other
      → Ours (said_of side c (suc (count c before)) body (body_at c (count c before) other))
  unfolding body_at
  said_ours before c body ts likes =
      elim (ℕ_discrete c 82) [
        | yes e ↦ rw e (said_82 side _ body _)
        | no n ↦
            let bodies : bodies_of c other ≡ bodies_of c before ++ (body ∷ bodies_of c ts) = likes c n ∙ rw (eq-eqb c c refl) in
            let there : slice_get (bodies_of c other) (count c before) ≡ Some body =
            ap₂ (λ (l : List (List ℕ)) (k : ℕ). slice_get l k) bodies (bodies_counted c before) ∙ element_at (bodies_of c before) body (bodies_of c ts) in
            rw (there, said_like side c _ body) none_left
      ]

  options_ours : (before ts : List Token) → Likes before ts other → Ours (options_differing side before ts other)
  unfolding options_differing
  options_ours before [] likes = none_left
  options_ours before (pad ∷ ts) likes = options_ours before ts likes
  options_ours before (opt c body ∷ ts) likes =
      every_append (said_ours before c body ts likes) (options_ours (before ++ (opt c body ∷ [])) ts (likes_on before c body ts likes))

-- ---- all lines

layout_ours : (a b : Parts) → Ours (layout_differing a b)
unfolding layout_differing
layout_ours a b = by (same_layout a b)
  where
    by : (t : Bool) → Ours (cond t [] (layout ∷ []))
    by true = none_left
    by false = of_layout and none_left

pub alike_names : (a b : Parts) → 240 ≤ length a.header → 240 ≤ length b.header → Alike a b
    → (d : Difference) → Among d (differences_of a b) → OfRelay d
unfolding differences_of
alike_names a b l k e d =
    let same : (c : ℕ) → c ≢ 82 → bodies_of c b.tokens ≡ bodies_of c a.tokens =
    λ c n. sym (bodies_without 82 c n b.tokens) ∙ ap (bodies_of c) (sym e.tokens) ∙ bodies_without 82 c n a.tokens in
    every_among
    (every_append (fields_ours a.header b.header l k e.headers)
    (every_append (options_ours First b.tokens [] a.tokens same)
    (every_append (options_ours Second a.tokens [] b.tokens (λ c n. sym (same c n))) (layout_ours a b))))
