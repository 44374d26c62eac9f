-- The code's pass for option 53, turn by turn, and what it finds on tokens: the bodies of the options 53, none, one or more.
use mathlib.Core.Path.{◌≡◌, refl, sym, ap, ◌∙◌}
use mathlib.Core.Logic.{◌⊎◌, inl, inr}
use Prim.Native.Nat.{ℕ, ◌+◌, ◌-◌, ◌≤◌}
use native.Mathlib.Omega.{arith}
use mathlib.Core.Bool.{Bool, true, false, cond}
use mathlib.Core.List.{List, [], ◌∷◌, ◌++◌}
use lib.ListN.{length, take, drop}
use lib.Dec.{eqb}
use borrow.Author.Tests.{eq-eqb}
use Rattle.dhcp_message.specs.Options.{Token, pad, opt, Parsed, broken, parsed, with_token, decode}
use Rattle.dhcp_message.specs.Standing.{here_at, GivesHere}
use Rattle.dhcp_message.specs.declared.Here.{Here}
use Rattle.dhcp_message.specs.declared.Options.{Options}
use Rattle.dhcp_message.specs.Scan.{typed_by, typed_of, typed_from, type_found, typed_parsed}
use Rattle.octets.specs.Bytes.{Bytes}
use Rattle.dhcp_message.specs.Message.{count}
use Rattle.dhcp_message.specs.Numbers.{WhereRead, Has}
use Rattle.dhcp_message.specs.Types.{bodies_of, stated_by, stated_in, message_type_of, TypeSays}
use Rattle.dhcp_message.specs.declared.Here.TheVariants.{Broken as HBroken, End as HEnd, Pad as HPad, Opt as HOpt}
use Rattle.dhcp_message.specs.declared.types.Typing.{Typing}
use Rattle.dhcp_message.specs.declared.types.Typing.TheVariants.{NotYet, As, Spoiled}
use Rattle.dhcp_message.proofs.Decoding.{reads_decode}
use Rattle.dhcp_message.proofs.Tokens.{no_hit, count_split, split}
use Rattle.dhcp_message.proofs.Turns.{on_here, none_stands, stands, next, option_fits}
use Rattle.dhcp_message.proofs.Lowest.{readable}
use Rattle.std.specs.Prelude.{None, Option, Some, ℕ}

-- ---- what is found of all tokens

spoiled : (ts : List Token) → type_found (typed_from Spoiled ts) ≡ None
unfolding type_found typed_of
spoiled [] = refl
spoiled (pad ∷ ts) = spoiled ts
spoiled (opt c b ∷ ts) = by (eqb c 53) (spoiled ts)
  where
    by : (x : Bool) → type_found (typed_from Spoiled ts) ≡ None → type_found (typed_from (cond x (typed_by Spoiled b) Spoiled) ts) ≡ None
    by true h = h
    by false h = h

seen_one : (v : ℕ) (ts : List Token) → type_found (typed_from (As v) ts) ≡ stated_by ((v ∷ []) ∷ bodies_of 53 ts)
unfolding type_found typed_of
seen_one v [] = refl
seen_one v (pad ∷ ts) = seen_one v ts
seen_one v (opt c b ∷ ts) = by (eqb c 53) (seen_one v ts)
  where
    by : (x : Bool) → type_found (typed_from (As v) ts) ≡ stated_by ((v ∷ []) ∷ bodies_of 53 ts)
        → type_found (typed_from (cond x (typed_by (As v) b) (As v)) ts) ≡ stated_by ((v ∷ []) ∷ cond x (b ∷ bodies_of 53 ts) (bodies_of 53 ts))
    by true h = spoiled ts
    by false h = h

seen_none : (ts : List Token) → type_found (typed_from NotYet ts) ≡ stated_by (bodies_of 53 ts)
unfolding type_found typed_of
seen_none [] = refl
seen_none (pad ∷ ts) = seen_none ts
seen_none (opt c b ∷ ts) = by (eqb c 53) b (seen_none ts)
  where
    by : (x : Bool) (b : List ℕ) → type_found (typed_from NotYet ts) ≡ stated_by (bodies_of 53 ts)
        → type_found (typed_from (cond x (typed_by NotYet b) NotYet) ts) ≡ stated_by (cond x (b ∷ bodies_of 53 ts) (bodies_of 53 ts))
    by true [] h = spoiled ts
    by true (v ∷ []) h = seen_one v ts
    by true (v ∷ w ∷ more) h = spoiled ts
    by false b h = h

-- ---- the invariant

typed_pad : (t : Typing) (p : Parsed) → typed_parsed t (with_token pad p) ≡ typed_parsed t p
typed_pad t broken = refl
typed_pad t (parsed ts rest) = refl

typed_opt : (t : Typing) (c : ℕ) (b : List ℕ) (p : Parsed) → typed_parsed t (with_token (opt c b) p) ≡ typed_parsed (typed_of t c b) p
typed_opt t c b broken = refl
typed_opt t c b (parsed ts rest) = refl

-- what is still to be read, begun with what was found, gives the whole answer
pub record Typed (m : List ℕ) (t : Typing) (s : Options) : Type 0 where
  pub same : s.message.now ≡ m
  pub whole : typed_parsed t (decode (drop s.at m)) ≡ message_type_of m

pub typed_start : (m : List ℕ) (s : Options) → s.message.now ≡ m → s.at ≡ 240 → Typed m NotYet s
unfolding message_type_of
typed_start m s i e = record { same = i; whole = ap (λ (n : ℕ). typed_parsed NotYet (decode (drop n m))) e ∙ by (decode (drop 240 m)) }
  where
    by : (p : Parsed) → typed_parsed NotYet p ≡ stated_in p
    by broken = refl
    by (parsed ts rest) = seen_none ts

module _ {m : List ℕ} {t : Typing} (s : Options) (i : Typed m t s) where
  pub type_none : HBroken ≡ here_at s.message.now s.at → None ≡ message_type_of m
  type_none e = sym (ap (typed_parsed t) (on_here m s.at HBroken (none_stands s i.same e))) ∙ i.whole

  module _ (u : Options) (at : ℕ) (h : Here) (g : GivesHere s at h u) where
    abbrev here : h ≡ here_at m s.at
    here = stands s i.same u at h g

    pub type_end : {r : Option ℕ} → h ≡ HEnd → r ≡ type_found t → r ≡ message_type_of m
    type_end e f = f ∙ sym (ap (typed_parsed t) (on_here m s.at HEnd (sym e ∙ here))) ∙ i.whole

    pub type_pad : (h ≡ HPad) ⊎ (h ≡ HBroken) → Typed m t u
    type_pad (inl e) =
        let n : u.at ≡ s.at + 1 = rw e at (next s i.same u at h g) in
        let p = typed_pad t (decode (drop (s.at + 1) m)) in
        record { same = g.same ∙ i.same; whole = rw n (sym (ap (typed_parsed t) (on_here m s.at HPad (sym e ∙ here)) ∙ p) ∙ i.whole) }
    type_pad (inr e) =
        let n : u.at ≡ s.at = rw e at (next s i.same u at h g) in
        record { same = g.same ∙ i.same; whole = rw n i.whole }

    module _ {c n : ℕ} (e : h ≡ HOpt c n) where
      abbrev opt_here : HOpt c n ≡ here_at m s.at
      opt_here = sym e ∙ here

      pub type_fits : (2 ≤ n) × (at + n ≤ length m)
      type_fits = option_fits s i.same u at h g e

      pub type_opt : {v : Typing} → v ≡ typed_of t c (take (n - 2) (drop (at + 2) m)) → Typed m v u
      type_opt {v} f =
          let k : u.at ≡ s.at + n = rw e at (next s i.same u at h g) in
          let w : v ≡ typed_of t c (take (n - 2) (drop (s.at + 2) m)) = rw g.place at f in
          let p = typed_opt t c (take (n - 2) (drop (s.at + 2) m)) (decode (drop (s.at + n) m)) in
          record {
            same = g.same ∙ i.same;
            whole = rw (w, k) (sym (ap (typed_parsed t) (on_here m s.at (HOpt c n) opt_here) ∙ p) ∙ i.whole);
          }

-- ---- what is stated, in the rules' words

module _ (c : ℕ) where
  bodies_none : (ts : List Token) → count c ts ≡ 0 → bodies_of c ts ≡ []
  bodies_none [] z = refl
  bodies_none (pad ∷ ts) z = bodies_none ts z
  bodies_none (opt e b ∷ ts) z = let h = no_hit c e ts (eqb e c) refl z in rw h.0 (bodies_none ts h.1)

  pub bodies_append : (p q : List Token) → bodies_of c (p ++ q) ≡ bodies_of c p ++ bodies_of c q
  bodies_append [] q = refl
  bodies_append (pad ∷ p) q = bodies_append p q
  bodies_append (opt e b ∷ p) q = by (eqb e c) (bodies_append p q)
    where
      by : (x : Bool) → bodies_of c (p ++ q) ≡ bodies_of c p ++ bodies_of c q
          → cond x (b ∷ bodies_of c (p ++ q)) (bodies_of c (p ++ q)) ≡ cond x (b ∷ bodies_of c p) (bodies_of c p) ++ bodies_of c q
      by true h = ap (λ (l : List (List ℕ)). b ∷ l) h
      by false h = h

  -- as many bodies as options
  pub bodies_counted : (ts : List Token) → count c ts ≡ length (bodies_of c ts)
  bodies_counted [] = refl
  bodies_counted (pad ∷ ts) = bodies_counted ts
  bodies_counted (opt e b ∷ ts) = by (eqb e c) (bodies_counted ts)
    where
      by : (x : Bool) → count c ts ≡ length (bodies_of c ts) → cond x 1 0 + count c ts ≡ length (cond x (b ∷ bodies_of c ts) (bodies_of c ts))
      by true h = omega arith
      by false h = omega arith

  -- of the one option of a code
  bodies_one : (ts p : List Token) (b : List ℕ) (q : List Token) → count c ts ≡ 1 → ts ≡ p ++ (opt c b ∷ q) → bodies_of c ts ≡ b ∷ []
  bodies_one ts p b q one e =
      let n = ap (count c) e ∙ count_split c p b q in
      let front : count c p ≡ 0 = omega arith in
      let back : count c q ≡ 0 = omega arith in
      ap (bodies_of c) e ∙ bodies_append p (opt c b ∷ q)
      ∙ rw (bodies_none p front, eq-eqb c c refl, bodies_none q back)

-- what states a type is one body of one byte
stated_one : (bodies : List (List ℕ)) (v : ℕ) → stated_by bodies ≡ Some v → bodies ≡ (v ∷ []) ∷ []
stated_one [] v e = let z : ◌≡◌ {A = ℕ} 0 1 = cc in absurd (omega arith)
stated_one ([] ∷ bodies) v e = let z : ◌≡◌ {A = ℕ} 0 1 = cc in absurd (omega arith)
stated_one ((w ∷ []) ∷ []) v e = let z : w ≡ v = cc in ap (λ (x : ℕ). (x ∷ []) ∷ []) z
stated_one ((w ∷ []) ∷ (b ∷ bodies)) v e = let z : ◌≡◌ {A = ℕ} 0 1 = cc in absurd (omega arith)
stated_one ((w ∷ x ∷ more) ∷ bodies) v e = let z : ◌≡◌ {A = ℕ} 0 1 = cc in absurd (omega arith)

module _ (m : List ℕ) (v : ℕ) where
  abbrev OneType : List Token → Type 0
  OneType ts = (count 53 ts ≡ 1) × Has 53 (λ body. body ≡ v ∷ []) ts

  one_type : (ts : List Token) → stated_by (bodies_of 53 ts) ≡ Some v → OneType ts
  one_type ts e =
      let bodies = stated_one (bodies_of 53 ts) v e in
      let one : count 53 ts ≡ 1 = bodies_counted 53 ts ∙ ap length bodies in
      let s = split 53 ts (omega arith) in
      let own = sym (bodies_one 53 ts s.front s.body s.back one s.tokens) ∙ bodies in
      let body : s.body ≡ v ∷ [] = cc in
      (one, record { front = s.front; body = s.body; back = s.back; splits = s.tokens; holds = body })

  states : Bytes m → message_type_of m ≡ Some v → WhereRead OneType m
  unfolding message_type_of
  states b e = by (decode (drop 240 m)) refl e
    where
      by : (p : Parsed) → decode (drop 240 m) ≡ p → stated_in p ≡ Some v → WhereRead OneType m
      by broken f e = let z : ◌≡◌ {A = ℕ} 0 1 = cc in absurd (omega arith)
      by (parsed ts rest) f e = readable m b ts rest f (one_type ts e)

  stated_so : WhereRead OneType m → message_type_of m ≡ Some v
  unfolding message_type_of
  stated_so r =
      let has = r.holds.1 in
      ap stated_in (reads_decode (drop 240 m) r.tokens r.rest r.reads)
      ∙ ap stated_by (bodies_one 53 r.tokens has.front has.body has.back r.holds.0 has.splits ∙ ap (λ (b : List ℕ). b ∷ []) has.holds)

pub type_says : TypeSays
type_says = record { stated = λ m b v. (states m v b, stated_so m v) }
