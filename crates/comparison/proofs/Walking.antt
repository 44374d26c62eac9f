-- A pass over the options of a message that passes 2 to 7: what is left to be read of it, by what the iterator gives.
use mathlib.Core.Path.{◌≡◌, refl, sym, ap, ◌∙◌}
use mathlib.Core.Logic.{◌≢◌, ◌⊎◌, inl, inr}
use Prim.Native.Nat.{ℕ, ◌+◌, ◌-◌, ◌≤◌}
use native.Mathlib.Omega.{arith}
use mathlib.Core.List.{List, [], ◌∷◌}
use lib.ListN.{length, take, drop}
use Rattle.dhcp_message.specs.Options.{Token, pad, opt, Parsed, broken, parsed, with_token, decode}
use Rattle.dhcp_message.specs.Message.{Passes27}
use Rattle.dhcp_message.specs.Standing.{here_at, GivesHere}
use Rattle.dhcp_message.specs.declared.Here.{Here}
use Rattle.dhcp_message.specs.declared.Here.TheVariants.{Broken, End, Pad, Opt}
use Rattle.dhcp_message.specs.declared.Options.{Options}
use Rattle.dhcp_message.proofs.Turns.{on_here, here_past, pad_fits, opt_fits, none_stands, stands, next}
use Rattle.comparison.specs.Difference.{parts_of}
use Rattle.comparison.proofs.Reading.{passing_parts}

-- where the iterator stands, these tokens, End and the rest are read
pub record At (m : List ℕ) (s : Options) (tokens : List Token) (rest : List ℕ) : Type 0 where
  pub same : s.message.now ≡ m
  pub reads : decode (drop s.at m) ≡ parsed tokens rest
  pub within : s.at ≤ length m

-- and so one token further
pub record Onward (m : List ℕ) (v : Token) (next : Options) (tokens : List Token) (rest : List ℕ) : Type 0 where
  pub left : List Token
  pub first : tokens ≡ v ∷ left
  pub behind : At m next left rest

-- a message that passes 2 to 7, from its options on
pub from_options : {m : List ℕ} → Passes27 m → (s : Options) → s.message.now ≡ m → s.at ≡ 240 → At m s (parts_of m).tokens (parts_of m).rest
from_options {m} h s i e =
    let p = passing_parts m h in
    record {
      same = i;
      reads = ap (λ (n : ℕ). decode (drop n m)) e ∙ p.reads;
      within = omega (arith, p.long);
    }

module _ {m : List ℕ} {tokens : List Token} {rest : List ℕ} (s : Options) (a : At m s tokens rest) where
  pub not_broken : Broken ≡ here_at m s.at → ⊥
  not_broken e = let z : broken ≡ parsed tokens rest = sym (on_here m s.at Broken e) ∙ a.reads in cc

  module _ (t : Options) (at : ℕ) (h : Here) (g : GivesHere s at h t) where
    abbrev here : h ≡ here_at m s.at
    here = stands s a.same t at h g

    pub at_end : h ≡ End → tokens ≡ []
    at_end e = let z : parsed [] (drop (s.at + 1) m) ≡ parsed tokens rest = sym (on_here m s.at End (sym e ∙ here)) ∙ a.reads in cc

    onward : (v : Token) (p : Parsed) → decode (drop t.at m) ≡ p → t.at ≤ length m → with_token v p ≡ parsed tokens rest
        → Onward m v t tokens rest
    onward v broken e l f = absurd (cc)
    onward v (parsed us r) e l f =
        let er : r ≡ rest = cc in
        record { left = us; first = cc; behind = record { same = g.same ∙ a.same; reads = rw er at e; within = l } }

    pub at_pad : h ≡ Pad → Onward m pad t tokens rest
    at_pad e =
        let o = sym e ∙ here in
        let k : t.at ≡ s.at + 1 = rw e at (next s a.same t at h g) in
        onward pad (decode (drop (s.at + 1) m)) (ap (λ (n : ℕ). decode (drop n m)) k) (rw k (pad_fits m s.at o)) (sym (on_here m s.at Pad o) ∙ a.reads)

    -- its body as the code takes it
    pub at_option : {c n : ℕ} → h ≡ Opt c n → Onward m (opt c (take (at + n - (at + 2)) (drop (at + 2) m))) t tokens rest
    at_option {c} {n} e =
        let o = sym e ∙ here in
        let f = opt_fits m s.at c n o in
        let k : t.at ≡ s.at + n = rw e at (next s a.same t at h g) in
        let size : s.at + n - (s.at + 2) ≡ n - 2 = omega arith in
        rw (g.place, size)
        (onward (opt c (take (n - 2) (drop (s.at + 2) m))) (decode (drop (s.at + n) m)) (ap (λ (i : ℕ). decode (drop i m)) k) (rw k f.1)
        (sym (on_here m s.at (Opt c n) o) ∙ a.reads))

-- ---- and behind End, where no tokens are left

pub record Left (m : List ℕ) (s : Options) (tokens : List Token) (rest : List ℕ) : Type 0 where
  pub same : s.message.now ≡ m
  pub left : (decode (drop s.at m) ≡ parsed tokens rest) ⊎ ((tokens ≡ []) × (length m ≤ s.at))
  pub within : s.at ≤ length m

-- past what is no option
pub record Past (m : List ℕ) (at : ℕ) (next : Options) (tokens : List Token) (rest : List ℕ) : Type 0 where
  pub left : List Token
  pub first : (tokens ≡ left) ⊎ (tokens ≡ pad ∷ left)
  pub behind : Left m next left rest
  pub further : at ≤ next.at

pub left_at : {m : List ℕ} {s : Options} {tokens : List Token} {rest : List ℕ} → At m s tokens rest → Left m s tokens rest
left_at a = record { same = a.same; left = inl a.reads; within = a.within }

module _ {m : List ℕ} {tokens : List Token} {rest : List ℕ} (s : Options) (a : Left m s tokens rest) where
  pub none_left : Broken ≡ here_at s.message.now s.at → tokens ≡ []
  none_left e = by a.left
    where
      by : (decode (drop s.at m) ≡ parsed tokens rest) ⊎ ((tokens ≡ []) × (length m ≤ s.at)) → tokens ≡ []
      by (inl r) = absurd (not_broken s (record { same = a.same; reads = r; within = a.within }) (none_stands s a.same e))
      by (inr o) = o.0

  module _ (t : Options) (at : ℕ) (h : Here) (g : GivesHere s at h t) where
    -- where something whole stands, it is read
    still : {k : Here} → h ≡ k → k ≢ Broken → At m s tokens rest
    still e n = by a.left
      where
        by : (decode (drop s.at m) ≡ parsed tokens rest) ⊎ ((tokens ≡ []) × (length m ≤ s.at)) → At m s tokens rest
        by (inl r) = record { same = a.same; reads = r; within = a.within }
        by (inr o) = absurd (n (sym e ∙ stands s a.same t at h g ∙ sym (here_past m s.at o.1)))

    pub left_option : {c n : ℕ} → h ≡ Opt c n → Onward m (opt c (take (at + n - (at + 2)) (drop (at + 2) m))) t tokens rest
    left_option {c} {n} e = at_option s (still e (λ (z : Opt c n ≡ Broken). cc)) t at h g e

    pub left_other : ((c n : ℕ) → h ≢ Opt c n) → Past m s.at t tokens rest
    left_other n = by h refl
      where
        by : (k : Here) → h ≡ k → Past m s.at t tokens rest
        by Broken e =
            let k : t.at ≡ s.at = rw e at (next s a.same t at h g) in
            record {
              left = tokens;
              first = inl refl;
              behind = record { same = g.same ∙ a.same; left = rw k a.left; within = rw k a.within };
              further = omega arith;
            }
        by End e =
            let k : t.at ≡ length m = rw e at (next s a.same t at h g) in
            let w = a.within in
            record {
              left = [];
              first = inl (at_end s (still e (λ (z : End ≡ Broken). cc)) t at h g e);
              behind = record { same = g.same ∙ a.same; left = inr (refl, omega arith); within = omega arith };
              further = omega arith;
            }
        by Pad e =
            let o = at_pad s (still e (λ (z : Pad ≡ Broken). cc)) t at h g e in
            let k : t.at ≡ s.at + 1 = rw e at (next s a.same t at h g) in
            record { left = o.left; first = inr o.first; behind = left_at o.behind; further = omega arith }
        by (Opt c i) e = absurd (n c i e)
