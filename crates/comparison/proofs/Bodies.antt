-- The body of an option by its code and how many of that code stand before it: the laws of `body_at`, and the turns of `find`.
use mathlib.Core.Path.{◌≡◌, refl, sym, ap, ◌∙◌}
use mathlib.Core.Logic.{◌≢◌, ◌⊎◌, inl, inr}
use Prim.Native.Nat.{ℕ, suc, ◌+◌, ◌-◌}
use mathlib.Core.List.{List, [], ◌∷◌}
use lib.ListN.{take, drop}
use borrow.Author.Tests.{eq-eqb, ne_eqb}
use Rattle.dhcp_message.specs.Options.{Token, pad, opt}
use Rattle.dhcp_message.specs.Message.{Passes27}
use Rattle.dhcp_message.specs.Standing.{here_at, GivesHere}
use Rattle.dhcp_message.specs.declared.Here.{Here}
use Rattle.dhcp_message.specs.declared.Here.TheVariants.{Broken, Opt}
use Rattle.dhcp_message.specs.declared.Options.{Options}
use Rattle.comparison.specs.Difference.{parts_of, body_at}
use Rattle.comparison.proofs.Walking.{Onward, Left, from_options, left_at, none_left, left_other, left_option}
use Rattle.std.specs.Prelude.{None, Some}

module _ (c : ℕ) where
  body_none : (k : ℕ) → body_at c k [] ≡ None
  unfolding body_at
  body_none k = refl

  body_pad : (k : ℕ) (ts : List Token) → body_at c k (pad ∷ ts) ≡ body_at c k ts
  unfolding body_at
  body_pad k ts = refl

  body_other : (k e : ℕ) (b : List ℕ) (ts : List Token) → e ≢ c → body_at c k (opt e b ∷ ts) ≡ body_at c k ts
  unfolding body_at
  body_other k e b ts n = rw (ne_eqb e c n)

  body_first : (b : List ℕ) (ts : List Token) → body_at c 0 (opt c b ∷ ts) ≡ Some b
  unfolding body_at
  body_first b ts = rw (eq-eqb c c refl)

  body_next : (k : ℕ) (b : List ℕ) (ts : List Token) → body_at c (suc k) (opt c b ∷ ts) ≡ body_at c k ts
  unfolding body_at
  body_next k b ts = rw (eq-eqb c c refl)

-- the option that is looked for stands among the tokens that are left, with so many of its code before it there
pub record Finding (m : List ℕ) (c before left : ℕ) (s : Options) : Type 0 where
  pub tokens : List Token
  pub rest : List ℕ
  pub here : Left m s tokens rest
  pub same : body_at c left tokens ≡ body_at c before (parts_of m).tokens

pub finding_start : {m : List ℕ} (c before : ℕ) → Passes27 m → (s : Options) → s.message.now ≡ m → s.at ≡ 240 → Finding m c before before s
finding_start {m} c before h s i e = record {
  tokens = (parts_of m).tokens;
  rest = (parts_of m).rest;
  here = left_at (from_options h s i e);
  same = refl;
}

module _ {m : List ℕ} {c before left : ℕ} (s : Options) (f : Finding m c before left s) where
  pub find_none : Broken ≡ here_at s.message.now s.at → None ≡ body_at c before (parts_of m).tokens
  find_none e = sym (sym f.same ∙ ap (body_at c left) (none_left s f.here e) ∙ body_none c left)

  module _ (t : Options) (at : ℕ) (h : Here) (g : GivesHere s at h t) where
    pub find_past : ((d n : ℕ) → h ≢ Opt d n) → Finding m c before left t
    find_past n =
        let o = left_other s f.here t at h g n in
        record { tokens = o.left; rest = f.rest; here = o.behind; same = same_past o.left o.first ∙ f.same }
      where
        same_past : (us : List Token) → (f.tokens ≡ us) ⊎ (f.tokens ≡ pad ∷ us) → body_at c left us ≡ body_at c left f.tokens
        same_past us (inl e) = ap (body_at c left) (sym e)
        same_past us (inr e) = sym (body_pad c left us) ∙ ap (body_at c left) (sym e)

    module _ {e n : ℕ} (o : h ≡ Opt e n) where
      abbrev own : List ℕ
      own = take (at + n - (at + 2)) (drop (at + 2) m)

      abbrev on : Onward m (opt e own) t f.tokens f.rest
      on = left_option s f.here t at h g o

      whole_body : (k : ℕ) → k ≡ left → body_at c k (opt e own ∷ on.left) ≡ body_at c before (parts_of m).tokens
      whole_body k q = ap (λ (j : ℕ). body_at c j (opt e own ∷ on.left)) q ∙ ap (body_at c left) (sym on.first) ∙ f.same

      pub find_there : e ≡ c → left ≡ 0 → Some own ≡ body_at c before (parts_of m).tokens
      find_there q z = sym (sym (whole_body 0 (sym z)) ∙ ap (λ (x : ℕ). body_at c 0 (opt x own ∷ on.left)) q ∙ body_first c own on.left)

      pub find_next : {less : ℕ} → e ≡ c → suc less ≡ left → Finding m c before less t
      find_next {less} q s = record {
        tokens = on.left;
        rest = f.rest;
        here = left_at on.behind;
        same = sym (body_next c less own on.left) ∙ ap (λ (x : ℕ). body_at c (suc less) (opt x own ∷ on.left)) (sym q) ∙ whole_body (suc less) s;
      }

      pub find_other : e ≢ c → Finding m c before left t
      find_other q = record {
        tokens = on.left;
        rest = f.rest;
        here = left_at on.behind;
        same = sym (body_other c left e own on.left q) ∙ whole_body left refl;
      }
