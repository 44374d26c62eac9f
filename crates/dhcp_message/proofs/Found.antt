-- What the pass over the options finds, on tokens: counts, and of an option that is there once its offset and its size.
use mathlib.Core.Path.{◌≡◌, refl, sym, ap, ap₂, ◌∙◌}
use Prim.Native.Nat.{ℕ, suc, ◌+◌}
use native.Mathlib.Nat.{add_assoc, zero-add, add-zero}
use native.Mathlib.Omega.{arith}
use mathlib.Core.Bool.{Bool, true, false, cond}
use mathlib.Core.List.{List, [], ◌∷◌, ◌++◌}
use lib.ListN.{length, length-append}
use lib.Dec.{eqb}
use borrow.Author.Tests.{eq-eqb, eqb-true, eqb-false}
use Rattle.dhcp_message.specs.Options.{Token, pad, opt, encode}
use Rattle.dhcp_message.specs.Message.{count, option_of, tokens_before}
use Rattle.dhcp_message.specs.Scan.{seen_of, scan_from}
use Rattle.dhcp_message.specs.declared.scan.Tally.{Tally}
use Rattle.dhcp_message.proofs.Tokens.{nil_right, no_hit, Split, split, option_at, before_at, none_back}
use Rattle.dhcp_message.proofs.Turns.{seen_auth, seen_relay, seen_other}
use Rattle.dhcp_message.specs.Scan.{scan_to}

-- ---- what was found, on tokens

-- the offset of the last option of code c among tokens from an offset on, and the bytes it takes; else what was before
abbrev pub place : ℕ → ℕ → ℕ → List Token → ℕ
place c at d [] = d
place c at d (pad ∷ ts) = place c (at + 1) d ts
place c at d (opt e b ∷ ts) = place c (at + (2 + length b)) (cond (eqb e c) at d) ts

abbrev pub size : ℕ → ℕ → List Token → ℕ
size c d [] = d
size c d (pad ∷ ts) = size c d ts
size c d (opt e b ∷ ts) = size c (cond (eqb e c) (2 + length b) d) ts

abbrev pub resume : Tally → ℕ → List Token → Tally
resume f at ts = record {
  n90 = f.n90 + count 90 ts;
  at90 = place 90 at f.at90 ts;
  n82 = f.n82 + count 82 ts;
  at82 = place 82 at f.at82 ts;
  size82 = size 82 f.size82 ts;
}

module _ (f : Tally) (c at : ℕ) (b : List ℕ) (ts : List Token) where
  one_more_lem : (x y : Bool) → eqb c 90 ≡ x → eqb c 82 ≡ y
      → resume (seen_of f c at (2 + length b)) (at + (2 + length b)) ts ≡ resume f at (opt c b ∷ ts)
  one_more_lem true true hx hy = absurd (omega (arith, eqb-true c 90 hx, eqb-true c 82 hy))
  one_more_lem true false hx hy =
      let e = eqb-true c 90 hx in
      rw (← seen_auth f c at (2 + length b) e, hx, hy, add_assoc, zero-add)
  one_more_lem false true hx hy =
      let e = eqb-true c 82 hy in
      rw (← seen_relay f c at (2 + length b) (eqb-false c 90 hx) e, hx, hy, add_assoc, zero-add)
  one_more_lem false false hx hy =
      let e = seen_other f c at (2 + length b) (eqb-false c 90 hx) (eqb-false c 82 hy) in
      rw (← e, hx, hy, zero-add (count 90 ts), zero-add (count 82 ts))

pub scan_is : (ts : List Token) (f : Tally) (at : ℕ) → scan_from f at ts ≡ scan_to (resume f at ts) (at + length (encode ts))
scan_is [] f at = rw (add-zero f.n90, add-zero f.n82, add-zero at)
scan_is (pad ∷ ts) f at =
    let e : at + 1 + length (encode ts) ≡ at + suc (length (encode ts)) = omega arith in
    scan_is ts f (at + 1) ∙ ap (scan_to (resume f (at + 1) ts)) e
scan_is (opt c b ∷ ts) f at =
    let l = length-append b (encode ts) in
    let e : at + (2 + length b) + length (encode ts) ≡ at + suc (suc (length (b ++ encode ts))) = omega arith in
    scan_is ts (seen_of f c at (2 + length b)) (at + (2 + length b))
    ∙ ap₂ scan_to (one_more_lem f c at b ts (eqb c 90) (eqb c 82) refl refl) e

-- ---- of an option that is there once, the last is the first

module _ (c : ℕ) where
  -- behind tokens without it
  module _ (q : List Token) where
    place_behind : (p : List Token) (at d : ℕ) → count c p ≡ 0 → place c at d (p ++ q) ≡ place c (at + length (encode p)) d q
    place_behind [] at d z = rw add-zero
    place_behind (pad ∷ p) at d z = place_behind p (at + 1) d z ∙ ap (λ (n : ℕ). place c n d q) (omega arith)
    place_behind (opt e b ∷ p) at d z =
        let h = no_hit c e p (eqb e c) refl z in
        let l = length-append b (encode p) in
        ap (λ (x : Bool). place c (at + (2 + length b)) (cond x at d) (p ++ q)) h.0
        ∙ place_behind p (at + (2 + length b)) d h.1 ∙ ap (λ (n : ℕ). place c n d q) (omega arith)

    size_behind : (p : List Token) (d : ℕ) → count c p ≡ 0 → size c d (p ++ q) ≡ size c d q
    size_behind [] d z = refl
    size_behind (pad ∷ p) d z = size_behind p d z
    size_behind (opt e b ∷ p) d z =
        let h = no_hit c e p (eqb e c) refl z in
        ap (λ (x : Bool). size c (cond x (2 + length b) d) (p ++ q)) h.0 ∙ size_behind p d h.1

  module _ (ts : List Token) (z : count c ts ≡ 0) where
    place_none : (at d : ℕ) → place c at d ts ≡ d
    place_none at d = ap (place c at d) (sym (nil_right ts)) ∙ place_behind [] ts at d z

    size_none : (d : ℕ) → size c d ts ≡ d
    size_none d = ap (size c d) (sym (nil_right ts)) ∙ size_behind [] ts d z

  module _ (ts : List Token) (once : count c ts ≡ 1) where
    abbrev s : Split c ts
    s = split c ts (omega arith)

    back_none : count c s.back ≡ 0
    back_none = none_back s (omega arith)

    pub place_once : (at d : ℕ) → place c at d ts ≡ at + length (encode (tokens_before c ts))
    place_once at d =
        let n = at + length (encode s.front) in
        let k = n + (2 + length s.body) in
        ap (place c at d) s.tokens ∙ place_behind (opt c s.body ∷ s.back) s.front at d s.none_front
        ∙ ap (λ (x : Bool). place c k (cond x n d) s.back) (eq-eqb c c refl) ∙ place_none s.back back_none k n
        ∙ ap (λ (us : List Token). at + length (encode us))
        (sym (before_at s))

    pub size_once : (d : ℕ) → size c d ts ≡ length (option_of c ts)
    size_once d =
        let e : 2 + length s.body ≡ length (c ∷ length s.body ∷ s.body) = omega arith in
        ap (size c d) s.tokens ∙ size_behind (opt c s.body ∷ s.back) s.front d s.none_front
        ∙ ap (λ (x : Bool). size c (cond x (2 + length s.body) d) s.back) (eq-eqb c c refl) ∙ size_none s.back back_none _
        ∙ e ∙ ap length (sym (option_at s))
