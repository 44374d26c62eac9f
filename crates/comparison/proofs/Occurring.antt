-- Laws of an option's occurrence: it is there exactly where the list of its code's bodies has an element at that place, and its body is that element.
use mathlib.Core.Path.{◌≡◌, refl, sym, ap}
use Prim.Native.Nat.{ℕ, zero, suc, ◌+◌}
use native.Mathlib.Nat.{zero-add}
use native.Mathlib.Omega.{arith}
use mathlib.Core.Bool.{Bool, true, false, cond}
use mathlib.Core.List.{List, [], ◌∷◌, ◌++◌}
use lib.Dec.{eqb}
use borrow.Author.Tests.{eq-eqb, eqb-true}
use Rattle.dhcp_message.specs.Options.{Token, pad, opt}
use Rattle.dhcp_message.specs.Message.{count}
use Rattle.dhcp_message.specs.Types.{bodies_of}
use Rattle.dhcp_message.proofs.Tokens.{count_append}
use Rattle.comparison.specs.Difference.{body_at}
use Rattle.comparison.specs.Laws.{Occurs, NotThere}
use Rattle.std.specs.Prelude.{None, Option, Some, slice_get}

module _ (c : ℕ) where
  -- the body behind so many of its code
  at_count : (b : List ℕ) (back front : List Token) → slice_get (bodies_of c (front ++ (opt c b ∷ back))) (count c front) ≡ Some b
  at_count b back [] = rw (eq-eqb c c refl)
  at_count b back (pad ∷ front) = at_count b back front
  at_count b back (opt e d ∷ front) = by (eqb e c) (at_count b back front)
    where
      bodies : List (List ℕ)
      bodies = bodies_of c (front ++ (opt c b ∷ back))

      by : (x : Bool) → slice_get bodies (count c front) ≡ Some b
          → slice_get (cond x (d ∷ bodies) bodies) (cond x 1 0 + count c front) ≡ Some b
      by true h = let n : 1 + count c front ≡ suc (count c front) = omega arith in rw n h
      by false h = rw zero-add h

  pub occurs_body : {o k : ℕ} {b : List ℕ} (ts : List Token) → o ≡ suc k → Occurs c o b ts → body_at c k ts ≡ Some b
  unfolding body_at
  occurs_body {o} {k} {b} ts e s =
      let m : k ≡ count c s.front = omega (arith, s.number) in
      rw (s.splits, m) (at_count b s.back s.front)

  -- one token more in front
  behind : (t : Token) {k n : ℕ} {b : List ℕ} {ts : List Token} → n ≡ count c (t ∷ []) + k → Occurs c k b ts → Occurs c n b (t ∷ ts)
  behind t e s = record {
    front = t ∷ s.front;
    back = s.back;
    splits = ap (λ (us : List Token). t ∷ us) s.splits;
    number = let a = count_append c (t ∷ []) s.front in omega (arith, s.number);
  }

  at_occurs : (k : ℕ) (b : List ℕ) (ts : List Token) → slice_get (bodies_of c ts) k ≡ Some b → Occurs c (suc k) b ts
  at_occurs k b [] h = absurd (cc)
  at_occurs k b (pad ∷ ts) h = behind pad (sym (zero-add (suc k))) (at_occurs k b ts h)
  at_occurs k b (opt e d ∷ ts) h = by (eqb e c) refl k h (λ k. at_occurs k b ts)
    where
      by : (x : Bool) → eqb e c ≡ x → (k : ℕ) → slice_get (cond x (d ∷ bodies_of c ts) (bodies_of c ts)) k ≡ Some b
          → ((k : ℕ) → slice_get (bodies_of c ts) k ≡ Some b → Occurs c (suc k) b ts) → Occurs c (suc k) b (opt e d ∷ ts)
      by true q zero h ih =
          let f : d ≡ b = cc in
          record { front = []; back = ts; splits = rw (eqb-true e c q, f); number = refl }
      by true q (suc k) h ih = behind (opt e d) (rw q (omega arith)) (ih k h)
      by false q k h ih = behind (opt e d) (rw q (omega arith)) (ih k h)

  pub body_occurs : {o k : ℕ} {b : List ℕ} (ts : List Token) → o ≡ suc k → body_at c k ts ≡ Some b → Occurs c o b ts
  unfolding body_at
  body_occurs {o} {k} {b} ts e h = rw e (at_occurs k b ts h)

  pub none_not_there : {o k : ℕ} (ts : List Token) → o ≡ suc k → body_at c k ts ≡ None → NotThere c o ts
  none_not_there ts e h b s = let f = occurs_body ts e s in cc

  pub not_there_none : {o k : ℕ} (ts : List Token) → o ≡ suc k → NotThere c o ts → body_at c k ts ≡ None
  not_there_none {o} {k} ts e h = by (body_at c k ts) refl
    where
      by : (x : Option (List ℕ)) → body_at c k ts ≡ x → x ≡ None
      by None f = refl
      by (Some b) f = absurd (h b (body_occurs ts e f))
