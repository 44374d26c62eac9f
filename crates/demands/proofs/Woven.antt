-- A second run woven of the first is `Rearranged`: by induction on the first run. The place of a step taken out is the length of what stands
-- before it; putting it back moves the places behind it up by one (`up`), which keeps their order and leaves its own place free.
use mathlib.Core.Path.{◌≡◌, refl, sym, ap, ◌∙◌}
use mathlib.Core.Logic.{◌≢◌}
use Rattle.std.proofs.lemmas.Option.{none-some, same_Some}
use mathlib.Core.List.{List, [], ◌∷◌, ◌++◌}
use Prim.Native.Nat.{ℕ, zero, suc, ◌≤◌, ◌<◌}
use native.Mathlib.Decide.{ℕ_discrete, dec_le, dec_lt}
use native.Mathlib.Omega.{arith}
use lib.ListN.{length, length-map}
use Rattle.demands.specs.Demand3.{Step, check, seal, judge, State, state_at, Carried, same, relayed, OneOrder, checks, seals, judgements}
use Rattle.demands.specs.Demand3.{NotAccepted, no_check, no_judgement}
use Rattle.demands.specs.Woven.{Item, carries, puts_in, step_in, run_of, Bound, Woven, rest, next, Unaccepted, WovenIsRearranged}
use Rattle.demands.proofs.Runs.{some_at}
use Rattle.demands.proofs.Steps.{name_relayed}
use Rattle.std.specs.Prelude.{Some, slice_get}

-- a place, after something was put in at n
up : ℕ → ℕ → ℕ
up zero p = suc p
up (suc n) zero = zero
up (suc n) (suc p) = suc (up n p)

module _ {A : Type 0} where
  at_up : (xs : List A) (y : A) (ys : List A) (p : ℕ) → slice_get (xs ++ y ∷ ys) (up (length xs) p) ≡ slice_get (xs ++ ys) p
  unfolding up
  at_up [] y ys p = refl
  at_up (x ∷ xs) y ys zero = refl
  at_up (x ∷ xs) y ys (suc p) = at_up xs y ys p

  at_seam : (xs : List A) (y : A) (ys : List A) → slice_get (xs ++ y ∷ ys) (length xs) ≡ Some y
  at_seam [] y ys = refl
  at_seam (x ∷ xs) y ys = at_seam xs y ys

  at_front : (xs ys : List A) (p : ℕ) → p < length xs → slice_get (xs ++ ys) p ≡ slice_get xs p
  at_front [] ys p l = absurd (omega arith)
  at_front (x ∷ xs) ys zero l = refl
  at_front (x ∷ xs) ys (suc p) l = at_front xs ys p (omega arith)

up_not : (n p : ℕ) → up n p ≢ n
unfolding up
up_not zero p e = omega arith
up_not (suc n) zero e = omega arith
up_not (suc n) (suc p) e = up_not n p (omega arith)

up_mono : (n p q : ℕ) → p < q → up n p < up n q
unfolding up
up_mono zero p q l = omega arith
up_mono (suc n) zero (suc q) l = omega arith
up_mono (suc n) (suc p) (suc q) l = omega (arith, up_mono n p q (omega arith))
up_mono (suc n) p zero l = absurd (omega arith)

up_past : (n p : ℕ) → n ≤ p → n < up n p
unfolding up
up_past zero p l = omega arith
up_past (suc n) zero l = omega arith
up_past (suc n) (suc p) l = omega (arith, up_past n p (omega arith))

-- and what it was before, where it is not n
down : (n p : ℕ) → p ≢ n → (q : ℕ) × (up n q ≡ p)
unfolding up
down zero zero e = absurd (e refl)
down zero (suc p) e = (p, refl)
down (suc n) zero e = (zero, refl)
down (suc n) (suc p) e = let w = down n p (λ f. e (ap suc f)) in (suc w.0, ap suc w.1)

up_inj : (n p q : ℕ) → up n p ≡ up n q → p ≡ q
up_inj n p q e =
    elim (dec_lt p q) [
      | yes l ↦ absurd (omega (arith, up_mono n p q l))
      | no l ↦ elim (dec_lt q p) [ yes m ↦ absurd (omega (arith, up_mono n q p m)) | no m ↦ omega arith ]
    ]

-- each step of the first run has a place of its own in the items, and every carried item is the place of one
record Placed (first : List Step) (items : List Item) (place : ℕ → ℕ) : Type 0 where
  apart : (i j : ℕ) → i < length first → j < length first → place i ≡ place j → i ≡ j
  carried : (i : ℕ) (s : Step) → slice_get first i ≡ Some s → (t : Step) × (slice_get items (place i) ≡ Some (carries t)) × Carried s t
  order : (i j : ℕ) (s t : Step) → slice_get first i ≡ Some s → slice_get first j ≡ Some t → OneOrder s t → i < j → place i < place j
  cover : (p : ℕ) (t : Step) → slice_get items p ≡ Some (carries t) → (i : ℕ) × (i < length first) × (place i ≡ p)

-- a step bound to another by `Rearranged` is bound to it, carried or not
bound : (s t u : Step) → OneOrder s t → Carried t u → Bound s u
bound s t u (checks e f) same = (_, e, f)
bound s t u seals same = refl
bound s t u judgements same = refl
bound s t u (checks e f) (relayed {m = m} {n = n} p r) = (_, e, name_relayed m n r ∙ f)

-- the first step put back: at length xs
module _ (s t : Step) (ss : List Step) (xs ys : List Item) (c : Carried s t)
    (f : (p : ℕ) (u : Step) → slice_get xs p ≡ Some (carries u) → Bound s u → ⊥) (place : ℕ → ℕ) (h : Placed ss (xs ++ ys) place) where
  place' : ℕ → ℕ
  place' zero = length xs
  place' (suc i) = up (length xs) (place i)

  apart' : (i j : ℕ) → i < suc (length ss) → j < suc (length ss) → place' i ≡ place' j → i ≡ j
  unfolding place'
  apart' zero zero l m e = refl
  apart' zero (suc j) l m e = absurd (up_not (length xs) (place j) (sym e))
  apart' (suc i) zero l m e = absurd (up_not (length xs) (place i) e)
  apart' (suc i) (suc j) l m e = ap suc (h.apart i j (omega arith) (omega arith) (up_inj (length xs) (place i) (place j) e))

  carried' : (i : ℕ) (u : Step) → slice_get (s ∷ ss) i ≡ Some u
      → (v : Step) × (slice_get (xs ++ carries t ∷ ys) (place' i) ≡ Some (carries v)) × Carried u v
  unfolding place'
  carried' zero u e = (t, at_seam xs (carries t) ys, rw (← (same_Some s u e)) c)
  carried' (suc i) u e = let x = h.carried i u e in (x.0, at_up xs (carries t) ys (place i) ∙ x.1, x.2)

  -- a later step of the same order stands past it
  past : (j : ℕ) (v : Step) → slice_get ss j ≡ Some v → OneOrder s v → length xs ≤ place j
  past j v b q =
      let x = h.carried j v b in
      elim (dec_le (length xs) (place j)) [
        | yes l ↦ l
        | no l ↦ absurd (f (place j) x.0 (sym (at_front xs ys (place j) (omega arith)) ∙ x.1) (bound s v x.0 q x.2))
      ]

  order' : (i j : ℕ) (u v : Step) → slice_get (s ∷ ss) i ≡ Some u → slice_get (s ∷ ss) j ≡ Some v → OneOrder u v → i < j → place' i < place' j
  unfolding place'
  order' i zero u v a b q l = absurd (omega arith)
  order' zero (suc j) u v a b q l = up_past (length xs) (place j) (past j v b (rw (same_Some s u a) q))
  order' (suc i) (suc j) u v a b q l = up_mono (length xs) (place i) (place j) (h.order i j u v a b q (omega arith))

  cover' : (p : ℕ) (u : Step) → slice_get (xs ++ carries t ∷ ys) p ≡ Some (carries u) → (i : ℕ) × (i < suc (length ss)) × (place' i ≡ p)
  unfolding place'
  cover' p u e =
      elim (ℕ_discrete p (length xs)) [
        | yes g ↦ (zero, omega arith, sym g)
        | no g ↦
            let d = down (length xs) p g in
            let x = h.cover d.0 u (sym (at_up xs (carries t) ys d.0) ∙ (rw d.1 e)) in
            (suc x.0, omega arith, ap (up (length xs)) x.2 ∙ d.1)
      ]

  add : Placed (s ∷ ss) (xs ++ carries t ∷ ys) place'
  add = record { apart = apart'; carried = carried'; order = order'; cover = cover' }

placed : {first : List Step} {items : List Item} → Woven first items → (place : ℕ → ℕ) × Placed first items place
placed (rest f) = (
  λ i. i,
  record {
    apart = λ i j l m e. e;
    carried = λ i s e. absurd (none-some s e);
    order = λ i j s t e f g l. l;
    cover = λ p t e. absurd (f p t e);
  },
)
placed (next {s = s} {t = t} {ss = ss} xs ys e c f w) =
    let h = placed w in
    (place' s t ss xs ys c f h.0 h.1, rw e (add s t ss xs ys c f h.0 h.1))

-- what is not accepted may be put in
may_put_in : (b : State) (t : Step) → Unaccepted b t → NotAccepted b t
may_put_in b (check m) f = no_check f
may_put_in b (seal id m) f = absurd f
may_put_in b (judge k m) f = no_judgement f

at_run : (items : List Item) (p : ℕ) (z : Item) → slice_get items p ≡ Some z → slice_get (run_of items) p ≡ Some (step_in z)
at_run [] p z e = absurd (none-some z e)
at_run (x ∷ items) zero z e = ap (λ (o : Item). Some (step_in o)) (same_Some x z e)
at_run (x ∷ items) (suc p) z e = at_run items p z e

pub woven_is_rearranged : WovenIsRearranged
woven_is_rearranged b first items w x =
    let h = placed w in (
      h.0,
      record {
        apart = h.1.apart;
        carried = λ i s e. let c = h.1.carried i s e in (c.0, at_run items (h.0 i) (carries c.0) c.1, c.2);
        order = h.1.order;
        put_in = λ p l f.
            let z = some_at items p (rw (length-map items step_in) at l) in
            not_carried p (λ t e. let c = h.1.cover p t e in f c.0 c.1 c.2) z.0 z.1;
      },
    )
  where
    -- an item that is no place of a step was put in
    not_carried : (p : ℕ) → ((t : Step) → slice_get items p ≡ Some (carries t) → ⊥) → (z : Item) → slice_get items p ≡ Some z
        → (t : Step) × (slice_get (run_of items) p ≡ Some t) × NotAccepted (state_at b (run_of items) p) t
    not_carried p g (carries t) e = absurd (g t e)
    not_carried p g (puts_in t) e = (t, at_run items p (puts_in t) e, may_put_in (state_at b (run_of items) p) t (x p t e))
