-- What the network may do to a run of a few steps, so that a worked second run is shown by computing: what holds of each step and of each place,
-- and the order of steps under one secret or of one server, decided. And a relay's change of hops, giaddr and option 82.
use mathlib.Core.Path.{◌≡◌, refl, sym, ap, subst, ◌∙◌}
use mathlib.Core.Logic.{◌≢◌}
use mathlib.Core.Bool.{Bool, true, false, cond, ◌&&◌}
use Rattle.std.proofs.lemmas.Option.{none-some, same_Some}
use mathlib.Core.List.{List, [], ◌∷◌, ◌++◌}
use Prim.Native.Nat.{ℕ, zero, suc, ◌+◌, ◌*◌, ◌<◌, ◌≤◌}
use native.Mathlib.Omega.{arith}
use borrow.Author.Tests.{ltb-true, eqb-true, eq-eqb}
use lib.Dec.{eqb, ltb}
use lib.ListN.{length, take, drop}
use Rattle.octets.proofs.Starts.{and_true}
use Rattle.dhcp_message.specs.Options.{Token, encode, Reads}
use Rattle.dhcp_message.specs.Message.{Passes27}
use Rattle.dhcp_message.specs.Said.{named}
use Rattle.dhcp_message.specs.Image.{head_with}
use Rattle.dhcp_message.specs.Relay.{RelayChange, Permitted}
use Rattle.demands.specs.Demand3.{Step, check, seal, judge, State, state_at, Carried, OneOrder, checks, seals, judgements, NotAccepted, Rearranged}
use Rattle.std.specs.Prelude.{None, Option, Some, slice_get, option_map}

-- ---- each of a few

infixr 4 ◌and◌
abbrev pub ◌and◌ : {A B : Type 0} → A → B → A × B
a and b = (a, b)

-- each of the first n numbers
abbrev pub Each : ℕ → (ℕ → Type 0) → Type 0
Each zero P = Unit {0}
Each (suc n) P = P 0 × Each n (λ i. P (suc i))

pub each : (n : ℕ) (P : ℕ → Type 0) → Each n P → (i : ℕ) → i < n → P i
each zero P h i l = absurd (omega arith)
each (suc n) P h zero l = h.0
each (suc n) P h (suc i) l = each n (λ i. P (suc i)) h.1 i (omega arith)

-- each step of a run, with its place
abbrev pub EachStep : List Step → (ℕ → Step → Type 0) → Type 0
EachStep [] P = Unit {0}
EachStep (s ∷ l) P = P 0 s × EachStep l (λ i. P (suc i))

each_step : (l : List Step) (P : ℕ → Step → Type 0) → EachStep l P → (i : ℕ) (s : Step) → slice_get l i ≡ Some s → P i s
each_step [] P h i s e = absurd (none-some s e)
each_step (x ∷ l) P h zero s e = subst (P 0) (same_Some x s e) h.0
each_step (x ∷ l) P h (suc i) s e = each_step l (λ i. P (suc i)) h.1 i s e

-- ---- the order of steps under one secret, and of those of one server

-- the order that a step is bound to, as a number: that of its secret's checks, or of its seals, or of its row's judgements
unfoldable pub order_of : Step → Option ℕ
order_of (check m) = option_map (λ id. 3 * id) (named m)
order_of (seal id m) = Some (3 * id + 1)
order_of (judge k m) = Some (3 * k + 2)

one_order : (s t : Step) → OneOrder s t → (n : ℕ) × (order_of s ≡ Some n) × (order_of t ≡ Some n)
unfolding order_of
one_order s t (checks {id = id} e f) = (3 * id, rw e, rw f)
one_order s t (seals {id = id}) = (3 * id + 1, refl, refl)
one_order s t (judgements {k = k}) = (3 * k + 2, refl, refl)

-- a step of order o at place p stands before one of order o' at p', if they are of one order
unfoldable pub before : Option ℕ → ℕ → Option ℕ → ℕ → Bool
before None p o p' = true
before (Some n) p None p' = true
before (Some n) p (Some k) p' = cond (eqb n k) (ltb p p') true

unfoldable pub before_all : Option ℕ → ℕ → List Step → (ℕ → ℕ) → Bool
before_all o p [] place = true
before_all o p (s ∷ l) place = before o p (order_of s) (place 0) && before_all o p l (λ i. place (suc i))

-- every step stands before the later ones of its order
unfoldable pub in_order : List Step → (ℕ → ℕ) → Bool
in_order [] place = true
in_order (s ∷ l) place = before_all (order_of s) (place 0) l (λ i. place (suc i)) && in_order l (λ i. place (suc i))

before_all_lem : (n p : ℕ) (l : List Step) (place : ℕ → ℕ) → before_all (Some n) p l place ≡ true
    → (j : ℕ) (t : Step) → slice_get l j ≡ Some t → order_of t ≡ Some n → p < place j
unfolding before before_all
before_all_lem n p [] place h j t e f = absurd (none-some t e)
before_all_lem n p (x ∷ l) place h zero t e f =
    let g : order_of x ≡ Some n = ap order_of (same_Some x t e) ∙ f in
    let here : before (Some n) p (order_of x) (place 0) ≡ true = (and_true _ _ h).0 in
    ltb-true p (place 0) (rw (g, eq-eqb n n refl) at here)
before_all_lem n p (x ∷ l) place h (suc j) t e f = before_all_lem n p l (λ i. place (suc i)) (and_true (before (Some n) p (order_of x) (place 0)) _ h).1 j t e f

order_kept : (l : List Step) (place : ℕ → ℕ) → in_order l place ≡ true
    → (i j : ℕ) (s t : Step) → slice_get l i ≡ Some s → slice_get l j ≡ Some t → OneOrder s t → i < j → place i < place j
unfolding in_order
order_kept [] place h i j s t e f q l = absurd (none-some s e)
order_kept (x ∷ xs) place h i zero s t e f q l = absurd (omega arith)
order_kept (x ∷ xs) place h zero (suc j) s t e f q l =
    let w = one_order s t q in
    let g : order_of x ≡ Some w.0 = ap order_of (same_Some x s e) ∙ w.1 in
    let here : before_all (order_of x) (place 0) xs (λ i. place (suc i)) ≡ true = (and_true _ _ h).0 in
    before_all_lem w.0 (place 0) xs (λ i. place (suc i)) (rw g at here) j t f w.2
order_kept (x ∷ xs) place h (suc i) (suc j) s t e f q l =
    let later = (and_true (before_all (order_of x) (place 0) xs (λ i. place (suc i))) _ h).1 in
    order_kept xs (λ i. place (suc i)) later i j s t e f q (omega arith)

-- ---- a second run, by each step of the first and each place of its own

-- a step put in that is not accepted there
abbrev pub PutIn : State → List Step → ℕ → Type 0
PutIn b second p = (t : Step) × (slice_get second p ≡ Some t) × NotAccepted (state_at b second p) t

-- a place where no step of the first run stands has a step put in; `from` goes back from a place to the step that stands there
abbrev pub OrPutIn : State → List Step → ℕ → Bool → Type 0
OrPutIn b second p true = Unit {0}
OrPutIn b second p false = PutIn b second p

pub rearranged : (b : State) (first second : List Step) (place from : ℕ → ℕ)
    → Each (length first) (λ i. from (place i) ≡ i)
    → EachStep first (λ i s. (t : Step) × (slice_get second (place i) ≡ Some t) × Carried s t)
    → in_order first place ≡ true
    → Each (length second) (λ p. OrPutIn b second p (ltb (from p) (length first) && eqb (place (from p)) p))
    → Rearranged b first second place
rearranged b first second place from back carried order others = record {
  apart = λ i j l h e. sym (back_at i l) ∙ ap from e ∙ back_at j h;
  carried = each_step first (λ i s. (t : Step) × (slice_get second (place i) ≡ Some t) × Carried s t) carried;
  order = order_kept first place order;
  put_in = λ p l f. on p f (ltb (from p) (length first)) refl (eqb (place (from p)) p) refl (each (length second) _ others p l);
}
  where
    back_at : (i : ℕ) → i < length first → from (place i) ≡ i
    back_at = each (length first) (λ i. from (place i) ≡ i) back

    on : (p : ℕ) → ((i : ℕ) → i < length first → place i ≢ p) → (t : Bool) → ltb (from p) (length first) ≡ t → (u : Bool) → eqb (place (from p)) p ≡ u
        → OrPutIn b second p (t && u) → PutIn b second p
    on p f true d true e h = absurd (f (from p) (ltb-true (from p) (length first) d) (eqb-true (place (from p)) p e))
    on p f true d false e h = h
    on p f false d u e h = h

-- ---- a relay sets hops and giaddr, and changes option 82

pub relays : (m n : List ℕ) → Passes27 m → (tokens tokens' : List Token) → Reads (drop 240 m) tokens [] → RelayChange tokens tokens'
    → (hops giaddr : ℕ) → hops < 256 → giaddr < 256
    → n ≡ head_with (hops ∷ []) (10 ∷ 0 ∷ 0 ∷ giaddr ∷ []) (take 240 m) ++ (encode tokens' ++ (255 ∷ [])) → length n ≤ 1472 → Permitted m n
relays m n p tokens tokens' r c hops giaddr h g e l = record {
  passes = p;
  tokens = tokens;
  rest = [];
  reads = r;
  tokens' = tokens';
  change = c;
  hops = hops ∷ [];
  hops_size_lem = refl;
  hops_bytes = (h, tt);
  giaddr = 10 ∷ 0 ∷ 0 ∷ giaddr ∷ [];
  giaddr_size_lem = refl;
  giaddr_bytes = omega arith;
  becomes = e;
  fits = l;
}
