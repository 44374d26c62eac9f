-- The second runs of demand 3 told the other way round, as a cross-check of `Rearranged`: take the first step of the first run out of the
-- second, where no step of its own order stands before it, and so on with the next; at last only steps put in are left.
-- Each second run of this kind is `Rearranged`, so demand 3 holds of it. The one proof is proofs/Woven.antt.
use Rattle.std.specs.Prelude.{ℕ, ◌≡◌, List, [], ◌∷◌, ◌++◌, map, Some, slice_get}
use Rattle.dhcp_message.specs.Said.{named}
use Rattle.demands.specs.Accepts.{Accepts, Heeds}
use Rattle.demands.specs.Demand3.{Step, check, seal, judge, State, state_at, Carried, Rearranged}

-- what stands in the second run: a step of the first, or one put in
pub data Item : Type 0 where
  carries : Step → Item
  puts_in : Step → Item

abbrev pub step_in : Item → Step
step_in (carries s) = s
step_in (puts_in s) = s

-- the second run itself
abbrev pub run_of : List Item → List Step
run_of items = map step_in items

-- two steps that are bound to one order, in words of this file: their messages name one secret, or they seal under one id, or they judge for one row
abbrev pub Bound : Step → Step → Type 0
Bound (check m) (check n) = (id : ℕ) × (named m ≡ Some id) × (named n ≡ Some id)
Bound (check m) (seal j n) = ⊥
Bound (check m) (judge k n) = ⊥
Bound (seal i m) (check n) = ⊥
Bound (seal i m) (seal j n) = i ≡ j
Bound (seal i m) (judge k n) = ⊥
Bound (judge j m) (check n) = ⊥
Bound (judge j m) (seal i n) = ⊥
Bound (judge j m) (judge k n) = j ≡ k

-- the items are woven of the first run's steps and steps put in
pub data Woven : List Step → List Item → Type 0 where
  -- no step of the first run is left: all that is left was put in
  rest : {items : List Item} → ((p : ℕ) (t : Step) → slice_get items p ≡ Some (carries t) → ⊥) → Woven [] items
  -- the first step s stands as t between xs and ys, no step of its own order before it; without it the others are woven of the later steps
  next : {s t : Step} {ss : List Step} {items : List Item} (xs ys : List Item) → items ≡ xs ++ carries t ∷ ys → Carried s t
      → ((p : ℕ) (u : Step) → slice_get xs p ≡ Some (carries u) → Bound s u → ⊥) → Woven ss (xs ++ ys) → Woven (s ∷ ss) items

-- a step that demand 2 doesn't accept on the state as it is there, in words of this file: a check or a judgement, and no seal
abbrev pub Unaccepted : State → Step → Type 0
Unaccepted b (check m) = (k c : ℕ) → Accepts b.book m k c → ⊥
Unaccepted b (seal id m) = ⊥
Unaccepted b (judge k m) = (type c : ℕ) → Heeds b.servers k m type c → ⊥

-- the steps put in are all of that kind
abbrev pub NoneAccepted : State → List Item → Type 0
NoneAccepted b items = (p : ℕ) (t : Step) → slice_get items p ≡ Some (puts_in t) → Unaccepted (state_at b (run_of items) p) t

abbrev pub WovenIsRearranged : Type 0
WovenIsRearranged =
    (b : State) (first : List Step) (items : List Item) → Woven first items → NoneAccepted b items
    → (place : ℕ → ℕ) × Rearranged b first (run_of items) place
