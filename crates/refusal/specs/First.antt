-- What it is to give the first refusal that applies in an order of the entry's own, where its numbers don't rise (docs/RULES.md, 'FORCERENEW by nonce' and
-- 'Two messages side by side').
use Rattle.std.specs.Prelude.{ℕ, ◌<◌, ◌≡◌, ◌↔◌, List, Some, slice_get}
use Rattle.refusal.specs.declared.Refusal.{Refusal}
use Rattle.refusal.specs.Number.{number_of, done}

-- nothing before place i of the order applies
abbrev pub NothingBefore : {F : Type 0} → List F → (F → Type 0) → ℕ → Type 0
NothingBefore {F} order AppliesHere i = (j : ℕ) (q : F) → j < i → slice_get order j ≡ Some q → AppliesHere q → ⊥

-- On one input: what is given is the number of the refusal at some place of the order that applies with nothing before it; 0 exactly where nothing applies;
-- and what applies has a place.
pub record First (order : List Refusal) (AppliesHere : Refusal → Type 0) (number : ℕ) : Type 0 where
  pub refused : (i : ℕ) (r : Refusal) → slice_get order i ≡ Some r → (number ≡ number_of r) ↔ (AppliesHere r × NothingBefore order AppliesHere i)
  pub none_applies : (number ≡ done) ↔ ((r : Refusal) → AppliesHere r → ⊥)
  pub placed : (r : Refusal) → AppliesHere r → (i : ℕ) × (slice_get order i ≡ Some r)

-- Where a number may be that of several faults, as the same number of two messages: what is given is the number of a fault that stands at some place of the
-- order and applies with nothing before it, or 0 where nothing applies.
pub data FirstOf {F : Type 0} (order : List F) (numbered : F → ℕ) (AppliesHere : F → Type 0) (number : ℕ) : Type 0 where
  fault : (i : ℕ) (f : F) → slice_get order i ≡ Some f → AppliesHere f → NothingBefore order AppliesHere i → number ≡ numbered f
      → FirstOf order numbered AppliesHere number
  no_fault : ((f : F) → AppliesHere f → ⊥) → number ≡ done → FirstOf order numbered AppliesHere number
