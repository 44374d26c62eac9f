-- What it is to give the lowest number that applies (docs/RULES.md, 'Numbers'), whatever it is that applies: each entry says for itself when each
-- of its numbers does.
use Rattle.std.specs.Prelude.{ℕ, ◌<◌, ◌≡◌, ◌↔◌}
use Rattle.refusal.specs.declared.Refusal.{Refusal}
use Rattle.refusal.specs.Number.{number_of, done}

-- nothing with a number below n applies
abbrev pub NothingBelow : (Refusal → Type 0) → ℕ → Type 0
NothingBelow AppliesHere n = (q : Refusal) → number_of q < n → AppliesHere q → ⊥

-- On one input: the lowest number that applies is given, and 0 exactly where none does.
pub record Lowest (AppliesHere : Refusal → Type 0) (number : ℕ) : Type 0 where
  pub refused : (r : Refusal) → (number ≡ number_of r) ↔ (AppliesHere r × NothingBelow AppliesHere (number_of r))
  pub none_applies : (number ≡ done) ↔ ((r : Refusal) → AppliesHere r → ⊥)
