-- When a counter is new (docs/RULES.md, 'The demands', 2; RFC 3118, sections 2 and 5.3): by whether anything was heard of its sender, and the counter that
-- was accepted last. With replay method 0 the counter rises with every message, so the one accepted last is a replay too; nothing rises from a sender of
-- whom nothing was heard, so any counter is new there.
-- The proof is in proofs/Replays.antt.
use Rattle.std.specs.Prelude.{◌≡◌, ◌⊎◌, ◌↔◌, Bool, true, false, ℕ, ◌≤◌, ◌<◌, ltb}

unfoldable pub is_new : (heard : Bool) (stored counter : ℕ) → Bool
is_new false stored counter = true
is_new true stored counter = ltb stored counter

pub record NewSays : Type 0 where
  -- new: nothing was heard, or the stored counter is below
  pub new : (heard : Bool) (stored counter : ℕ) → (is_new heard stored counter ≡ true) ↔ ((heard ≡ false) ⊎ (stored < counter))
  -- not new: something was heard, and the counter is not above the stored one
  pub not_new : (heard : Bool) (stored counter : ℕ) → (is_new heard stored counter ≡ false) ↔ ((heard ≡ true) × (counter ≤ stored))
