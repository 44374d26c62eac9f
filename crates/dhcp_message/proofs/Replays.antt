-- A new counter, by its two cases. The only law file that unfolds `is_new`.
use mathlib.Core.Path.{◌≡◌, refl}
use mathlib.Core.Logic.{◌⊎◌, inl, inr}
use mathlib.Core.Bool.{Bool, true, false, true≢false}
use Prim.Native.Nat.{ℕ, ◌≤◌, ◌<◌}
use borrow.Author.Tests.{lt-ltb, le-ltb, ltb-true, ltb-false}
use Rattle.dhcp_message.specs.Replay.{is_new, NewSays}

module _ (stored counter : ℕ) where
  -- to a sender not heard
  pub new_unheard : is_new false stored counter ≡ true
  unfolding is_new
  new_unheard = refl

  -- a counter above the stored one is new, heard or not; and where something was heard only such a counter is
  pub new_above : (heard : Bool) → stored < counter → is_new heard stored counter ≡ true
  unfolding is_new
  new_above false h = refl
  new_above true h = lt-ltb _ _ h

  pub above_new : is_new true stored counter ≡ true → stored < counter
  unfolding is_new
  above_new e = ltb-true _ _ e

  -- a counter that is not new
  pub old_counter : (heard : Bool) → is_new heard stored counter ≡ false → (heard ≡ true) × (counter ≤ stored)
  unfolding is_new
  old_counter false e = absurd (true≢false e)
  old_counter true e = (refl, ltb-false _ _ e)

  pub counter_old : counter ≤ stored → is_new true stored counter ≡ false
  unfolding is_new
  counter_old h = le-ltb _ _ h

pub new_says : NewSays
new_says = record {
  new = λ heard stored counter. (says stored counter heard, on stored counter heard);
  not_new = λ heard stored counter. (old_counter stored counter heard, λ w. rw w.0 (counter_old stored counter w.1));
}
  where
    says : (stored counter : ℕ) (heard : Bool) → is_new heard stored counter ≡ true → (heard ≡ false) ⊎ (stored < counter)
    says stored counter false e = inl refl
    says stored counter true e = inr (above_new stored counter e)

    on : (stored counter : ℕ) (heard : Bool) → (heard ≡ false) ⊎ (stored < counter) → is_new heard stored counter ≡ true
    on stored counter heard (inl e) = rw e (new_unheard stored counter)
    on stored counter heard (inr l) = new_above stored counter heard l
