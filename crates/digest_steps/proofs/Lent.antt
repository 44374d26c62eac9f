-- What is lent and put together to a state comes apart to the same.
use Rattle.std.proofs.Common.{◌≡◌, List, [], ◌∷◌, ℕ, length, refl, arith}
use Rattle.digest_steps.specs.State.{state_of, four_words}

pub four_back : (words tail : List ℕ) (total : ℕ) → length words ≡ 4 → four_words (state_of words tail total) ≡ words
unfolding four_words state_of
four_back (a ∷ b ∷ c ∷ d ∷ []) tail total h = refl
four_back [] tail total h = absurd (omega arith)
four_back (a ∷ []) tail total h = absurd (omega arith)
four_back (a ∷ b ∷ []) tail total h = absurd (omega arith)
four_back (a ∷ b ∷ c ∷ []) tail total h = absurd (omega arith)
four_back (a ∷ b ∷ c ∷ d ∷ e ∷ r) tail total h = absurd (omega arith)
