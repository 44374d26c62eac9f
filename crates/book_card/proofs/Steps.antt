-- The reader step by step: what comes of the record in front, and where the first step begins.
use mathlib.Core.Path.{◌≡◌, refl}
use mathlib.Core.List.{List}
use Prim.Native.Nat.{ℕ, zero, suc}
use Rattle.key_book.specs.Limits.{rows_most}
use Rattle.book_card.specs.declared.CardForm.{CardForm}
use Rattle.book_card.specs.Card.{Row}
use Rattle.book_card.specs.Reader.{form_in, front_of, fault, FrontRows, ended, with_row, step_from, front_from, rows_in_front, card_in, read_card}

module _ (form : CardForm) where
  -- what comes of a row, however many are still allowed
  unfoldable pub go_on : ℕ → List ℕ → Row → ℕ → ℕ → List ℕ → FrontRows
  go_on zero s r l m t = ended fault s
  go_on (suc left) s r l m t = with_row r (front_from form left l m t)

  pub on_none : (s : List ℕ) (r : Row) (l m : ℕ) (t : List ℕ) → go_on 0 s r l m t ≡ ended fault s
  unfolding go_on
  on_none s r l m t = refl

  pub on_more : (left : ℕ) (s : List ℕ) (r : Row) (l m : ℕ) (t : List ℕ) → go_on (suc left) s r l m t ≡ with_row r (front_from form left l m t)
  unfolding go_on
  on_more left s r l m t = refl

  pub front_step : (left low n : ℕ) (s : List ℕ) → front_from form left low n s ≡ step_from form (go_on left s) low n s (front_of form s)
  unfolding front_from go_on
  front_step zero low n s = refl
  front_step (suc left) low n s = refl

  pub in_front_lem : (s : List ℕ) → rows_in_front form s ≡ front_from form rows_most 0 0 s
  unfolding rows_in_front
  in_front_lem s = refl

pub read_is : (s : List ℕ) → read_card s ≡ card_in (rows_in_front (form_in s) s)
unfolding read_card
read_is s = refl
