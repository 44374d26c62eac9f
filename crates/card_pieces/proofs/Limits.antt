-- The computed tests of a state are the rules' sentences: its limits, its end, and its numbers.
use mathlib.Core.Path.{◌≡◌, refl, sym, ap, ◌∙◌}
use mathlib.Core.Logic.{◌↔◌, ◌⊎◌, inl, inr, ⊎_elim}
use mathlib.Core.Bool.{Bool, true, false, cond, and-eq-true_iff, true≢false}
use Prim.Native.Nat.{ℕ, zero, suc, ◌≤◌}
use native.Mathlib.Omega.{arith}
use lib.Dec.{eqb}
use borrow.Author.Tests.{le-leb, leb-true, eq-eqb, eqb-true}
use Rattle.key_book.specs.Limits.{rows_most}
use Rattle.card_pieces.specs.declared.Phase.{Phase}
use Rattle.card_pieces.specs.declared.Phase.TheVariants.{Reading, Closed, Fault}
use Rattle.book_card.specs.declared.CardForm.TheVariants.{Old, New}
use Rattle.book_card.specs.Layout.{row_kind}
use Rattle.card_pieces.specs.Numbers.{form_number, form_numbered, phase_number, phase_numbered, are_numbers}
use Rattle.card_pieces.specs.Pieces.{tail_most, within, has_ended}
use Rattle.card_pieces.specs.Laws.{WithinSays, Ended, EndedSays, NumbersBack}
use Rattle.std.specs.Prelude.{None, Option, Some}
use Rattle.book_card.specs.declared.CardForm.{CardForm}

pub within_says : WithinSays
unfolding within
within_says st = (
  λ e. let t = simp (and-eq-true_iff) at e in
      record { kept_within = leb-true st.kept tail_most t.0; rows_within = leb-true st.rows rows_most t.1 },
  λ w. rw (le-leb st.kept tail_most w.kept_within, le-leb st.rows rows_most w.rows_within),
)

pub ended_says : EndedSays
unfolding has_ended
ended_says st = (
  λ e. on st.phase refl e,
  λ h. ap (has_ended st.kept) h.is_closed ∙ eq-eqb st.kept 0 h.none_kept,
)
  where
    on : (x : Phase) → st.phase ≡ x → has_ended st.kept x ≡ true → Ended st
    on Reading p e = absurd (true≢false (sym e))
    on Closed p e = record { is_closed = p; none_kept = eqb-true st.kept 0 e }
    on Fault p e = absurd (true≢false (sym e))

-- ---- numbers

form_there : (form : Option CardForm) → form_numbered (form_number form) ≡ form
unfolding form_number form_numbered row_kind
form_there None = refl
form_there (Some Old) = refl
form_there (Some New) = refl

phase_there : (phase : Phase) → phase_numbered (phase_number phase) ≡ phase
unfolding phase_number phase_numbered
phase_there Reading = refl
phase_there Closed = refl
phase_there Fault = refl

pub are_numbers_lem : (form : Option CardForm) (phase : Phase) → are_numbers (form_number form) (phase_number phase) ≡ true
unfolding are_numbers
are_numbers_lem form phase =
    rw (eq-eqb _ (form_number form) (ap form_number (form_there form)), eq-eqb _ (phase_number phase) (ap phase_number (phase_there phase)))

-- which they are
form_one : (n : ℕ) → form_number (form_numbered n) ≡ n → (n ≡ 0) ⊎ ((n ≡ 1) ⊎ (n ≡ 3))
unfolding form_number form_numbered row_kind
form_one n e = on (eqb n 1) refl (eqb n 3) refl e
  where
    on : (t : Bool) → eqb n 1 ≡ t → (u : Bool) → eqb n 3 ≡ u → form_number (cond t (Some Old) (cond u (Some New) None)) ≡ n
        → (n ≡ 0) ⊎ ((n ≡ 1) ⊎ (n ≡ 3))
    on true p u q e = inr (inl (eqb-true n 1 p))
    on false p true q e = inr (inr (eqb-true n 3 q))
    on false p false q e = inl (sym e)

phase_one : (n : ℕ) → phase_number (phase_numbered n) ≡ n → n ≤ 2
unfolding phase_number phase_numbered
phase_one n e = on (eqb n 0) (eqb n 1) e
  where
    on : (t u : Bool) → phase_number (cond t Reading (cond u Closed Fault)) ≡ n → n ≤ 2
    on true u e = omega arith
    on false true e = omega arith
    on false false e = omega arith

phase_of : (n : ℕ) → n ≤ 2 → phase_number (phase_numbered n) ≡ n
unfolding phase_number phase_numbered
phase_of zero h = refl
phase_of (suc zero) h = refl
phase_of (suc (suc zero)) h = refl
phase_of (suc (suc (suc n))) h = absurd (omega arith)

form_of : (n : ℕ) → (n ≡ 0) ⊎ ((n ≡ 1) ⊎ (n ≡ 3)) → form_number (form_numbered n) ≡ n
unfolding form_number form_numbered row_kind
form_of n h =
    ⊎_elim (λ (e : n ≡ 0). ap (λ (x : ℕ). form_number (form_numbered x)) e ∙ sym e)
    (λ (k : (n ≡ 1) ⊎ (n ≡ 3)). ⊎_elim (λ (e : n ≡ 1). ap (λ (x : ℕ). form_number (form_numbered x)) e ∙ sym e)
    (λ (e : n ≡ 3). ap (λ (x : ℕ). form_number (form_numbered x)) e ∙ sym e) k) h

numbers_known : (form phase : ℕ) → (are_numbers form phase ≡ true) ↔ (((form ≡ 0) ⊎ ((form ≡ 1) ⊎ (form ≡ 3))) × (phase ≤ 2))
unfolding are_numbers
numbers_known form phase = (
  λ e. let t = simp (and-eq-true_iff) at e in (form_one form (eqb-true _ form t.0), phase_one phase (eqb-true _ phase t.1)),
  λ h. rw (eq-eqb _ form (form_of form h.0), eq-eqb _ phase (phase_of phase h.1)),
)

pub numbers_back : NumbersBack
numbers_back = record { form_back = form_there; phase_back = phase_there; known = numbers_known }
