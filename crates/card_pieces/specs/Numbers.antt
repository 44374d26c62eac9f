-- A state's form and phase as numbers (docs/RULES.md, 'The card in pieces'), for a caller that has it in parts.
use Rattle.std.specs.Prelude.{Bool, cond, ◌&&◌, ℕ, eqb, None, Option, Some}
use Rattle.book_card.specs.declared.CardForm.TheVariants.{Old, New}
use Rattle.book_card.specs.Layout.{row_kind}
use Rattle.card_pieces.specs.declared.Phase.{Phase}
use Rattle.card_pieces.specs.declared.Phase.TheVariants.{Reading, Closed, Fault}
use Rattle.book_card.specs.declared.CardForm.{CardForm}

-- the form: the kind of the rows read, 0 where none was
unfoldable pub form_number : Option CardForm → ℕ
form_number None = 0
form_number (Some form) = row_kind form

-- and back; of a number that is no form's none
unfoldable pub form_numbered : ℕ → Option CardForm
form_numbered n = cond (eqb n (row_kind Old)) (Some Old) (cond (eqb n (row_kind New)) (Some New) None)

-- the phase
unfoldable pub phase_number : Phase → ℕ
phase_number Reading = 0
phase_number Closed = 1
phase_number Fault = 2

-- and back; of a number that is no phase's the fault
unfoldable pub phase_numbered : ℕ → Phase
phase_numbered n = cond (eqb n (phase_number Reading)) Reading (cond (eqb n (phase_number Closed)) Closed Fault)

-- whether these are the numbers of a form and of a phase: each is the number of what it stands for
unfoldable pub are_numbers : ℕ → ℕ → Bool
are_numbers form phase = eqb (form_number (form_numbered form)) form && eqb (phase_number (phase_numbered phase)) phase
