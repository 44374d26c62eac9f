-- The iterator over the rows in front of a card: a row that stands at a place lies within the card, and what one turn gives, by the card and its form.
use mathlib.Core.Path.{◌≡◌, sym, ◌∙◌}
use mathlib.Core.List.{List}
use Prim.Native.Nat.{ℕ, ◌+◌, ◌≤◌}
use native.Mathlib.Omega.{arith}
use lib.ListN.{length, take, drop, length-drop}
use Rattle.book_card.specs.declared.CardForm.{CardForm}
use Rattle.book_card.specs.Layout.{key_at}
use Rattle.book_card.specs.Reader.{front_of}
use Rattle.book_card.specs.Walk.{GoesTo, GivesRowHere, GivesNone}
use Rattle.book_card.specs.declared.Front.TheVariants.{Row as RowFront}
use Rattle.book_card.specs.declared.LentRow.{LentRow}
use Rattle.book_card.specs.declared.Rows.{Rows}
use Rattle.book_card.proofs.Wants.{FrontFits, front_fits}

-- a row that stands at a place lies within the card
pub row_inside : (form : CardForm) (card : List ℕ) (at id mark received sent size : ℕ) → RowFront id mark received sent size ≡ front_of form (drop at card)
    → at + key_at form + size ≤ length card
unfolding FrontFits
row_inside form card at id mark received sent size e =
    let i : FrontFits form (drop at card) (RowFront id mark received sent size) = rw (sym e) at (front_fits form (drop at card)) in
    let l = i.0 in
    let d = length-drop at card in
    omega arith

-- ---- a turn over a known card of a form

pub record Along (form : CardForm) (card : List ℕ) (s : Rows) : Type 0 where
  pub card_is : s.card.now ≡ card
  pub form_is : s.form ≡ form

module _ {form : CardForm} {card : List ℕ} {s : Rows} (a : Along form card s) where
  pub along_on : {t : Rows} {at : ℕ} → GoesTo s t at → Along form card t
  along_on g = record { card_is = g.card ∙ a.card_is; form_is = g.form ∙ a.form_is }

  pub no_row_stands : (t : Rows) → GivesNone s t → (id mark received sent size : ℕ) → RowFront id mark received sent size ≡ front_of form (drop s.at card) → ⊥
  no_row_stands t g id mark received sent size e = g.none id mark received sent size (rw (a.card_is, a.form_is) (sym e))

  module _ (r : LentRow) (t : Rows) (g : GivesRowHere s r t) where
    pub row_stands : RowFront r.id r.mark r.received r.sent (length r.key.now) ≡ front_of form (drop s.at card)
    row_stands = rw (a.card_is, a.form_is) at g.row

    pub row_key : r.key.now ≡ take (length r.key.now) (drop (s.at + key_at form) card)
    row_key = rw (a.card_is, a.form_is) at g.key

    pub row_behind : t.at ≡ s.at + key_at form + length r.key.now
    row_behind = rw a.form_is at g.goes.place
