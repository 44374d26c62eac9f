-- The rows of a form in front of a card, one after another, by the one reader of what stands in front (specs/Reader.antt, `front_of`): for the contract of
-- the iterator over them.
use Rattle.std.specs.Prelude.{ℕ, ◌+◌, ◌-◌, ◌≡◌, List, length, take, drop, Option, None, Some}
use Rattle.std.specs.Borrow.{Bor}
use Rattle.std.specs.Iterator.{Count, at_most}
use Rattle.book_card.specs.Layout.{key_at}
use Rattle.book_card.specs.Reader.{front_of}
use Rattle.book_card.specs.declared.CardForm.{CardForm}
use Rattle.book_card.specs.declared.Front.{Front}
use Rattle.book_card.specs.declared.Front.TheVariants.{Row as RowFront}
use Rattle.book_card.specs.declared.LentRow.{LentRow}
use Rattle.book_card.specs.declared.Rows.{Rows}

-- all of a card
abbrev pub all_rows : Bor (List ℕ) → CardForm → Rows
all_rows card form = record { card = card; form = form; at = 0 }

-- what stands where the next row is to
abbrev pub stands : Rows → Front
stands s = front_of s.form (drop s.at s.card.now)

-- t is about the same card as s, at a place
pub record GoesTo (s t : Rows) (at : ℕ) : Type 0 where
  pub card : t.card.now ≡ s.card.now
  pub form : t.form ≡ s.form
  pub place : t.at ≡ at

-- the row that stands there came, and the one behind it comes next
pub record GivesRowHere (s : Rows) (r : LentRow) (t : Rows) : Type 0 where
  pub row : RowFront r.id r.mark r.received r.sent (length r.key.now) ≡ stands s
  pub key : r.key.now ≡ take (length r.key.now) (drop (s.at + key_at s.form) s.card.now)
  pub goes : GoesTo s t (s.at + key_at s.form + length r.key.now)

-- no row stands there, none came, and none comes next
pub record GivesNone (s t : Rows) : Type 0 where
  pub none : (id mark received sent size : ℕ) → stands s ≡ RowFront id mark received sent size → ⊥
  pub stays : GoesTo s t s.at

abbrev pub GivesRow : Rows → Option LentRow → Rows → Type 0
GivesRow s None t = GivesNone s t
GivesRow s (Some r) t = GivesRowHere s r t

-- each takes a byte at least
abbrev pub bytes_left : Rows → Count
bytes_left s = at_most (length s.card.now - s.at)
