-- What is proved of the reader, each as a closed statement: docs/RULES.md, 'The card'. The proofs are in proofs/Says.antt.
use Rattle.std.specs.Prelude.{◌≡◌, ◌↔◌, List, ◌++◌, length, take, ℕ, None, Some}
use Rattle.octets.specs.Bytes.{Bytes}
use Rattle.book_card.specs.declared.CardForm.{CardForm}
use Rattle.book_card.specs.Card.{Row, row_records, card_of, InOrder, CardFor, NoCard}
use Rattle.book_card.specs.Reader.{closed, FrontRows, rows_in_front, read_card}

-- the rows of a form in front of bytes: they are in order, the bytes begin with their records, any rows in order whose records the bytes begin with are
-- the first of them, and they end closed exactly where the bytes are their card
pub record InFront (form : CardForm) (s : List ℕ) (f : FrontRows) : Type 0 where
  pub order : InOrder form f.rows
  pub bytes : s ≡ row_records form f.rows ++ f.rest
  pub most : (rows : List Row) (rest : List ℕ) → InOrder form rows → s ≡ row_records form rows ++ rest → rows ≡ take (length rows) f.rows
  pub ends_closed : (f.ends ≡ closed) ↔ (s ≡ card_of form f.rows)

abbrev pub FrontSays : Type 0
FrontSays = (form : CardForm) (s : List ℕ) → Bytes s → InFront form s (rows_in_front form s)

-- the reader finds rows exactly where the bytes are the card of those rows in either form
abbrev pub CardSays : Type 0
CardSays = (s : List ℕ) → Bytes s → (rows : List Row) → (read_card s ≡ Some rows) ↔ CardFor rows s

-- so bytes are malformed exactly where they are the card of no rows in either form
abbrev pub MalformedSays : Type 0
MalformedSays = (s : List ℕ) → Bytes s → (read_card s ≡ None) ↔ NoCard s
