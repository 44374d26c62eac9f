-- The card: the bytes of a book's rows in a form, and which rows have a card (docs/RULES.md, 'The card').
-- A byte string is a card exactly when it is `card_of` of a form and of rows that are `InOrder` for it; specs/Laws.antt states that the reader agrees.
use Rattle.std.specs.Prelude.{ℕ, ◌+◌, ◌^◌, ◌≤◌, ◌<◌, ◌≡◌, List, [], ◌∷◌, ◌++◌, length, get_or}
use Rattle.octets.specs.Bytes.{Bytes}
use Rattle.octets.specs.Numbers.{le}
use Rattle.key_book.specs.Limits.{rows_most, slot_size, heard}
use Rattle.key_book.specs.Book.{MarkFits}
use Rattle.book_card.specs.declared.CardForm.{CardForm}
use Rattle.book_card.specs.declared.CardForm.TheVariants.{Old, New}
use Rattle.book_card.specs.Layout.{length_size, kind_size, id_size, mark_size, counter_size, count_size, row_kind, close_kind}

-- a row as a card holds it
pub record Row : Type 0 where
  pub id : ℕ
  pub mark : ℕ
  pub received : ℕ
  pub sent : ℕ
  pub key : List ℕ

-- a row from its fields, in their order
abbrev pub row_with : (id mark received sent : ℕ) → List ℕ → Row
row_with id mark received sent key = record { id = id; mark = mark; received = received; sent = sent; key = key }

-- a record: its length, which counts kind and body; its kind; its body
unfoldable pub record_of : ℕ → List ℕ → List ℕ
record_of kind body = le length_size (kind_size + length body) ++ (le kind_size kind ++ body)

-- a row's record in a form: in the old one the mark takes no byte
unfoldable pub row_record : CardForm → Row → List ℕ
row_record form r =
    record_of (row_kind form)
    (le id_size r.id ++ (le (mark_size form) r.mark ++ (le counter_size r.received ++ (le counter_size r.sent ++ r.key))))

unfoldable pub close : ℕ → List ℕ
close rows = record_of close_kind (le count_size rows)

-- the records of rows, one after another
unfoldable pub row_records : CardForm → List Row → List ℕ
row_records form [] = []
row_records form (r ∷ rows) = row_record form r ++ row_records form rows

-- the card of rows in a form: their records and the close, which numbers them
unfoldable pub card_of : CardForm → List Row → List ℕ
card_of form rows = row_records form rows ++ close (length rows)

-- the marks that a form can hold: the old one holds heard rows alone
abbrev pub Held : CardForm → ℕ → Type 0
Held Old mark = mark ≡ heard
Held New mark = Unit {0}

-- a row whose fields fit their places in a form, with a mark that goes with its received counter and a key of 1 to `slot_size` bytes
pub record RowFits (form : CardForm) (r : Row) : Type 0 where
  pub id_fits : r.id < 2 ^ 32
  pub mark_fits_lem : MarkFits r.mark r.received
  pub mark_held : Held form r.mark
  pub received_fits : r.received < 2 ^ 64
  pub sent_fits : r.sent < 2 ^ 64
  pub key_from : 1 ≤ length r.key
  pub key_to : length r.key ≤ slot_size
  pub key_bytes_lem : Bytes r.key

-- what stands past the last row, where `get_or` is asked for it
abbrev pub empty_row : Row
empty_row = row_with 0 0 0 0 []

-- rows that a card of a form may hold: not too many, each fitting, their ids ascending strictly
pub record InOrder (form : CardForm) (rows : List Row) : Type 0 where
  pub few : length rows ≤ rows_most
  pub fit : (k : ℕ) → k < length rows → RowFits form (get_or rows k empty_row)
  pub ascend : (j k : ℕ) → j < k → k < length rows → (get_or rows j empty_row).id < (get_or rows k empty_row).id

-- bytes that are the card of rows in a form
pub record IsCard (form : CardForm) (rows : List Row) (s : List ℕ) : Type 0 where
  pub order : InOrder form rows
  pub bytes : s ≡ card_of form rows

-- in either form; and bytes that are the card of no rows in either
abbrev pub CardFor : List Row → List ℕ → Type 0
CardFor rows s = (form : CardForm) × IsCard form rows s

abbrev pub NoCard : List ℕ → Type 0
NoCard s = (rows : List Row) → CardFor rows s → ⊥
