-- The reader of a card, computed: which form its rows have, what record stands in front, the rows in front and how they end, and the rows of a whole
-- card.
-- What it means is in specs/Card.antt; that it agrees is stated in specs/Laws.antt.
use Rattle.std.specs.Prelude.{Bool, true, false, cond, ◌&&◌, ◌||◌, ℕ, zero, suc, ◌+◌, ◌-◌, List, [], ◌∷◌, leb, ltb, eqb, length, take, drop, None, Option, Some}
use Rattle.octets.specs.Numbers.{little_at}
use Rattle.key_book.specs.Limits.{rows_most, slot_size, heard}
use Rattle.key_book.specs.Book.{mark_fits}
use Rattle.book_card.specs.declared.CardForm.{CardForm}
use Rattle.book_card.specs.declared.CardForm.TheVariants.{Old, New}
use Rattle.book_card.specs.Layout.{length_size, kind_size, id_size, mark_size, counter_size, count_size, row_kind, close_kind}
use Rattle.book_card.specs.Layout.{kind_at, body_at, mark_at, received_at, sent_at, key_at, close_size}
use Rattle.book_card.specs.Card.{Row, row_with}
use Rattle.book_card.specs.declared.Front.{Front}
use Rattle.book_card.specs.declared.Front.TheVariants.{Broken, Row as RowFront, Close}

-- the form of a card's rows, by the kind of its first record; a card of no rows counts as one of the old form
unfoldable pub form_in : List ℕ → CardForm
form_in s = cond (ltb (length s) body_at) Old (cond (eqb (little_at s kind_at kind_size) (row_kind New)) New Old)

-- the mark of the row in front: in the old form every row is heard
unfoldable pub mark_in : CardForm → List ℕ → ℕ
mark_in Old s = heard
mark_in New s = little_at s mark_at (mark_size New)

-- the row in front, by its length field: broken where this is not one of its form, or the mark and the received counter don't go together
abbrev pub row_by : CardForm → List ℕ → ℕ → Front
row_by form s size =
    cond (ltb size (key_at form - length_size + 1)) Broken
    (cond (ltb (key_at form - length_size + slot_size) size) Broken
    (cond (mark_fits (mark_in form s) (little_at s (received_at form) counter_size))
    (RowFront (little_at s body_at id_size) (mark_in form s) (little_at s (received_at form) counter_size) (little_at s (sent_at form) counter_size)
    (size - (key_at form - length_size)))
    Broken))

-- what stands in front, by its kind and its length field; whatever is no row of the form and no close is broken
abbrev pub front_by : CardForm → List ℕ → ℕ → ℕ → Front
front_by form s size kind =
    cond (eqb kind close_kind) (cond (eqb size (close_size - length_size)) (Close (little_at s body_at count_size)) Broken)
    (cond (eqb kind (row_kind form)) (row_by form s size) Broken)

-- the record in front: broken, too, where its length field or what it counts passes the end
unfoldable pub front_of : CardForm → List ℕ → Front
front_of form s =
    cond (ltb (length s) body_at) Broken
    (cond (ltb (length s - length_size) (little_at s 0 length_size)) Broken (front_by form s (little_at s 0 length_size) (little_at s kind_at kind_size)))

-- whether some record has this number in its length field: a row of a form, or any record
abbrev pub row_length : CardForm → ℕ → Bool
row_length form size = leb (key_at form - length_size + 1) size && leb size (key_at form - length_size + slot_size)

unfoldable pub record_length : ℕ → Bool
record_length size = eqb size (close_size - length_size) || (row_length Old size || row_length New size)

-- whether the record in front wants more bytes: its length field passes the end, or what it counts does, and some record has that length
unfoldable pub wants : List ℕ → Bool
wants s =
    cond (ltb (length s) length_size) true
    (cond (ltb (length s - length_size) (little_at s 0 length_size)) (record_length (little_at s 0 length_size)) false)

-- the row in front, by its fields and the size of its key
abbrev pub row_front : CardForm → List ℕ → (id mark received sent size : ℕ) → Row
row_front form s id mark received sent size = row_with id mark received sent (take size (drop (key_at form) s))

-- how the rows in front of bytes end: the close follows them, numbers them and is last; or anything else stands there
pub data CardEnd : Type 0 where
  closed : CardEnd
  fault : CardEnd

-- the rows in front of bytes, how they end, and the bytes that follow them
pub record FrontRows : Type 0 where
  pub rows : List Row
  pub ends : CardEnd
  pub rest : List ℕ

-- no row in front
abbrev pub ended : CardEnd → List ℕ → FrontRows
ended e s = record { rows = []; ends = e; rest = s }

abbrev pub with_row : Row → FrontRows → FrontRows
with_row r f = record { rows = r ∷ f.rows; ends = f.ends; rest = f.rest }

-- one step of reading: `low` is the least id that may follow, `n` the rows before; `go` is what comes of a row and of what follows it
abbrev pub step_from : CardForm → (Row → ℕ → ℕ → List ℕ → FrontRows) → ℕ → ℕ → List ℕ → Front → FrontRows
step_from form go low n s Broken = ended fault s
step_from form go low n s (Close m) = cond (eqb (length s) close_size) (cond (eqb m n) (ended closed s) (ended fault s)) (ended fault s)
step_from form go low n s (RowFront id mark received sent size) =
    cond (ltb id low) (ended fault s) (go (row_front form s id mark received sent size) (suc id) (suc n) (drop (key_at form + size) s))

-- what follows, where at most `left` rows of the form may
unfoldable pub front_from : CardForm → ℕ → ℕ → ℕ → List ℕ → FrontRows
front_from form zero low n s = step_from form (λ _ _ _ _. ended fault s) low n s (front_of form s)
front_from form (suc left) low n s = step_from form (λ r l m t. with_row r (front_from form left l m t)) low n s (front_of form s)

-- the rows of a form in front of a byte string that is to be a card
unfoldable pub rows_in_front : CardForm → List ℕ → FrontRows
rows_in_front form s = front_from form rows_most 0 0 s

-- the least id that may follow rows, where `low` was before them
unfoldable pub low_after : ℕ → List Row → ℕ
low_after low [] = low
low_after low (r ∷ rows) = low_after (suc r.id) rows

-- the rows of a card, by the rows in front and how they end
abbrev pub rows_by : List Row → CardEnd → Option (List Row)
rows_by rows closed = Some rows
rows_by rows fault = None

abbrev pub card_in : FrontRows → Option (List Row)
card_in f = rows_by f.rows f.ends

-- the rows of a card, where the bytes are one: all of the form that the first record has
unfoldable pub read_card : List ℕ → Option (List Row)
read_card s = card_in (rows_in_front (form_in s) s)

-- the answer of the first pass, begun with n rows
abbrev pub counted_from : ℕ → Option (List Row) → Option ℕ
counted_from n None = None
counted_from n (Some rows) = Some (n + length rows)
