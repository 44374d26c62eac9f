-- Reading a card into a lent book: the answer, and every lent list afterwards (docs/RULES.md, 'The card').
use Rattle.std.specs.Prelude.{cond, ◌&&◌, List, [], ◌∷◌, ◌++◌, map, ℕ, ◌*◌, leb, ltb, length, set, Err, None, Ok, Option, Result, Some, unwrap_or}
use Rattle.octets.specs.Bytes.{written, filled}
use Rattle.refusal.specs.declared.Refusal.TheVariants.{UnsoundBook, MalformedCard, NoRoomForRows}
use Rattle.key_book.specs.Limits.{slot_size}
use Rattle.key_book.specs.Book.{Book, book_of, sized}
use Rattle.book_card.specs.Card.{Row}
use Rattle.book_card.specs.Reader.{read_card}
use Rattle.refusal.specs.declared.Refusal.{Refusal}

-- the slots of rows in the key store: each key, with zeros after it
unfoldable pub slots_of : List Row → List ℕ
slots_of [] = []
slots_of (r ∷ rows) = filled slot_size r.key ++ slots_of rows

-- a book with one row set
unfoldable pub set_row : Book → ℕ → Row → Book
set_row b k r =
    book_of
    (set b.ids k r.id)
    (set b.lengths k (length r.key))
    (written (slot_size * k) (filled slot_size r.key) b.store)
    (set b.marks k r.mark)
    (set b.received k r.received)
    (set b.sent k r.sent)
    b.rows

-- a book with one row set where its sizes agree, it has room for the row, and the row's key fits a slot; else as it was
unfoldable pub put_row : Book → ℕ → Row → Book
put_row b k r = cond (sized b && ltb k (length b.ids) && leb (length r.key) slot_size) (set_row b k r) b

-- a book with these rows, in use; further rows unchanged
unfoldable pub loaded : Book → List Row → Book
loaded b rows =
    book_of
    (written 0 (map (λ (r : Row). r.id) rows) b.ids)
    (written 0 (map (λ (r : Row). length r.key) rows) b.lengths)
    (written 0 (slots_of rows) b.store)
    (written 0 (map (λ (r : Row). r.mark) rows) b.marks)
    (written 0 (map (λ (r : Row). r.received) rows) b.received)
    (written 0 (map (λ (r : Row). r.sent) rows) b.sent)
    (length rows)

-- the answer by what the card holds, with room for so many rows: 15, then 17
abbrev pub read_as : ℕ → Option (List Row) → Result ℕ Refusal
read_as room None = Err MalformedCard
read_as room (Some rows) = cond (ltb room (length rows)) (Err NoRoomForRows) (Ok (length rows))

-- the answer: 1, then those. The row count of the lent book is not looked at
unfoldable pub read_of : Book → List ℕ → Result ℕ Refusal
read_of b card = cond (sized b) (read_as (length b.ids) (read_card card)) (Err UnsoundBook)

-- the rows of a card; none where it is malformed
unfoldable pub rows_in : List ℕ → List Row
rows_in card = unwrap_or (read_card card) []

-- the lent book afterwards, by the answer: a refusal changes nothing
abbrev pub read_by : Book → List ℕ → Result ℕ Refusal → Book
read_by b card (Err x) = b
read_by b card (Ok n) = loaded b (rows_in card)

unfoldable pub read_book : Book → List ℕ → Book
read_book b card = read_by b card (read_of b card)

-- how many rows an answer says are in use
abbrev pub rows_given : Result ℕ Refusal → ℕ
rows_given (Err x) = 0
rows_given (Ok n) = n
