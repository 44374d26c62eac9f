-- Writing a book's card to a lent room, always in the new form: the answer, and every byte of the room afterwards (docs/RULES.md, 'The card'); and single
-- records put in a room.
use Rattle.std.specs.Prelude.{cond, ◌&&◌, List, [], ◌∷◌, ◌++◌, ℕ, zero, suc, ◌+◌, leb, ltb, length, get_or, drop, Err, Ok, Result}
use Rattle.refusal.specs.declared.Refusal.TheVariants.{UnsoundBook, NoRoomForCard}
use Rattle.octets.specs.Bytes.{written}
use Rattle.key_book.specs.Limits.{slot_size}
use Rattle.key_book.specs.Book.{Book, sound, key_of}
use Rattle.book_card.specs.declared.CardForm.{CardForm}
use Rattle.book_card.specs.declared.CardForm.TheVariants.{New}
use Rattle.book_card.specs.Card.{Row, row_with, row_record, close, card_of}
use Rattle.book_card.specs.Layout.{key_at, close_size}
use Rattle.refusal.specs.declared.Refusal.{Refusal}

-- row k of a book
abbrev pub row_at : Book → ℕ → Row
row_at b k = row_with (get_or b.ids k 0) (get_or b.marks k 0) (get_or b.received k 0) (get_or b.sent k 0) (key_of b k)

-- n rows of a book, from row k
unfoldable pub rows_from : Book → ℕ → ℕ → List Row
rows_from b k zero = []
rows_from b k (suc n) = row_at b k ∷ rows_from b (suc k) n

-- the rows in use
unfoldable pub rows_of : Book → List Row
rows_of b = rows_from b 0 b.rows

-- the size of a book's card, by the key lengths of its rows
unfoldable pub size_to : List ℕ → ℕ → ℕ
size_to lengths zero = close_size
size_to lengths (suc k) = size_to lengths k + (key_at New + get_or lengths k 0)

-- a room with a row's record at a place, where its key fits a slot and the room has place for it; else as it was
unfoldable pub record_put : CardForm → Row → ℕ → List ℕ → List ℕ
record_put form r at room =
    cond (leb (length r.key) slot_size && leb (at + (key_at form + length r.key)) (length room)) (written at (row_record form r) room) room

-- the same for a close
unfoldable pub close_put : ℕ → ℕ → List ℕ → List ℕ
close_put rows at room = cond (leb (at + close_size) (length room)) (written at (close rows) room) room

-- the answer, with a room of so many bytes: 1, then 16
unfoldable pub write_of : Book → ℕ → Result ℕ Refusal
write_of b room =
    cond (sound b) (cond (ltb room (length (card_of New (rows_of b)))) (Err NoRoomForCard) (Ok (length (card_of New (rows_of b))))) (Err UnsoundBook)

-- the room afterwards, by the answer: a refusal changes nothing
abbrev pub room_by : Book → List ℕ → Result ℕ Refusal → List ℕ
room_by b room (Err x) = room
room_by b room (Ok n) = card_of New (rows_of b) ++ drop n room

unfoldable pub room_after : Book → List ℕ → List ℕ
room_after b room = room_by b room (write_of b (length room))
