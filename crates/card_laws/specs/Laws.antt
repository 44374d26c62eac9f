-- What is proved of reading, writing and moving cards, each as a closed statement: docs/RULES.md, 'The card'. The proofs are in proofs/Largest.antt,
-- ByRow.antt, Trips.antt, Moved.antt and Depends.antt.
use Rattle.std.specs.Prelude.{◌≡◌, List, [], ◌∷◌, ◌++◌, ℕ, zero, suc, ◌+◌, ◌*◌, ◌≤◌, ◌<◌, length, get_or, take, drop, Ok}
use Rattle.key_book.specs.Limits.{rows_most, slot_size, heard}
use Rattle.key_book.specs.Book.{Book, Lent, Sized, Sound}
use Rattle.key_book.specs.Laws.{SameKey}
use Rattle.octets.specs.Bytes.{Bytes, zeros}
use Rattle.book_card.specs.declared.CardForm.{CardForm}
use Rattle.book_card.specs.declared.CardForm.TheVariants.{Old, New}
use Rattle.book_card.specs.Card.{Row, row_with, empty_row, InOrder, card_of, IsCard, CardFor}
use Rattle.book_card.specs.Layout.{key_at, close_size}
use Rattle.book_card.specs.Reading.{read_of, read_book}
use Rattle.book_card.specs.Writing.{rows_of, write_of, room_after}
use Rattle.book_card.specs.Moving.{move_of, room_moved}

-- the size of the largest card of a form
abbrev pub card_most : CardForm → ℕ
card_most form = rows_most * (key_at form + slot_size) + close_size

-- as many rows as there may be, from an id on, each with the longest key
unfoldable pub full_rows : ℕ → ℕ → List Row
full_rows id zero = []
full_rows id (suc n) = row_with id heard 0 0 (zeros slot_size) ∷ full_rows (suc id) n

pub record LargestCard : Type 0 where
  pub most : (form : CardForm) (rows : List Row) → InOrder form rows → length (card_of form rows) ≤ card_most form
  pub reached : (form : CardForm) → length (card_of form (full_rows 0 rows_most)) ≡ card_most form
  pub reached_in_order : (form : CardForm) → InOrder form (full_rows 0 rows_most)
  pub old_bytes : card_most Old ≡ 22534
  pub new_bytes : card_most New ≡ 22790

-- row k of a book is a card's row: its id, its key's size, its mark and its counters, and in its slot the key with zeros after it
pub record RowSet (c : Book) (k : ℕ) (r : Row) : Type 0 where
  pub id : get_or c.ids k 0 ≡ r.id
  pub key_size_lem : get_or c.lengths k 0 ≡ length r.key
  pub mark : get_or c.marks k 0 ≡ r.mark
  pub received : get_or c.received k 0 ≡ r.received
  pub sent : get_or c.sent k 0 ≡ r.sent
  pub key : (i : ℕ) → i < length r.key → get_or c.store (slot_size * k + i) 0 ≡ get_or r.key i 0
  pub zero_behind : (i : ℕ) → length r.key ≤ i → i < slot_size → get_or c.store (slot_size * k + i) 0 ≡ 0

-- a list from its element n on is as it was, and neither longer nor shorter
pub record LeftFrom (n : ℕ) (before after : List ℕ) : Type 0 where
  pub same : (k : ℕ) → n ≤ k → get_or after k 0 ≡ get_or before k 0
  pub long : length after ≡ length before

-- the rows of a book from row n on are as they were, in each lent thing
pub record RowsLeft (n : ℕ) (b c : Book) : Type 0 where
  pub ids : LeftFrom n b.ids c.ids
  pub lengths : LeftFrom n b.lengths c.lengths
  pub store : LeftFrom (slot_size * n) b.store c.store
  pub marks : LeftFrom n b.marks c.marks
  pub received : LeftFrom n b.received c.received
  pub sent : LeftFrom n b.sent c.sent

-- what reading the card of rows leaves of a book, where n rows were given back: each row of the card, and further rows as they were
pub record RowsRead (b : Book) (rows : List Row) (n : ℕ) (c : Book) : Type 0 where
  pub count : n ≡ length rows
  pub in_use_lem : c.rows ≡ n
  pub row : (k : ℕ) → k < n → RowSet c k (get_or rows k empty_row)
  pub left : RowsLeft n b c

abbrev pub ReadSays : Type 0
ReadSays =
    (b : Book) (card : List ℕ) (n : ℕ) → read_of b card ≡ Ok n → (form : CardForm) (rows : List Row) → IsCard form rows card
    → RowsRead b rows n (read_book b card)

-- write a sound book's card, and read those bytes into any room for its rows: the same ids, keys, marks and counters
pub record WrittenRead (b : Book) (room : List ℕ) (into : Book) : Type 0 where
  pub size : write_of b (length room) ≡ Ok (length (card_of New (rows_of b)))
  pub answer : read_of into (take (length (card_of New (rows_of b))) (room_after b room)) ≡ Ok b.rows
  pub rows : rows_of (read_book into (take (length (card_of New (rows_of b))) (room_after b room))) ≡ rows_of b

abbrev pub WriteThenRead : Type 0
WriteThenRead =
    (b : Book) → Lent b → Sound b → (room : List ℕ) → length (card_of New (rows_of b)) ≤ length room → (into : Book) → Sized into → b.rows ≤ length into.ids
    → WrittenRead b room into

-- read a card of the new form, and write the book it gave to any room for it: the same bytes
pub record ReadWritten (card : List ℕ) (into : Book) (room : List ℕ) : Type 0 where
  pub loaded_sound : Sound (read_book into card)
  pub size : write_of (read_book into card) (length room) ≡ Ok (length card)
  pub bytes : room_after (read_book into card) room ≡ card ++ drop (length card) room

abbrev pub ReadThenWrite : Type 0
ReadThenWrite =
    (card : List ℕ) (rows : List Row) → IsCard New rows card → (into : Book) (n : ℕ) → read_of into card ≡ Ok n → (room : List ℕ)
    → length card ≤ length room → ReadWritten card into room

-- read a card of either form, and write the book it gave to any room: that is the card moved to the new form, refusals too
pub record ReadMoved (card : List ℕ) (into : Book) (room : List ℕ) : Type 0 where
  pub loaded_sound : Sound (read_book into card)
  pub answer : write_of (read_book into card) (length room) ≡ move_of New card (length room)
  pub bytes : room_after (read_book into card) room ≡ room_moved New card room

abbrev pub ReadThenWriteMoves : Type 0
ReadThenWriteMoves = (card : List ℕ) → Bytes card → (into : Book) (n : ℕ) → read_of into card ≡ Ok n → (room : List ℕ) → ReadMoved card into room

-- ---- moving

-- what a move that answers 0 leaves in the room: the card of the same rows in the wanted form, its size as answered, and the rest of the room
pub record Moved (wanted : CardForm) (card room : List ℕ) (n : ℕ) (rows : List Row) : Type 0 where
  pub before : CardFor rows card
  pub after : IsCard wanted rows (take n (room_moved wanted card room))
  pub size : n ≡ length (card_of wanted rows)
  pub fits : n ≤ length room
  pub left : drop n (room_moved wanted card room) ≡ drop n room

abbrev pub MoveKeepsRows : Type 0
MoveKeepsRows =
    (wanted : CardForm) (card room : List ℕ) (n : ℕ) → Bytes card → move_of wanted card (length room) ≡ Ok n
    → (rows : List Row) × Moved wanted card room n rows

-- a card that is in the wanted form already is copied, where there is room for it
pub record Copied (wanted : CardForm) (card room : List ℕ) : Type 0 where
  pub size : move_of wanted card (length room) ≡ Ok (length card)
  pub bytes : room_moved wanted card room ≡ card ++ drop (length card) room

abbrev pub MoveCopies : Type 0
MoveCopies = (form : CardForm) (rows : List Row) (card room : List ℕ) → IsCard form rows card → length card ≤ length room → Copied form card room

-- moved to a form and back to the one that it has, where the first move answers 0 and the second has room: the same bytes
abbrev pub ThereAndBack : Type 0
ThereAndBack =
    (form wanted : CardForm) (rows : List Row) (card room : List ℕ) (n : ℕ) → IsCard form rows card → move_of wanted card (length room) ≡ Ok n
    → (second : List ℕ) → length card ≤ length second
    → let there = take n (room_moved wanted card room) in
    (move_of form there (length second) ≡ Ok (length card)) × (room_moved form there second ≡ card ++ drop (length card) second)

-- what a card depends on: of each row in use the id, the mark, the counters and the key; not slot bytes past a key, nor rows from the row count on
pub record SameRows (b c : Book) : Type 0 where
  pub same_count : b.rows ≡ c.rows
  pub same_id : (k : ℕ) → k < b.rows → get_or b.ids k 0 ≡ get_or c.ids k 0
  pub same_mark : (k : ℕ) → k < b.rows → get_or b.marks k 0 ≡ get_or c.marks k 0
  pub same_received : (k : ℕ) → k < b.rows → get_or b.received k 0 ≡ get_or c.received k 0
  pub same_sent : (k : ℕ) → k < b.rows → get_or b.sent k 0 ≡ get_or c.sent k 0
  pub same_key : (k : ℕ) → k < b.rows → SameKey b c k

abbrev pub WriteDepends : Type 0
WriteDepends =
    (b c : Book) → Sound b → Sound c → SameRows b c → (room : List ℕ)
    → (write_of b (length room) ≡ write_of c (length room)) × (room_after b room ≡ room_after c room)
