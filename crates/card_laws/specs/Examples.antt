-- Bench examples 1 and 2 (docs/RULES.md, 'Bench examples') over the definitions, cards whose bytes are all different where they may be, and cards that a
-- mark makes malformed.
use Rattle.std.specs.Prelude.{◌≡◌, List, [], ◌∷◌, ◌++◌, ℕ, length, take, replicate, Err, None, Ok, Option, Some}
use Rattle.refusal.specs.Number.{number_of}
use Rattle.refusal.specs.declared.Refusal.TheVariants.{MalformedCard, NoRoomForCard, RowNotHeard}
use Rattle.octets.specs.Bytes.{zeros}
use Rattle.key_book.specs.Book.{Book, book_of}
use Rattle.book_card.specs.declared.CardForm.TheVariants.{Old, New}
use Rattle.book_card.specs.Card.{Row, row_with, card_of}
use Rattle.book_card.specs.Reader.{closed, fault, rows_in_front, read_card}
use Rattle.book_card.specs.Reading.{read_of, read_book}
use Rattle.book_card.specs.Writing.{rows_of, write_of, room_after}
use Rattle.book_card.specs.Moving.{move_of, room_moved}

-- book B: one row, id 7, heard, received 10, sent 3, key 1, 2, 3, 4, in room for one row
abbrev pub book_b : Book
book_b = book_of (7 ∷ []) (4 ∷ []) (1 ∷ 2 ∷ 3 ∷ 4 ∷ zeros 60) (1 ∷ []) (10 ∷ []) (3 ∷ []) 1

-- the same room with nothing in it
abbrev pub empty_room : Book
empty_room = book_of (0 ∷ []) (0 ∷ []) (zeros 64) (0 ∷ []) (0 ∷ []) (0 ∷ []) 0

-- B's old card
abbrev pub card_b : List ℕ
card_b =
    0x1A ∷ 0x00 ∷ 0x01 ∷ 0x00 ∷ 0x07 ∷ 0x00 ∷ 0x00 ∷ 0x00 ∷ 0x0A ∷ 0x00 ∷ 0x00 ∷ 0x00 ∷ 0x00 ∷ 0x00 ∷ 0x00 ∷ 0x00 ∷ 0x03 ∷ 0x00 ∷ 0x00 ∷ 0x00
    ∷ 0x00 ∷ 0x00 ∷ 0x00 ∷ 0x00 ∷ 0x01 ∷ 0x02 ∷ 0x03 ∷ 0x04 ∷ 0x04 ∷ 0x00 ∷ 0x02 ∷ 0x00 ∷ 0x01 ∷ 0x00 ∷ []

-- a new card like B's with this mark and this lowest byte of the received counter, the others 0; with 1 and 10 it is B's
abbrev pub marked_card : (mark received : ℕ) → List ℕ
marked_card mark received =
    0x1B ∷ 0x00 ∷ 0x03 ∷ 0x00 ∷ 0x07 ∷ 0x00 ∷ 0x00 ∷ 0x00 ∷ mark ∷ received ∷ 0x00 ∷ 0x00 ∷ 0x00 ∷ 0x00 ∷ 0x00 ∷ 0x00 ∷ 0x00 ∷ 0x03 ∷ 0x00 ∷ 0x00
    ∷ 0x00 ∷ 0x00 ∷ 0x00 ∷ 0x00 ∷ 0x00 ∷ 0x01 ∷ 0x02 ∷ 0x03 ∷ 0x04 ∷ 0x04 ∷ 0x00 ∷ 0x02 ∷ 0x00 ∷ 0x01 ∷ 0x00 ∷ []

abbrev pub new_card_b : List ℕ
new_card_b = marked_card 0x01 0x0A

-- a room for two rows with something in both: ids, key lengths, marks and counters, and slots in which every byte is set
abbrev pub full_room : Book
full_room =
    book_of (5 ∷ 9 ∷ []) (2 ∷ 3 ∷ []) (replicate 64 0xEE ++ (0x21 ∷ 0x22 ∷ 0x23 ∷ replicate 61 0xFF)) (6 ∷ 7 ∷ []) (11 ∷ 12 ∷ []) (13 ∷ 14 ∷ []) 2

-- the same room with book B in it: the first row is B's with zeros after its key, the second is as it was
abbrev pub room_with_b : Book
room_with_b =
    book_of (7 ∷ 9 ∷ []) (4 ∷ 3 ∷ []) (1 ∷ 2 ∷ 3 ∷ 4 ∷ (zeros 60 ++ (0x21 ∷ 0x22 ∷ 0x23 ∷ replicate 61 0xFF))) (1 ∷ 7 ∷ []) (10 ∷ 12 ∷ []) (3 ∷ 14 ∷ []) 1

-- B's old card and its new one: the rows in both forms, what reading each sets, what is written, and each moved to the other with a byte to spare
pub record Example1 : Type 0 where
  pub old_card : card_of Old (rows_of book_b) ≡ card_b
  pub old_size : length card_b ≡ 34
  pub new_card : card_of New (rows_of book_b) ≡ new_card_b
  pub new_size : length new_card_b ≡ 35
  pub written_size : write_of book_b 35 ≡ Ok 35
  pub written_bytes : room_after book_b (zeros 35) ≡ new_card_b
  pub read_old : (read_of full_room card_b ≡ Ok 1) × (read_book full_room card_b ≡ room_with_b)
  pub read_new : (read_of full_room new_card_b ≡ Ok 1) × (read_book full_room new_card_b ≡ room_with_b)
  pub to_new : (move_of New card_b 36 ≡ Ok 35) × (room_moved New card_b (replicate 36 0xEE) ≡ new_card_b ++ (0xEE ∷ []))
  pub to_old : (move_of Old new_card_b 35 ≡ Ok 34) × (room_moved Old new_card_b (replicate 35 0xEE) ≡ card_b ++ (0xEE ∷ []))

-- how many rows were read
abbrev pub row_count : Option (List Row) → ℕ
row_count None = 0
row_count (Some rows) = length rows

-- behind a first row: a second one of this kind whose id is 8, and the close of two; as a row of the new form it is not heard, as one of the old form
-- it has 0 for both counters and a key of two bytes
abbrev pub mixed_rest : (kind : ℕ) → List ℕ
mixed_rest kind = 0x18 ∷ 0x00 ∷ kind ∷ 0x00 ∷ 0x08 ∷ 0x00 ∷ 0x00 ∷ 0x00 ∷ (zeros 16 ++ (0x00 ∷ 0x01 ∷ 0x04 ∷ 0x00 ∷ 0x02 ∷ 0x00 ∷ 0x02 ∷ 0x00 ∷ []))

-- a mark of 0 goes with a received counter of 0 alone, and no mark but 0 and 1 is one; the old form has no card of a row not heard, which is said where
-- there is room for it
pub record MarkedCards : Type 0 where
  pub not_heard_lem : read_card (marked_card 0 0) ≡ Some (row_with 7 0 0 3 (1 ∷ 2 ∷ 3 ∷ 4 ∷ []) ∷ [])
  pub received_before : read_card (marked_card 0 1) ≡ None
  pub other_mark : read_card (marked_card 2 0) ≡ None
  pub room_first : move_of Old (marked_card 0 0) 33 ≡ Err NoRoomForCard
  pub no_old_form : move_of Old (marked_card 0 0) 34 ≡ Err RowNotHeard
  pub its_number : number_of RowNotHeard ≡ 18
  -- rows of both kinds on one card, the ids in order: neither way is it one
  pub mixed : (read_card (take 28 card_b ++ mixed_rest 3) ≡ None) × (read_card (take 29 new_card_b ++ mixed_rest 1) ≡ None)
  pub unmixed : (row_count (read_card (take 28 card_b ++ mixed_rest 1)) ≡ 2) × (row_count (read_card (take 29 new_card_b ++ mixed_rest 3)) ≡ 2)

-- docs/RULES.md, 'The card': the order of the fields and of the bytes in each, by a row in which no two bytes of id and counters are the same
abbrev pub ordered_row : Row
ordered_row = row_with 0x13121110 1 0x2726252423222120 0x3736353433323130 (0x41 ∷ 0x40 ∷ [])

abbrev pub ordered_card : List ℕ
ordered_card =
    0x18 ∷ 0x00 ∷ 0x01 ∷ 0x00 ∷ 0x10 ∷ 0x11 ∷ 0x12 ∷ 0x13 ∷ 0x20 ∷ 0x21 ∷ 0x22 ∷ 0x23 ∷ 0x24 ∷ 0x25 ∷ 0x26 ∷ 0x27 ∷ 0x30 ∷ 0x31 ∷ 0x32 ∷ 0x33
    ∷ 0x34 ∷ 0x35 ∷ 0x36 ∷ 0x37 ∷ 0x41 ∷ 0x40 ∷ 0x04 ∷ 0x00 ∷ 0x02 ∷ 0x00 ∷ 0x01 ∷ 0x00 ∷ []

abbrev pub ordered_new_card : List ℕ
ordered_new_card =
    0x19 ∷ 0x00 ∷ 0x03 ∷ 0x00 ∷ 0x10 ∷ 0x11 ∷ 0x12 ∷ 0x13 ∷ 0x01 ∷ 0x20 ∷ 0x21 ∷ 0x22 ∷ 0x23 ∷ 0x24 ∷ 0x25 ∷ 0x26 ∷ 0x27 ∷ 0x30 ∷ 0x31 ∷ 0x32
    ∷ 0x33 ∷ 0x34 ∷ 0x35 ∷ 0x36 ∷ 0x37 ∷ 0x41 ∷ 0x40 ∷ 0x04 ∷ 0x00 ∷ 0x02 ∷ 0x00 ∷ 0x01 ∷ 0x00 ∷ []

pub record OrderedBytes : Type 0 where
  pub old_card : card_of Old (ordered_row ∷ []) ≡ ordered_card
  pub old_rows : read_card ordered_card ≡ Some (ordered_row ∷ [])
  pub new_card : card_of New (ordered_row ∷ []) ≡ ordered_new_card
  pub new_rows : read_card ordered_new_card ≡ Some (ordered_row ∷ [])

-- the row's record, and the close behind it
abbrev pub ordered_record : List ℕ
ordered_record = take 26 ordered_card

abbrev pub close_of_one : List ℕ
close_of_one = 0x04 ∷ 0x00 ∷ 0x02 ∷ 0x00 ∷ 0x01 ∷ 0x00 ∷ []

-- the row in front of the old one: whole, cut in its close, with one more byte, read in the other form, and with the same row once more
pub record FrontExample : Type 0 where
  pub whole : rows_in_front Old ordered_card ≡ record { rows = ordered_row ∷ []; ends = closed; rest = close_of_one }
  pub cut : rows_in_front Old (take 31 ordered_card) ≡ record { rows = ordered_row ∷ []; ends = fault; rest = take 5 close_of_one }
  pub one_byte_more : (x : ℕ) → rows_in_front Old (ordered_card ++ (x ∷ [])) ≡ record { rows = ordered_row ∷ []; ends = fault; rest = close_of_one ++ (x ∷ []) }
  pub other_form : rows_in_front New ordered_card ≡ record { rows = []; ends = fault; rest = ordered_card }
  pub id_again : rows_in_front Old (ordered_record ++ ordered_card) ≡ record { rows = ordered_row ∷ []; ends = fault; rest = ordered_card }

abbrev pub empty_card : List ℕ
empty_card = 0x04 ∷ 0x00 ∷ 0x02 ∷ 0x00 ∷ 0x00 ∷ 0x00 ∷ []

pub record Example2 : Type 0 where
  pub no_rows : read_card empty_card ≡ Some []
  pub no_rows_read : read_of empty_room empty_card ≡ Ok 0
  -- it is in both forms
  pub both_forms : (card_of Old [] ≡ empty_card) × (card_of New [] ≡ empty_card)
  pub moved_to_old : (move_of Old empty_card 6 ≡ Ok 6) × (room_moved Old empty_card (zeros 6) ≡ empty_card)
  pub moved_to_new : (move_of New empty_card 6 ≡ Ok 6) × (room_moved New empty_card (zeros 6) ≡ empty_card)
  pub one_byte_more : (x : ℕ) → read_card (empty_card ++ (x ∷ [])) ≡ None
  pub one_byte_more_read : (x : ℕ) → read_of empty_room (empty_card ++ (x ∷ [])) ≡ Err MalformedCard
  pub its_number : number_of MalformedCard ≡ 15
