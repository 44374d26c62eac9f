-- Bench example 1's cards (card_laws, specs/Examples.antt) read in pieces: cut in the length field and inside the record, with empty pieces, in both
-- forms; what is a fault, and when; states that no card makes; and rows that do not fit.
use Rattle.std.specs.Prelude.{◌≡◌, List, [], ◌∷◌, ◌++◌, ℕ, take, drop, Err, None, Ok, Option, Some}
use Rattle.refusal.specs.Number.{number_of, done, result_number}
use Rattle.refusal.specs.declared.Refusal.TheVariants.{UnsoundBook, MalformedCard, NoRoomForRows}
use Rattle.octets.specs.Bytes.{zeros, filled}
use Rattle.key_book.specs.Book.{Book, book_of}
use Rattle.book_card.specs.declared.CardForm.TheVariants.{Old, New}
use Rattle.card_laws.specs.Examples.{empty_room, full_room, room_with_b, card_b, new_card_b}
use Rattle.card_pieces.specs.declared.Phase.{Phase}
use Rattle.card_pieces.specs.declared.Phase.TheVariants.{Reading, Closed, Fault}
use Rattle.card_pieces.specs.declared.Reader.{Reader}
use Rattle.card_pieces.specs.Pieces.{tail_most, fresh, feed_of, finish_of, finish_book}
use Rattle.card_pieces.specs.Laws.{fed_all, spare_all}
use Rattle.book_card.specs.declared.CardForm.{CardForm}

-- a state that keeps these bytes
abbrev pub keeping : List ℕ → (kept rows low : ℕ) → Option CardForm → Phase → Reader
keeping bytes kept rows low form phase = record { tail = filled tail_most bytes; kept = kept; rows = rows; low = low; form = form; phase = phase }

-- as far as the old card's row, but for its last byte: one byte, none, and 26
abbrev pub begun : List (List ℕ)
begun = take 1 card_b ∷ [] ∷ take 26 (drop 1 card_b) ∷ []

-- the whole of it
abbrev pub old_pieces : List (List ℕ)
old_pieces = take 1 card_b ∷ [] ∷ take 26 (drop 1 card_b) ∷ drop 27 card_b ∷ [] ∷ []

-- the new card, cut in the close's length field
abbrev pub new_pieces : List (List ℕ)
new_pieces = take 30 new_card_b ∷ drop 30 new_card_b ∷ []

-- the old card's row with the next id
abbrev pub second_row : List ℕ
second_row = take 4 card_b ++ (0x08 ∷ drop 5 (take 28 card_b))

-- a card of two rows
abbrev pub two_rows : List (List ℕ)
two_rows = take 28 card_b ∷ second_row ∷ (0x04 ∷ 0x00 ∷ 0x02 ∷ 0x00 ∷ 0x02 ∷ 0x00 ∷ []) ∷ []

-- room for one row with B's in it, as spare rows have it
abbrev pub spare_b : Book
spare_b = book_of (7 ∷ []) (4 ∷ []) (1 ∷ 2 ∷ 3 ∷ 4 ∷ zeros 60) (1 ∷ []) (10 ∷ []) (3 ∷ []) 0

pub record PiecesExample : Type 0 where
  -- a record that is cut is kept, and no spare row is set
  pub cut_kept : fed_all full_room fresh begun ≡ keeping (take 27 card_b) 27 0 0 None Reading
  pub cut_spare : spare_all full_room fresh begun ≡ full_room
  pub cut_end : finish_of full_room (fed_all full_room fresh begun) empty_room ≡ Err UnsoundBook
  pub cut_answer : finish_of full_room (fed_all full_room fresh begun) full_room ≡ Err MalformedCard
  -- both cards, closed
  pub old_state : fed_all full_room fresh old_pieces ≡ keeping [] 0 1 8 (Some Old) Closed
  pub old_book : finish_book (spare_all full_room fresh old_pieces) (fed_all full_room fresh old_pieces) full_room ≡ room_with_b
  pub new_state : fed_all full_room fresh new_pieces ≡ keeping [] 0 1 8 (Some New) Closed
  pub new_answer : finish_of (spare_all full_room fresh new_pieces) (fed_all full_room fresh new_pieces) full_room ≡ Ok 1
  -- a byte behind the close; a length that no record has, by its two bytes, and one that a record has; rows of both forms; an id again
  pub byte_behind : fed_all empty_room fresh (card_b ∷ (0x00 ∷ []) ∷ []) ≡ keeping [] 0 1 8 (Some Old) Fault
  pub bad_length : fed_all empty_room fresh ((0x16 ∷ 0x00 ∷ []) ∷ []) ≡ keeping [] 0 0 0 None Fault
  pub good_length : fed_all empty_room fresh ((0x57 ∷ 0x00 ∷ []) ∷ []) ≡ keeping (0x57 ∷ 0x00 ∷ []) 2 0 0 None Reading
  pub least_length : fed_all empty_room fresh ((0x17 ∷ 0x00 ∷ []) ∷ []) ≡ keeping (0x17 ∷ 0x00 ∷ []) 2 0 0 None Reading
  pub past_length : fed_all empty_room fresh ((0x58 ∷ 0x00 ∷ []) ∷ []) ≡ keeping [] 0 0 0 None Fault
  pub past_close : fed_all empty_room fresh ((0x05 ∷ 0x00 ∷ []) ∷ []) ≡ keeping [] 0 0 0 None Fault
  pub mixed_forms : fed_all empty_room fresh (take 28 card_b ∷ new_card_b ∷ []) ≡ keeping [] 0 1 8 (Some Old) Fault
  pub id_again : fed_all empty_room fresh (take 28 card_b ∷ card_b ∷ []) ≡ keeping [] 0 1 8 (Some Old) Fault
  -- more rows than room: the first stands in the spare rows, and the end says 17
  pub second_row_lem : fed_all empty_room fresh two_rows ≡ keeping [] 0 2 9 (Some Old) Closed
  pub first_fits : spare_all empty_room fresh two_rows ≡ spare_b
  pub no_room_lem : finish_of spare_b (keeping [] 0 2 9 (Some Old) Closed) empty_room ≡ Err NoRoomForRows
  -- made-up states: whole records in a tail are read by an empty piece, and not at the end; a count past its limit is 1
  pub tail_read : feed_of full_room (keeping card_b 34 0 0 None Reading) [] ≡ Ok (keeping [] 0 1 8 (Some Old) Closed)
  pub tail_unread : finish_of full_room (keeping card_b 34 0 0 None Reading) full_room ≡ Err MalformedCard
  pub most_kept : result_number (feed_of full_room (keeping [] 88 0 0 None Reading) []) ≡ done
  pub many_kept : result_number (feed_of full_room (keeping [] 89 0 0 None Reading) card_b) ≡ number_of UnsoundBook
  pub many_rows : result_number (feed_of full_room (keeping [] 0 257 0 None Reading) card_b) ≡ number_of UnsoundBook
  pub none_may_follow : feed_of full_room (keeping [] 0 0 0x100000000 None Reading) card_b ≡ Ok (keeping [] 0 0 0x100000000 None Fault)
  pub last_row : feed_of full_room (keeping [] 0 256 0 None Reading) card_b ≡ Ok (keeping [] 0 256 0 None Fault)
