-- The limits of a key book and its marks, from both sides and as numbers, and the search by halving on lists written out: docs/RULES.md, 'The key book' and
-- 'Bench examples', 10 and 12.
use Rattle.std.specs.Prelude.{◌≡◌, true, false, List, [], ◌∷◌, ℕ, ◌*◌, ◌<◌, length, get_or, replicate}
use Rattle.octets.specs.Bytes.{zeros, up_from}
use Rattle.key_book.specs.Limits.{slot_size}
use Rattle.key_book.specs.Book.{Book, book_of, Lent, sized, sound, heard_at}
use Rattle.key_book.specs.Halving.{known_of, sought_number}
use Rattle.key_book.specs.declared.Sought.TheVariants.{Stands, Missing, Unsized}

-- one row whose key has so many bytes, with room for it
abbrev pub one_row : ℕ → Book
one_row size = book_of (7 ∷ []) (size ∷ []) (replicate slot_size 1) (1 ∷ []) (10 ∷ []) (3 ∷ []) 1

-- bench example 10: a key of 64 bytes is sound, one of 65 is not, and none is not
pub record Example10 : Type 0 where
  pub largest_key : sound (one_row 64) ≡ true
  pub key_too_long : sound (one_row 65) ≡ false
  pub no_key : sound (one_row 0) ≡ false

-- room for so many rows, each with a slot of 64 bytes, none in use
abbrev pub room_for : ℕ → Book
room_for n = book_of (zeros n) (zeros n) (zeros (64 * n)) (zeros n) (zeros n) (zeros n) 0

-- so many rows, all in use, each with a key of one byte
abbrev pub all_used : ℕ → Book
all_used n = book_of (up_from 0 n) (replicate n 1) (zeros (64 * n)) (zeros n) (zeros n) (zeros n) n

-- one row whose id, key bytes and counters are the largest of 32, 8 and 64 bits
abbrev pub largest_row : Book
largest_row =
    book_of (replicate 1 4294967295) (64 ∷ []) (replicate 64 255) (1 ∷ []) (replicate 1 18446744073709551615) (replicate 1 18446744073709551615) 1

-- room for 1,024 rows and no more; 256 rows in use and no more; and `Lent` asks no more than the types give
pub record BookLimits : Type 0 where
  pub most_room : sized (room_for 1024) ≡ true
  pub too_much_room : sized (room_for 1025) ≡ false
  pub most_rows : sound (all_used 256) ≡ true
  pub too_many_rows : sound (all_used 257) ≡ false
  pub largest_sound : sound largest_row ≡ true
  pub largest_lent : Lent largest_row

-- two rows, of which so many are in use; the second has this mark and this received counter
abbrev pub second_row : (mark received rows : ℕ) → Book
second_row mark received rows = book_of (7 ∷ 8 ∷ []) (4 ∷ 4 ∷ []) (replicate 128 1) (1 ∷ mark ∷ []) (10 ∷ received ∷ []) (3 ∷ 0 ∷ []) rows

-- 0 is not heard and 1 is heard, no other mark is sound, and a row not heard has received 0; a row that is not in use has any
pub record MarksPinned : Type 0 where
  pub not_heard_lem : (sound (second_row 0 0 2) ≡ true) × (heard_at (second_row 0 0 2) 1 ≡ false)
  pub is_heard_lem : (sound (second_row 1 5 2) ≡ true) × (heard_at (second_row 1 5 2) 1 ≡ true)
  pub heard_of_0 : sound (second_row 1 0 2) ≡ true
  pub received_before : sound (second_row 0 1 2) ≡ false
  pub other_mark : sound (second_row 2 0 2) ≡ false
  pub not_in_use : (mark received : ℕ) → sound (second_row mark received 1) ≡ true
  pub one_mark_less : sound (book_of (7 ∷ []) (4 ∷ []) (replicate 64 1) [] (10 ∷ []) (3 ∷ []) 1) ≡ false

abbrev pub four_ids : List ℕ
four_ids = 3 ∷ 5 ∷ 7 ∷ 9 ∷ []

-- bench example 12: the row and the looks, the looks of what is not found, and the limits
pub record Example12 : Type 0 where
  pub at_once : known_of four_ids 4 7 ≡ Stands 2 1
  pub before : known_of four_ids 4 5 ≡ Stands 1 2
  pub first : known_of four_ids 4 3 ≡ Stands 0 3
  pub last : known_of four_ids 4 9 ≡ Stands 3 2
  pub between : (known_of four_ids 4 4 ≡ Missing 3) × (known_of four_ids 4 8 ≡ Missing 2)
  pub outside : (known_of four_ids 4 1 ≡ Missing 3) × (known_of four_ids 4 10 ≡ Missing 2)
  pub not_in_use : known_of four_ids 2 7 ≡ Missing 1
  pub none_in_use : (id : ℕ) → known_of four_ids 0 id ≡ Missing 0
  pub count_above : (id : ℕ) → known_of four_ids 5 id ≡ Unsized
  -- ids that don't ascend: one that is there is missed
  pub missed : known_of (9 ∷ 7 ∷ 5 ∷ []) 3 9 ≡ Missing 2
  -- a list of 1,024 ids and no more, and eleven looks
  pub eleven_looks : (ids : List ℕ) → length ids ≡ 1024 → ((k : ℕ) → k < 1024 → 0 < get_or ids k 0) → known_of ids 1024 0 ≡ Missing 11
  pub too_many : (ids : List ℕ) → length ids ≡ 1025 → (count id : ℕ) → known_of ids count id ≡ Unsized
  pub numbers : (k looks : ℕ) → (sought_number (Stands k looks) ≡ 0) × ((sought_number (Missing looks) ≡ 10) × (sought_number Unsized ≡ 1))
