-- What is proved of a key book's definitions, each as a closed statement: docs/RULES.md, 'The key book'. The proofs are in proofs/Says.antt.
use Rattle.std.specs.Prelude.{◌≡◌, ◌↔◌, ◌≢◌, true, ℕ, ◌+◌, ◌*◌, ◌≤◌, ◌<◌, length, get_or, take, None, Some}
use Rattle.key_book.specs.Limits.{slot_size, not_heard}
use Rattle.key_book.specs.Book.{Book, Sized, Sound, MarkFits, sized, mark_fits, sound, row_of, key_of, key_start}

-- the computed tests are the rules' sentences
abbrev pub SizedSays : Type 0
SizedSays = (b : Book) → (sized b ≡ true) ↔ Sized b

abbrev pub MarkFitsSays : Type 0
MarkFitsSays = (mark received : ℕ) → (mark_fits mark received ≡ true) ↔ MarkFits mark received

abbrev pub SoundSays : Type 0
SoundSays = (b : Book) → (sound b ≡ true) ↔ Sound b

-- row k is in use and lent, its id is this one, and no earlier row's is
pub record FirstRow (b : Book) (id k : ℕ) : Type 0 where
  pub used : k < b.rows
  pub lent : k < length b.ids
  pub named : get_or b.ids k 0 ≡ id
  pub first : (j : ℕ) → j < k → get_or b.ids j 0 ≢ id

-- no row in use that is lent has this id
abbrev pub NoRow : Book → ℕ → Type 0
NoRow b id = (k : ℕ) → k < b.rows → k < length b.ids → get_or b.ids k 0 ≢ id

-- what the row of an id is, on any book
pub record RowSays : Type 0 where
  pub row : (b : Book) (id k : ℕ) → (row_of b id ≡ Some k) ↔ FirstRow b id k
  pub no_row : (b : Book) (id : ℕ) → (row_of b id ≡ None) ↔ NoRow b id

-- a row in use of a sound book lies within everything lent
pub record Within (b : Book) (k : ℕ) : Type 0 where
  pub in_ids : k < length b.ids
  pub in_lengths : k < length b.lengths
  pub in_store : slot_size * k + slot_size ≤ length b.store
  pub in_marks : k < length b.marks
  pub in_received : k < length b.received
  pub in_sent : k < length b.sent

abbrev pub RowsWithin : Type 0
RowsWithin = (b : Book) → Sound b → (k : ℕ) → k < b.rows → Within b k

-- a key: the first bytes of its row's slot, 1 to `slot_size` of them
pub record KeyOfRow (b : Book) (k : ℕ) : Type 0 where
  pub size : length (key_of b k) ≡ get_or b.lengths k 0
  pub from_one : 1 ≤ length (key_of b k)
  pub to_slot : length (key_of b k) ≤ slot_size
  pub start : key_start b.store b.lengths k ≡ slot_size * k
  pub bytes : (i : ℕ) → i < length (key_of b k) → get_or (key_of b k) i 0 ≡ get_or b.store (slot_size * k + i) 0

abbrev pub KeySays : Type 0
KeySays = (b : Book) → Sound b → (k : ℕ) → k < b.rows → KeyOfRow b k

-- two books that agree in all that soundness reads: the sizes, the row count, and of the rows in use the ids, the key lengths, the marks, and the
-- received counters where they are not heard
pub record Alike (b c : Book) : Type 0 where
  pub ids_size : length b.ids ≡ length c.ids
  pub lengths_size : length b.lengths ≡ length c.lengths
  pub store_size : length b.store ≡ length c.store
  pub marks_size : length b.marks ≡ length c.marks
  pub received_size : length b.received ≡ length c.received
  pub sent_size : length b.sent ≡ length c.sent
  pub same_rows : b.rows ≡ c.rows
  pub same_ids : (k : ℕ) → k < b.rows → get_or b.ids k 0 ≡ get_or c.ids k 0
  pub same_lengths : (k : ℕ) → k < b.rows → get_or b.lengths k 0 ≡ get_or c.lengths k 0
  pub same_marks : (k : ℕ) → k < b.rows → get_or b.marks k 0 ≡ get_or c.marks k 0
  pub same_fresh : (k : ℕ) → k < b.rows → get_or b.marks k 0 ≡ not_heard → get_or b.received k 0 ≡ get_or c.received k 0

-- soundness depends on nothing else
abbrev pub SoundDepends : Type 0
SoundDepends = (b c : Book) → Alike b c → sound b ≡ sound c

-- the row of an id depends on the ids of the rows in use alone
abbrev pub RowDepends : Type 0
RowDepends = (b c : Book) (id : ℕ) → take b.rows b.ids ≡ take c.rows c.ids → row_of b id ≡ row_of c id

-- the key of a row depends on the key length and on as many bytes of the row's slot: not on the slot's later bytes, nor on another row
pub record SameKey (b c : Book) (k : ℕ) : Type 0 where
  pub used : k < b.rows
  pub used_too : k < c.rows
  pub same_size : get_or b.lengths k 0 ≡ get_or c.lengths k 0
  pub same_bytes_lem : (i : ℕ) → i < get_or b.lengths k 0 → get_or b.store (slot_size * k + i) 0 ≡ get_or c.store (slot_size * k + i) 0

abbrev pub KeyDepends : Type 0
KeyDepends = (b c : Book) → Sound b → Sound c → (k : ℕ) → SameKey b c k → key_of b k ≡ key_of c k
