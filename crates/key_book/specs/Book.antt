-- The key book as it is lent, when it is sound, the row of a secret id and the key of a row: docs/RULES.md, 'The key book'.
-- `Sound` is the rules' sentence and `sound` computes it; specs/Laws.antt states that they agree.
use Rattle.std.specs.Prelude.{◌≡◌, ◌⊎◌, Bool, true, cond, ◌&&◌, List, [], ◌∷◌, ℕ, zero, suc, ◌+◌, ◌-◌, ◌*◌, ◌^◌, ◌≤◌, ◌<◌, leb, ltb, eqb, length}
use Rattle.std.specs.Prelude.{get_or, take, drop, None, Option, Some}
use Rattle.key_book.specs.Limits.{rows_most, slot_size, room_most, not_heard, heard}

-- The seven lent things. Row k is the k-th of each list, and of the store the slot of `slot_size` bytes from `slotSize * k`.
-- Only the rows below `rows` are in use.
pub record Book : Type 0 where
  pub ids : List ℕ
  pub lengths : List ℕ
  pub store : List ℕ
  pub marks : List ℕ
  pub received : List ℕ
  pub sent : List ℕ
  pub rows : ℕ

-- a book from what is lent, in the order in which every entry takes it
abbrev pub book_of : List ℕ → List ℕ → List ℕ → List ℕ → List ℕ → List ℕ → ℕ → Book
book_of ids lengths store marks received sent rows =
    record { ids = ids; lengths = lengths; store = store; marks = marks; received = received; sent = sent; rows = rows }

-- what the types of the lent things give, apart from soundness (past a list's end `get_or` gives 0)
pub record Lent (b : Book) : Type 0 where
  pub id_fits : (k : ℕ) → get_or b.ids k 0 < 2 ^ 32
  pub byte_fits : (k : ℕ) → get_or b.store k 0 < 256
  pub received_fits : (k : ℕ) → get_or b.received k 0 < 2 ^ 64
  pub sent_fits : (k : ℕ) → get_or b.sent k 0 < 2 ^ 64

-- all lists have room for the same number of rows, which is at most `room_most`
pub record Sized (b : Book) : Type 0 where
  pub room : length b.ids ≤ room_most
  pub lengths_agree : length b.lengths ≡ length b.ids
  pub store_agrees : length b.store ≡ slot_size * length b.ids
  pub marks_agree : length b.marks ≡ length b.ids
  pub received_agree : length b.received ≡ length b.ids
  pub sent_agree : length b.sent ≡ length b.ids

-- a row's mark and its received counter: the mark is one of the two, and the counter is 0 where the row is not heard
pub record MarkFits (mark received : ℕ) : Type 0 where
  pub known : (mark ≡ not_heard) ⊎ (mark ≡ heard)
  pub fresh : mark ≡ not_heard → received ≡ 0

-- a sound book: the sizes agree, the rows in use have room and are not too many, their ids ascend strictly, their key lengths are 1 to `slot_size`, and
-- their marks and received counters are as `MarkFits` says
pub record Sound (b : Book) : Type 0 where
  pub sizes : Sized b
  pub rows_fit : b.rows ≤ length b.ids
  pub rows_few : b.rows ≤ rows_most
  pub ids_ascend : (j k : ℕ) → j < k → k < b.rows → get_or b.ids j 0 < get_or b.ids k 0
  pub keys_from : (k : ℕ) → k < b.rows → 1 ≤ get_or b.lengths k 0
  pub keys_to : (k : ℕ) → k < b.rows → get_or b.lengths k 0 ≤ slot_size
  pub marks_fit_lem : (k : ℕ) → k < b.rows → MarkFits (get_or b.marks k 0) (get_or b.received k 0)

-- whether a test holds of every number below n
unfoldable pub all_below : (ℕ → Bool) → ℕ → Bool
all_below p zero = true
all_below p (suc n) = all_below p n && p n

-- `Sized`, computed
unfoldable pub sized : Book → Bool
sized b =
    leb (length b.ids) room_most && eqb (length b.lengths) (length b.ids) && eqb (length b.store) (slot_size * length b.ids)
    && eqb (length b.marks) (length b.ids) && eqb (length b.received) (length b.ids) && eqb (length b.sent) (length b.ids)

-- each of the first n ids is below the next of them
unfoldable pub ascending : List ℕ → ℕ → Bool
ascending ids n = all_below (λ k. ltb (get_or ids k 0) (get_or ids (k + 1) 0)) (n - 1)

-- a key length is one
abbrev pub key_size : ℕ → Bool
key_size n = leb 1 n && leb n slot_size

-- the first n key lengths are key lengths
unfoldable pub key_sizes : List ℕ → ℕ → Bool
key_sizes lengths n = all_below (λ k. key_size (get_or lengths k 0)) n

-- `MarkFits`, computed
unfoldable pub mark_fits : ℕ → ℕ → Bool
mark_fits mark received = cond (eqb mark heard) true (eqb mark not_heard && eqb received 0)

-- the first n rows are heard
unfoldable pub marks_heard : List ℕ → ℕ → Bool
marks_heard marks n = all_below (λ k. eqb (get_or marks k 0) heard) n

-- the marks of the first n rows fit their received counters
unfoldable pub marks_fit : List ℕ → List ℕ → ℕ → Bool
marks_fit marks received n = all_below (λ k. mark_fits (get_or marks k 0) (get_or received k 0)) n

-- `Sound`, computed
unfoldable pub sound : Book → Bool
sound b =
    sized b && leb b.rows (length b.ids) && leb b.rows rows_most && ascending b.ids b.rows && key_sizes b.lengths b.rows
    && marks_fit b.marks b.received b.rows

-- whether row k is heard
abbrev pub heard_at : Book → ℕ → Bool
heard_at b k = eqb (get_or b.marks k 0) heard

-- where an id first stands in a list whose first element has number k
unfoldable pub place_from : ℕ → ℕ → List ℕ → Option ℕ
place_from id k [] = None
place_from id k (x ∷ xs) = cond (eqb x id) (Some k) (place_from id (suc k) xs)

-- the first row whose id it is, of the first so many ids
unfoldable pub row_in : List ℕ → ℕ → ℕ → Option ℕ
row_in ids rows id = place_from id 0 (take rows ids)

-- the row of a secret id: the first in use that has it
abbrev pub row_of : Book → ℕ → Option ℕ
row_of b id = row_in b.ids b.rows id

-- whether a row has a key length, and the store as many bytes from the row's slot on
unfoldable pub key_fits : List ℕ → List ℕ → ℕ → Bool
key_fits store lengths row = ltb row (length lengths) && leb (slot_size * row + get_or lengths row 0) (length store)

-- where a row's key begins in the store; the store's start where it does not fit
unfoldable pub key_start : List ℕ → List ℕ → ℕ → ℕ
key_start store lengths row = cond (key_fits store lengths row) (slot_size * row) 0

-- a row's key: from its slot's start, as many bytes as its key length says; nothing where it does not fit
unfoldable pub key_in : List ℕ → List ℕ → ℕ → List ℕ
key_in store lengths row = cond (key_fits store lengths row) (take (get_or lengths row 0) (drop (slot_size * row) store)) []

abbrev pub key_of : Book → ℕ → List ℕ
key_of b row = key_in b.store b.lengths row

-- a pointer (a block and an offset in it) moved so many bytes on
abbrev pub moved_on : ℕ × ℕ → ℕ → ℕ × ℕ
moved_on p n = (p.0, n + p.1)
