-- The book as its lists are lent together, to be read or to be written (docs/RULES.md, 'The key book').
use Rattle.std.specs.Prelude.{◌≡◌, ℕ}
use Rattle.key_book.specs.Book.{Book, book_of}
use Rattle.key_book.specs.declared.LentBook.{LentBook}
use Rattle.key_book.specs.declared.LentRoom.{LentRoom}

-- the book that the lent lists hold
abbrev pub book_in : LentBook → Book
book_in b = book_of b.ids.now b.lengths.now b.store.now b.marks.now b.received.now b.sent.now b.rows

-- the book that lists lent to be written hold, with so many rows in use
abbrev pub room_in : LentRoom → ℕ → Book
room_in r rows =
    record { ids = r.ids.now; lengths = r.lengths.now; store = r.store.now; marks = r.marks.now; received = r.received.now; sent = r.sent.now; rows = rows }

-- they are the same lists
abbrev pub SameRoom : LentRoom → LentRoom → Type 0
SameRoom r t =
    (t.ids.ghost_name ≡ r.ids.ghost_name) × (t.lengths.ghost_name ≡ r.lengths.ghost_name) × (t.store.ghost_name ≡ r.store.ghost_name)
    × (t.marks.ghost_name ≡ r.marks.ghost_name) × (t.received.ghost_name ≡ r.received.ghost_name) × (t.sent.ghost_name ≡ r.sent.ghost_name)
