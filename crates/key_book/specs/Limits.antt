-- The limits of a key book and its two marks, each named once: docs/RULES.md, 'The key book'.
use Rattle.std.specs.Prelude.{ℕ}

-- the most rows in use
abbrev pub rows_most : ℕ
rows_most = 256

-- the bytes of a row's slot in the key store, and so of the longest key
abbrev pub slot_size : ℕ
slot_size = 64

-- the most rows that there may be room for
abbrev pub room_most : ℕ
room_most = 1024

-- the mark of a row that is not heard: nothing was accepted under it yet, and any counter is new
abbrev pub not_heard : ℕ
not_heard = 0

-- the mark of one that is heard: a counter above the received one is new
abbrev pub heard : ℕ
heard = 1
