-- The fields of a card's records, each number named once: docs/RULES.md, 'The card'. src/layout.rt draws them and has the same names.
use Rattle.std.specs.Prelude.{ℕ, ◌+◌}
use Rattle.key_book.specs.Limits.{slot_size}
use Rattle.book_card.specs.declared.CardForm.{CardForm}
use Rattle.book_card.specs.declared.CardForm.TheVariants.{Old, New}

-- the sizes of a card's fields: a record's length and kind, a row's id, mark and counters, the close's number of rows
abbrev pub length_size : ℕ
length_size = 2

abbrev pub kind_size : ℕ
kind_size = 2

abbrev pub id_size : ℕ
id_size = 4

-- the old form has no mark
unfoldable pub mark_size : CardForm → ℕ
mark_size Old = 0
mark_size New = 1

abbrev pub counter_size : ℕ
counter_size = 8

abbrev pub count_size : ℕ
count_size = 2

-- offsets in a record: the kind, and then a row's fields, or the close's number of rows
abbrev pub kind_at : ℕ
kind_at = length_size

abbrev pub body_at : ℕ
body_at = kind_at + kind_size

abbrev pub mark_at : ℕ
mark_at = body_at + id_size

abbrev pub received_at : CardForm → ℕ
received_at form = mark_at + mark_size form

abbrev pub sent_at : CardForm → ℕ
sent_at form = received_at form + counter_size

abbrev pub key_at : CardForm → ℕ
key_at form = sent_at form + counter_size

-- the whole close
abbrev pub close_size : ℕ
close_size = body_at + count_size

-- the largest record of either form: a row of the new one with the longest key
abbrev pub record_most : ℕ
record_most = mark_at + 1 + counter_size + counter_size + slot_size

-- the kinds of record
unfoldable pub row_kind : CardForm → ℕ
row_kind Old = 1
row_kind New = 3

abbrev pub close_kind : ℕ
close_kind = 2
