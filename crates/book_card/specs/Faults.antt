-- The record in front of bytes, whatever form the other rows have, and why one that is neither a row nor a close is none (docs/RULES.md, 'The card' and
-- 'A damaged card'). A row and a close are those of specs/Reader.antt, the form being the one that rows of the record's kind have.
use Rattle.std.specs.Prelude.{cond, List, ℕ, ◌+◌, ◌-◌, ltb, eqb, length}
use Rattle.octets.specs.Numbers.{little_at}
use Rattle.key_book.specs.Limits.{not_heard}
use Rattle.book_card.specs.declared.CardForm.{CardForm}
use Rattle.book_card.specs.Layout.{length_size, kind_size, row_kind, close_kind, kind_at, body_at}
use Rattle.book_card.specs.Reader.{form_in, mark_in, row_length, front_of}
use Rattle.book_card.specs.declared.Front.{Front}
use Rattle.book_card.specs.declared.Front.TheVariants.{Broken, Row as RowFront, Close as CloseFront}
use Rattle.book_card.specs.declared.Fault.{Fault}
use Rattle.book_card.specs.declared.Fault.TheVariants.{UnknownKind, WrongLength, WrongMark, NotHeardCounter}
use Rattle.book_card.specs.declared.Record.{Record}
use Rattle.book_card.specs.declared.Record.TheVariants.{Lost, Faulty, Row as RowThere, Close as CloseThere}

-- what the first two fields say
abbrev pub size_in : List ℕ → ℕ
size_in s = little_at s 0 length_size

abbrev pub kind_in : List ℕ → ℕ
kind_in s = little_at s kind_at kind_size

-- why a whole record is neither a row of a form nor a close: the first of the four. A row that has a length of its kind is one but for its mark
unfoldable pub fault_by : CardForm → List ℕ → ℕ → ℕ → Fault
fault_by form s size kind =
    cond (eqb kind close_kind) WrongLength
    (cond (eqb kind (row_kind form)) (cond (row_length form size) (cond (eqb (mark_in form s) not_heard) NotHeardCounter WrongMark) WrongLength) UnknownKind)

-- a whole record, by what the reader of rows and closes makes of it
abbrev pub record_by : CardForm → List ℕ → Front → Record
record_by form s Broken = Faulty (fault_by form s (size_in s) (kind_in s)) (kind_in s) (length_size + size_in s)
record_by form s (RowFront id mark received sent size) = RowThere form id mark received sent size
record_by form s (CloseFront n) = CloseThere n

-- the record in front: lost where its length field is cut, counts less than a kind takes, or passes the end
unfoldable pub record_in : List ℕ → Record
record_in s =
    cond (ltb (length s) body_at) Lost
    (cond (ltb (size_in s) kind_size) Lost
    (cond (ltb (length s - length_size) (size_in s)) Lost (record_by (form_in s) s (front_of (form_in s) s))))
