-- Reading a card in pieces (docs/RULES.md, 'The card in pieces'): the state, what a piece makes of it and of the spare rows, and the end. Every state has
-- an answer, also one that no card makes.
use Rattle.std.specs.Prelude.{Bool, false, cond, ◌&&◌, List, ◌++◌, ℕ, ◌+◌, ◌-◌, ◌*◌, leb, ltb, eqb, length, take, Err, None, Ok, Option, Result, Some}
use Rattle.refusal.specs.declared.Refusal.TheVariants.{UnsoundBook, MalformedCard, NoRoomForRows}
use Rattle.octets.specs.Bytes.{written, zeros, filled}
use Rattle.key_book.specs.Limits.{rows_most, slot_size}
use Rattle.key_book.specs.Book.{Book, book_of, sized}
use Rattle.book_card.specs.declared.CardForm.{CardForm}
use Rattle.book_card.specs.Layout.{record_most}
use Rattle.book_card.specs.Reader.{form_in}
use Rattle.card_pieces.specs.declared.Phase.{Phase}
use Rattle.card_pieces.specs.declared.Phase.TheVariants.{Reading, Closed, Fault}
use Rattle.card_pieces.specs.declared.Reader.{Reader}
use Rattle.card_pieces.specs.Runs.{run_from, Outcome, outcome}
use Rattle.refusal.specs.declared.Refusal.{Refusal}

-- the most bytes of a cut record: one less than the largest record
abbrev pub tail_most : ℕ
tail_most = record_most - 1

-- a tail, and the largest record behind it
abbrev pub window_size : ℕ
window_size = tail_most + record_most

-- of a piece of so many bytes, those that stand in the window
unfoldable pub window_of : ℕ → ℕ
window_of size = cond (ltb record_most size) record_most size

-- ---- the state

-- a state that keeps these bytes; zeros fill the tail behind them
unfoldable pub state_with : List ℕ → ℕ → ℕ → Option CardForm → Phase → Reader
state_with rest rows low form phase =
    record { tail = filled tail_most rest; kept = length rest; rows = rows; low = low; form = form; phase = phase }

unfoldable pub fresh : Reader
fresh = record { tail = zeros tail_most; kept = 0; rows = 0; low = 0; form = None; phase = Reading }

-- the bytes of the tail that count
abbrev pub held : Reader → List ℕ
held st = take st.kept st.tail

-- neither count is past its limit: the bytes kept, and the rows
unfoldable pub within : ℕ → ℕ → Bool
within kept rows = leb kept tail_most && leb rows rows_most

-- the form of the rows that follow: the one known, else that of the first record
unfoldable pub form_by : List ℕ → Option CardForm → CardForm
form_by s None = form_in s
form_by s (Some form) = form

-- what is known of the form after reading, with so many rows before and after
unfoldable pub form_after : Option CardForm → CardForm → ℕ → ℕ → Option CardForm
form_after known form before after = cond (eqb before after) known (Some form)

-- ---- a piece

-- the state that reading leaves, with n rows before
unfoldable pub settled : Option CardForm → CardForm → ℕ → Outcome → Reader
settled known form n o = state_with o.rest o.rows o.low (form_after known form n o.rows) o.phase

-- what reading the bytes s leaves, from a state
unfoldable pub reads_on : Book → Reader → List ℕ → Outcome
reads_on b st s = outcome b st.rows (run_from (form_by s st.form) st.low st.rows s st.phase)

-- the state and the spare rows after a piece: the bytes kept are read with the piece behind them
unfoldable pub state_fed : Book → Reader → List ℕ → Reader
state_fed b st piece = settled st.form (form_by (held st ++ piece) st.form) st.rows (reads_on b st (held st ++ piece))

unfoldable pub spare_fed : Book → Reader → List ℕ → Book
spare_fed b st piece = (reads_on b st (held st ++ piece)).spare

-- whether a piece is taken: the spare rows' sizes agree, and no count of the state is past its limit. Else the answer is 1 and nothing is changed
abbrev pub taken : Book → Reader → Bool
taken b st = sized b && within st.kept st.rows

unfoldable pub feed_of : Book → Reader → List ℕ → Result Reader Refusal
feed_of b st piece =
    cond (taken b st)
    (Ok (state_fed b st piece))
    (Err UnsoundBook)

unfoldable pub feed_spare : Book → Reader → List ℕ → Book
feed_spare b st piece = cond (taken b st) (spare_fed b st piece) b

-- ---- the end

-- whether reading has ended: the close was read, and no bytes are kept
unfoldable pub has_ended : ℕ → Phase → Bool
has_ended kept Reading = false
has_ended kept Closed = eqb kept 0
has_ended kept Fault = false

-- the answer, with room for so many rows: 15, then 17
abbrev pub finish_as : ℕ → Reader → Result ℕ Refusal
finish_as room st =
    cond (has_ended st.kept st.phase) (cond (ltb room st.rows) (Err NoRoomForRows) (Ok st.rows)) (Err MalformedCard)

-- the answer from the spare rows b, the state and the book c: 1, then those
unfoldable pub finish_of : Book → Reader → Book → Result ℕ Refusal
finish_of b st c =
    cond (sized b && sized c && eqb (length b.ids) (length c.ids) && within st.kept st.rows) (finish_as (length c.ids) st)
    (Err UnsoundBook)

-- a book whose first n rows, in use, are the spare ones as they stand; further rows unchanged
unfoldable pub copied : ℕ → Book → Book → Book
copied n b c =
    book_of
    (written 0 (take n b.ids) c.ids)
    (written 0 (take n b.lengths) c.lengths)
    (written 0 (take (slot_size * n) b.store) c.store)
    (written 0 (take n b.marks) c.marks)
    (written 0 (take n b.received) c.received)
    (written 0 (take n b.sent) c.sent)
    n

-- the book at the end, by the answer: a refusal changes nothing
abbrev pub finish_by : Book → Book → Result ℕ Refusal → Book
finish_by b c (Err x) = c
finish_by b c (Ok n) = copied n b c

unfoldable pub finish_book : Book → Reader → Book → Book
finish_book b st c = finish_by b c (finish_of b st c)
