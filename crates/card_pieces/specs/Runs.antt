-- Reading on from a known place of a card: what record comes next, the rows in front of bytes, and how reading then stands (docs/RULES.md, 'The card in
-- pieces'). The rows are those of book_card's `front_from`, whose end is a fault also where a record is only cut; here these are told apart.
use Rattle.std.specs.Prelude.{Bool, true, false, cond, List, [], ◌∷◌, ℕ, suc, ◌+◌, ◌-◌, leb, ltb, eqb, length, drop}
use Rattle.key_book.specs.Limits.{rows_most}
use Rattle.key_book.specs.Book.{Book}
use Rattle.book_card.specs.declared.CardForm.{CardForm}
use Rattle.book_card.specs.declared.Front.{Front}
use Rattle.book_card.specs.declared.Front.TheVariants.{Broken, Row as RowFront, Close as CloseFront}
use Rattle.book_card.specs.Layout.{close_size}
use Rattle.book_card.specs.Card.{Row}
use Rattle.book_card.specs.Reader.{front_of, wants, CardEnd, closed, fault, FrontRows, front_from, low_after}
use Rattle.book_card.specs.Reading.{put_row}
use Rattle.card_pieces.specs.declared.Phase.{Phase}
use Rattle.card_pieces.specs.declared.Phase.TheVariants.{Reading, Closed, Fault}
use Rattle.card_pieces.specs.declared.Next.{Next}
use Rattle.card_pieces.specs.declared.Next.TheVariants.{Cut, Close, Fault as NoRecord, Row as RowNext}
use Rattle.card_pieces.specs.declared.Pass.{Pass}

-- ---- the rows in front

-- the rows in front of bytes; the least id that may follow them; how reading stands behind them; and the bytes of a record that wants more
pub record Run : Type 0 where
  pub rows : List Row
  pub low : ℕ
  pub phase : Phase
  pub rest : List ℕ

-- no row
abbrev pub stopped_run : ℕ → Phase → List ℕ → Run
stopped_run low phase rest = record { rows = []; low = low; phase = phase; rest = rest }

-- how reading stands, by whether what follows the rows wants more bytes, and how they end
abbrev pub phase_by : Bool → CardEnd → Phase
phase_by w closed = Closed
phase_by true fault = Reading
phase_by false fault = Fault

-- the run of rows in front: what follows them is kept where it is a record that wants more
abbrev pub run_of : ℕ → FrontRows → Run
run_of low f =
    record {
      rows = f.rows;
      low = low_after low f.rows;
      phase = phase_by (wants f.rest) f.ends;
      rest = cond (wants f.rest) f.rest [];
    }

-- reading on, behind n rows of a form, with this least id
unfoldable pub run : CardForm → ℕ → ℕ → List ℕ → Run
run form low n s = run_of low (front_from form (rows_most - n) low n s)

-- the same from however reading stands: behind the close any byte is a fault, and a fault stays
unfoldable pub run_from : CardForm → ℕ → ℕ → List ℕ → Phase → Run
run_from form low n s Reading = run form low n s
run_from form low n s Closed = cond (eqb (length s) 0) (stopped_run low Closed []) (stopped_run low Fault [])
run_from form low n s Fault = stopped_run low Fault []

-- ---- spare rows

-- spare rows with these set from row k on, as many as fit; every other one unchanged
unfoldable pub put_rows : Book → ℕ → List Row → Book
put_rows b k [] = b
put_rows b k (r ∷ rows) = put_rows (put_row b k r) (suc k) rows

-- what reading leaves: the spare rows, the rows read, and how it stands
pub record Outcome : Type 0 where
  pub spare : Book
  pub rows : ℕ
  pub low : ℕ
  pub phase : Phase
  pub rest : List ℕ

-- what a run leaves, with n rows before it
unfoldable pub outcome : Book → ℕ → Run → Outcome
outcome b n q = record { spare = put_rows b n q.rows; rows = n + length q.rows; low = q.low; phase = q.phase; rest = q.rest }

-- ---- one record, as the code goes from record to record

-- what comes next, by the record in front: a row may follow where there are not too many before it and its id is not too low
abbrev pub next_by : ℕ → ℕ → List ℕ → Front → Next
next_by low n s Broken = NoRecord
next_by low n s (CloseFront m) = cond (eqb (length s) close_size) (cond (eqb m n) Close NoRecord) NoRecord
next_by low n s (RowFront id mark received sent size) =
    cond (leb rows_most n) NoRecord (cond (ltb id low) NoRecord (RowNext id mark received sent size))

unfoldable pub next_of : CardForm → ℕ → ℕ → List ℕ → Next
next_of form low n s = cond (wants s) Cut (next_by low n s (front_of form s))

-- a pass: up to this place, with so many rows and this least id, and how reading stands
abbrev pub pass_to : (at rows low : ℕ) → Phase → Pass
pass_to at rows low phase = record { at = at; rows = rows; low = low; phase = phase }

-- where a pass stops, by what comes next at a place of so many bytes: there, where a record is cut; behind them all, after the close or a fault
abbrev pub stop_by : (at size rows low : ℕ) → Next → Pass
stop_by at size rows low Cut = pass_to at rows low Reading
stop_by at size rows low Close = pass_to size rows low Closed
stop_by at size rows low NoRecord = pass_to size rows low Fault
stop_by at size rows low (RowNext id mark received sent z) = pass_to at rows low Reading

-- whether records may follow
abbrev pub is_reading : Phase → Bool
is_reading Reading = true
is_reading Closed = false
is_reading Fault = false

-- how reading stands behind the close or a fault, by whether there are bytes
abbrev pub behind_by : Bool → Phase → Phase
behind_by true Closed = Fault
behind_by false Closed = Closed
behind_by more Reading = Fault
behind_by more Fault = Fault

-- what a pass over some bytes leaves to be read: while it goes on, what is behind its place; else nothing
abbrev pub onward_by : CardForm → Pass → List ℕ → Phase → Run
onward_by form p s Reading = run form p.low p.rows (drop p.at s)
onward_by form p s Closed = stopped_run p.low Closed (drop p.at s)
onward_by form p s Fault = stopped_run p.low Fault (drop p.at s)

unfoldable pub onward : CardForm → Pass → List ℕ → Run
onward form p s = onward_by form p s p.phase
