-- How far the judging of a recording is: which records have been judged, what is left of the bytes that were read, the marks and the received counters,
-- and the lines that wait to be written.
use Rattle.std.specs.Prelude.{ℕ, ◌+◌, ◌-◌, ◌^◌, ◌≤◌, ◌≡◌, ◌⊎◌, cond, List, [], ◌∷◌, ◌++◌, leb, length, take, IfOk, Result, Some}
use Rattle.key_book.specs.Book.{Book}
use Rattle.verdict_line.specs.declared.Line.TheVariants.{Cut}
use Rattle.verdict_line.specs.Line.{numbered_most, line_of}
use Rattle.capture.specs.declared.Order.{Order}
use Rattle.capture.specs.Records.{Record, in_front, records_from, records_of}
use Rattle.capture_verdict.specs.Lines.{record_lines, book_at_end, numbered}

-- From the first bytes behind the file's header: whatever the file has behind those that were read, its records are these and then those of the bytes
-- that are left.
pub record Judging (order : Order) (first : List ℕ) (records : List Record) (left : List ℕ) : Type 0 where
  pub read : List ℕ
  pub goes_on : (rest : List ℕ) → records_from order (first ++ (read ++ rest)) ≡ in_front records (records_from order (left ++ rest))

-- These records have been judged: the marks and the counters are those that they leave.
pub record Judged (order : Order) (b : Book) (first marks received : List ℕ) : Type 0 where
  pub records : List Record
  pub left : List ℕ
  pub so_far : Judging order first records left
  pub rows_heard : marks ≡ (book_at_end b records).marks
  pub counters : received ≡ (book_at_end b records).received

-- ---- the lines

-- the bytes that wait behind one line more, in a room of so many: all are written where there may be no room for another
abbrev pub after_line : ℕ → List ℕ → List ℕ → List ℕ
after_line room waiting line = cond (leb (length (waiting ++ line) + numbered_most) room) (waiting ++ line) []

abbrev pub after_lines : ℕ → List ℕ → List (List ℕ) → List ℕ
after_lines room waiting [] = waiting
after_lines room waiting (line ∷ lines) = after_lines room (after_line room waiting line) lines

-- what is written behind the last line, by the bytes that are left: nothing at the file's end; `cut` where they have no whole record; and no line has a
-- number above 2^64 - 1
pub data Last (order : Order) (left : List ℕ) (number : ℕ) : List ℕ → Type 0 where
  file_ends : left ≡ [] → Last order left number []
  file_cut : (read : List ℕ) → (records_from order (left ++ read)).whole ≡ [] → Last order left number (line_of Cut)
  no_number : number ≡ 2 ^ 64 - 1 → Last order left number []

-- the judging ended, and so many bytes of the room wait to be written: what the lines of those records leave waiting, and the last
pub record Waited (order : Order) (b : Book) (first marks received out : List ℕ) (size : ℕ) : Type 0 where
  pub judged : Judged order b first marks received
  pub within : size ≤ length out
  pub end : List ℕ
  pub last : Last order judged.left (length judged.records) end
  pub text : take size out ≡ after_lines (length out) [] (numbered 1 (record_lines b judged.records)) ++ end

abbrev pub LinesWait : {E : Type 0} → Order → Book → (first marks received out : List ℕ) → Result ℕ E → Type 0
LinesWait order b first marks received out waiting = IfOk waiting (λ size. Waited order b first marks received out size)

-- ---- the whole file

-- The records that were judged, from the file's first byte on.
pub record Recorded (b : Book) (marks received : List ℕ) : Type 0 where
  pub front : List ℕ
  pub order : Order
  pub records : List Record
  pub left : List ℕ
  pub so_far : (rest : List ℕ) → records_of (front ++ rest) ≡ Some (in_front records (records_from order (left ++ rest)))
  pub rows_heard : marks ≡ (book_at_end b records).marks
  pub counters : received ≡ (book_at_end b records).received

-- nothing is judged of a recording that is unreadable
abbrev pub RecordingJudged : Book → (marks received : List ℕ) → Type 0
RecordingJudged b marks received = ((marks ≡ b.marks) × (received ≡ b.received)) ⊎ Recorded b marks received
