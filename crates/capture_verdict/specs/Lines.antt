-- From a book and a capture to the lines that `judge_capture` writes: docs/RULES.md, 'A recording'. The records are judged in the file's order, each by
-- the book as the one before it left it.
use Rattle.std.specs.Prelude.{ℕ, suc, true, cond, List, [], ◌∷◌, ◌++◌, Err, None, Ok, Option, Result, Some}
use Rattle.key_book.specs.Book.{Book, book_of}
use Rattle.delayed_auth.specs.Check.{check_of, marks_after, received_after}
use Rattle.verdict_line.specs.declared.Line.{Line}
use Rattle.verdict_line.specs.declared.Line.TheVariants.{Unreadable, Skipped, Cut}
use Rattle.verdict_line.specs.Line.{line_of, numbered_line}
use Rattle.file_verdict.specs.Files.{loaded_of, book_loaded, empty_book, verdict_line}
use Rattle.capture.specs.declared.Order.{Order}
use Rattle.capture.specs.Records.{Record, Records, records_from, records_of}
use Rattle.capture.specs.Frame.{payload_of}

-- ---- a record

abbrev pub payload_line : Book → Option (List ℕ) → Line
payload_line b None = Skipped
payload_line b (Some message) = verdict_line (check_of b message)

abbrev pub marks_on : Book → Option (List ℕ) → List ℕ
marks_on b None = b.marks
marks_on b (Some message) = marks_after (check_of b message) b.marks

abbrev pub received_on : Book → Option (List ℕ) → List ℕ
received_on b None = b.received
received_on b (Some message) = received_after (check_of b message) b.received

-- the line for a frame that had so many bytes, without its number
unfoldable pub record_line : Book → List ℕ → ℕ → Line
record_line b frame original = payload_line b (payload_of frame original)

-- the marks afterwards
unfoldable pub marks_by : Book → List ℕ → ℕ → List ℕ
marks_by b frame original = marks_on b (payload_of frame original)

-- the received counters afterwards
unfoldable pub received_by : Book → List ℕ → ℕ → List ℕ
received_by b frame original = received_on b (payload_of frame original)

-- a book with these marks and received counters, which are all that checks change
abbrev pub with_heard : Book → (marks received : List ℕ) → Book
with_heard b marks received = book_of b.ids b.lengths b.store marks received b.sent b.rows

-- the book afterwards
abbrev pub book_by : Book → List ℕ → ℕ → Book
book_by b frame original = with_heard b (marks_by b frame original) (received_by b frame original)

-- ---- the records

abbrev pub record_lines : Book → List Record → List Line
record_lines b [] = []
record_lines b (r ∷ rs) = record_line b r.frame r.original ∷ record_lines (book_by b r.frame r.original) rs

-- the book afterwards
abbrev pub book_at_end : Book → List Record → Book
book_at_end b [] = b
book_at_end b (r ∷ rs) = book_at_end (book_by b r.frame r.original) rs

-- the lines as they are written, with their numbers from n on
abbrev pub numbered : ℕ → List Line → List (List ℕ)
numbered n [] = []
numbered n (line ∷ lines) = numbered_line n line ∷ numbered (suc n) lines

abbrev pub lines_for : Book → ℕ → Records → List (List ℕ)
lines_for b n records = numbered n (record_lines b records.whole) ++ cond records.cut (line_of Cut ∷ []) []

-- what is written for the bytes behind the file's header, or behind the records before number n
unfoldable pub lines_from : Order → Book → ℕ → List ℕ → List (List ℕ)
lines_from order b n s = lines_for b n (records_from order s)

-- ---- the file

abbrev pub lines_in : Book → Option Records → List (List ℕ)
lines_in b None = line_of Unreadable ∷ []
lines_in b (Some records) = lines_for b 1 records

-- what is written for a capture's bytes, by the card's book
unfoldable pub lines_of : Book → List ℕ → List (List ℕ)
lines_of b capture = lines_in b (records_of capture)

-- the same records, cut behind the last
abbrev pub cut_after : Option Records → Option Records
cut_after None = None
cut_after (Some records) = Some (record { whole = records.whole; cut = true })

-- what is written where a read of the capture failed behind these bytes
unfoldable pub lines_to_failure : Book → List ℕ → List (List ℕ)
lines_to_failure b front = lines_in b (cut_after (records_of front))

-- ---- both files: a file is its bytes, or none where it is missing or can't be read (the capture: to the end of its header)

abbrev pub lines_on : (card capture : Option (List ℕ)) → Result ℕ Line → List (List ℕ)
lines_on card capture (Err line) = line_of Unreadable ∷ []
lines_on card None (Ok n) = line_of Unreadable ∷ []
lines_on card (Some capture) (Ok n) = lines_of (book_loaded empty_book card) capture

unfoldable pub lines_of_files : (card capture : Option (List ℕ)) → List (List ℕ)
lines_of_files card capture = lines_on card capture (loaded_of empty_book card)
