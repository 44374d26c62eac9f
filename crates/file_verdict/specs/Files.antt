-- From the two files to the line: docs/RULES.md, 'The program'. A file is its bytes, or none where it is missing or can't be read.
-- `line_for` is the whole decision. It goes in two parts, since the card is judged before the message file is looked at: by `loaded_of` and
-- `book_loaded` from the card, and by `message_line` from the book and the message.
use Rattle.std.specs.Prelude.{ℕ, ◌+◌, ◌*◌, ◌<◌, cond, List, leb, eqb, length, take, Err, None, Ok, Option, Result, Some}
use Rattle.octets.specs.Bytes.{zeros}
use Rattle.key_book.specs.Limits.{rows_most, slot_size}
use Rattle.key_book.specs.Book.{Book, book_of}
use Rattle.delayed_auth.specs.Check.{check_of, marks_after, received_after}
use Rattle.book_card.specs.Reading.{read_of, read_book}
use Rattle.verdict_line.specs.declared.Line.{Line}
use Rattle.verdict_line.specs.declared.Line.TheVariants.{Accepted, Refused, Unreadable}
use Rattle.file_verdict.specs.declared.Progress.{Progress}
use Rattle.file_verdict.specs.declared.Progress.TheVariants.{Ended, More}
use Rattle.delayed_auth.specs.declared.Accepted.{Accepted as AcceptedRow}
use Rattle.refusal.specs.declared.Refusal.{Refusal}

-- the most bytes that a file may have
abbrev pub file_most : ℕ
file_most = 65535

-- ---- a file

-- what a room holds of a file: its first bytes, none where the room has not so many
unfoldable pub file_in : List ℕ → Option ℕ → Option (List ℕ)
file_in room None = None
file_in room (Some n) = cond (leb n (length room)) (Some (take n room)) None

-- the bytes of a file that may be judged: none above the limit
unfoldable pub readable : Option (List ℕ) → Option (List ℕ)
readable None = None
readable (Some s) = cond (leb (length s) file_most) (Some s) None

-- a file by its number of bytes
abbrev pub content_of : Option (List ℕ) → Option ℕ
content_of None = None
content_of (Some s) = Some (length s)

-- what one read means, where so many bytes of the room had been read before: `None`, it failed; 0 is the end
unfoldable pub after_read : (have room : ℕ) → Option ℕ → Progress
after_read have room None = Ended None
after_read have room (Some n) = cond (eqb n 0) (Ended (Some have)) (cond (leb (have + n) room) (More (have + n)) (Ended None))

-- what was read is less than the room, so that the file's end was seen
abbrev pub EndSeen : ℕ → Option ℕ → Type 0
EndSeen room None = Unit {0}
EndSeen room (Some n) = n < room

-- ---- the card

-- what reading the card answers, as the rows of the book or the line
abbrev pub loaded_by : Result ℕ Refusal → Result ℕ Line
loaded_by (Err r) = Err (Refused r)
loaded_by (Ok n) = Ok n

abbrev pub loaded_from : Book → Option (List ℕ) → Result ℕ Line
loaded_from b None = Err Unreadable
loaded_from b (Some card) = loaded_by (read_of b card)

unfoldable pub loaded_of : Book → Option (List ℕ) → Result ℕ Line
loaded_of b card = loaded_from b (readable card)

abbrev pub rows_loaded : Result ℕ Line → ℕ
rows_loaded (Err line) = 0
rows_loaded (Ok n) = n

-- the book afterwards
abbrev pub book_from : Book → Option (List ℕ) → Book
book_from b None = b
book_from b (Some card) = read_book b card

unfoldable pub book_loaded : Book → Option (List ℕ) → Book
book_loaded b card = book_from b (readable card)

-- ---- the message

abbrev pub verdict_line : Result AcceptedRow Refusal → Line
verdict_line (Ok a) = Accepted a.row a.counter
verdict_line (Err r) = Refused r

abbrev pub line_from : Book → Option (List ℕ) → Line
line_from b None = Unreadable
line_from b (Some message) = verdict_line (check_of b message)

unfoldable pub message_line : Book → Option (List ℕ) → Line
message_line b message = line_from b (readable message)

-- the marks afterwards
abbrev pub marks_from : Book → Option (List ℕ) → List ℕ
marks_from b None = b.marks
marks_from b (Some message) = marks_after (check_of b message) b.marks

unfoldable pub marks_left : Book → Option (List ℕ) → List ℕ
marks_left b message = marks_from b (readable message)

-- the received counters afterwards
abbrev pub received_from : Book → Option (List ℕ) → List ℕ
received_from b None = b.received
received_from b (Some message) = received_after (check_of b message) b.received

unfoldable pub received_left : Book → Option (List ℕ) → List ℕ
received_left b message = received_from b (readable message)

-- ---- both

-- a book with room for as many rows as a card may have, and nothing in it
abbrev pub empty_book : Book
empty_book = book_of (zeros rows_most) (zeros rows_most) (zeros (rows_most * slot_size)) (zeros rows_most) (zeros rows_most) (zeros rows_most) 0

abbrev pub line_after : (card message : Option (List ℕ)) → Result ℕ Line → Line
line_after card message (Err line) = line
line_after card message (Ok n) = message_line (book_loaded empty_book card) message

-- the line for two files
unfoldable pub line_for : (card message : Option (List ℕ)) → Line
line_for card message = line_after card message (loaded_of empty_book card)
