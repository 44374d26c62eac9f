-- What is proved of the lines of a recording (docs/RULES.md, 'A recording'), each as a closed statement: they are the answers of a run of demand 3;
-- record by record they come to the lines of the whole; what is written where a read fails; and for any two files. The proofs are in
-- proofs/Answered.antt, Stepped.antt and Says.antt.
use Rattle.std.specs.Prelude.{ℕ, suc, ◌≤◌, ◌<◌, ◌≡◌, cond, List, [], ◌∷◌, ◌++◌, length, None, Option, Result, Some}
use Rattle.octets.specs.Bytes.{Bytes}
use Rattle.key_book.specs.Book.{Book}
use Rattle.book_card.specs.Card.{Row, CardFor, NoCard}
use Rattle.book_card.specs.Reading.{loaded}
use Rattle.demands.specs.Demand3.{Step, check, State, Answer, checked, answers, ending}
use Rattle.verdict_line.specs.declared.Line.{Line}
use Rattle.verdict_line.specs.declared.Line.TheVariants.{Unreadable, Skipped, Cut}
use Rattle.verdict_line.specs.Line.{line_of, numbered_line}
use Rattle.file_verdict.specs.Files.{file_most, empty_book, verdict_line}
use Rattle.capture.specs.declared.Order.{Order}
use Rattle.capture.specs.Layout.{file_header_size, record_header_size}
use Rattle.capture.specs.Records.{Record, Records, file_header_of, record_header_of, records_of}
use Rattle.capture.specs.Frame.{payload_of}
use Rattle.capture_verdict.specs.Lines.{record_line, book_by, record_lines, book_at_end, numbered, lines_from, lines_of, lines_to_failure, lines_of_files}
use Rattle.delayed_auth.specs.declared.Accepted.{Accepted}
use Rattle.refusal.specs.declared.Refusal.{Refusal}
use Rattle.capture.specs.Records.{header_with}

-- ---- the run of checks

abbrev pub check_then : Option (List ℕ) → List Step → List Step
check_then None steps = steps
check_then (Some message) steps = check message ∷ steps

-- the checks of the payloads, in the file's order
abbrev pub checks_of : List Record → List Step
checks_of [] = []
checks_of (r ∷ rs) = check_then (payload_of r.frame r.original) (checks_of rs)

-- the lines tell the answers, record by record: a record without a payload is skipped, and every other one has the next answer
pub data Tells : List Record → List Answer → List Line → Type 0 where
  nothing : Tells [] [] []
  skips : {r : Record} {rs : List Record} {given : List Answer} {lines : List Line} → payload_of r.frame r.original ≡ None → Tells rs given lines
      → Tells (r ∷ rs) given (Skipped ∷ lines)
  says : {r : Record} {rs : List Record} {given : List Answer} {lines : List Line} {message : List ℕ} {v : Result Accepted Refusal}
      → payload_of r.frame r.original ≡ Some message → Tells rs given lines → Tells (r ∷ rs) (checked v ∷ given) (verdict_line v ∷ lines)

-- Demand 3's run: the lines are the answers of the checks of the payloads in the file's order, from the same book, each with its number; and the
-- book, its marks and received counters with it, ends as the run leaves it. The server rows of the run may be any: a check doesn't see them.
pub record VerdictsAreAnswers : Type 0 where
  pub lines_tell : (b : State) (records : List Record) → Tells records (answers b (checks_of records)) (record_lines b.book records)
  pub book_ends : (b : State) (records : List Record) → book_at_end b.book records ≡ (ending b (checks_of records)).book
  pub numbered_so : (b : Book) (capture : List ℕ) (records : Records) → records_of capture ≡ Some records
      → lines_of b capture ≡ numbered 1 (record_lines b records.whole) ++ cond records.cut (line_of Cut ∷ []) []

-- ---- record by record

-- What the program does with the bytes that it reads, a header and a frame at a time, comes to the lines of the whole: each clause is what one of its
-- calls answers.
pub record ByRecord : Type 0 where
  -- the file's header
  pub short_file : (b : Book) (capture : List ℕ) → length capture < file_header_size → lines_of b capture ≡ line_of Unreadable ∷ []
  pub other_header : (b : Book) (header rest : List ℕ) → length header ≡ file_header_size → file_header_of header ≡ None
      → lines_of b (header ++ rest) ≡ line_of Unreadable ∷ []
  pub opened : (b : Book) (order : Order) (header rest : List ℕ) → length header ≡ file_header_size → file_header_of header ≡ Some order
      → lines_of b (header ++ rest) ≡ lines_from order b 1 rest
  -- the file ends here, or inside a record's header
  pub at_end_lem : (order : Order) (b : Book) (n : ℕ) → lines_from order b n [] ≡ []
  pub header_short : (order : Order) (b : Book) (n : ℕ) (s : List ℕ) → 0 < length s → length s < record_header_size → lines_from order b n s ≡ line_of Cut ∷ []
  -- a whole header of a record
  pub header_cut : (order : Order) (b : Book) (n : ℕ) (header rest : List ℕ) → length header ≡ record_header_size → record_header_of order header ≡ None
      → lines_from order b n (header ++ rest) ≡ line_of Cut ∷ []
  pub frame_short : (order : Order) (b : Book) (n captured original : ℕ) (header rest : List ℕ) → length header ≡ record_header_size
      → record_header_of order header ≡ header_with captured original → length rest < captured → lines_from order b n (header ++ rest) ≡ line_of Cut ∷ []
  pub next : (order : Order) (b : Book) (n original : ℕ) (header frame rest : List ℕ) → length header ≡ record_header_size
      → record_header_of order header ≡ header_with (length frame) original
      → lines_from order b n (header ++ (frame ++ rest)) ≡ numbered_line n (record_line b frame original)
      ∷ lines_from order (book_by b frame original) (suc n) rest

-- ---- a read that fails

-- behind the file's header the whole records in front are judged, and the line `cut` follows; before, nothing is
pub record FailureSays : Type 0 where
  pub behind_header : (b : Book) (front : List ℕ) (records : Records) → records_of front ≡ Some records
      → lines_to_failure b front ≡ numbered 1 (record_lines b records.whole) ++ (line_of Cut ∷ [])
  pub within_header : (b : Book) (front : List ℕ) → length front < file_header_size → lines_to_failure b front ≡ line_of Unreadable ∷ []
  pub other_header : (b : Book) (header rest : List ℕ) → length header ≡ file_header_size → file_header_of header ≡ None
      → lines_to_failure b (header ++ rest) ≡ line_of Unreadable ∷ []

-- ---- any two files

pub record LinesSay : Type 0 where
  -- the card is missing or above the limit, or its bytes are no card in either form: whatever stands in the capture's place
  pub card_missing : (capture : Option (List ℕ)) → lines_of_files None capture ≡ line_of Unreadable ∷ []
  pub card_too_large : (card : List ℕ) → file_most < length card → (capture : Option (List ℕ)) → lines_of_files (Some card) capture ≡ line_of Unreadable ∷ []
  pub card_malformed : (card : List ℕ) → length card ≤ file_most → Bytes card → NoCard card
      → (capture : Option (List ℕ)) → lines_of_files (Some card) capture ≡ line_of Unreadable ∷ []
  -- the card is good, and the capture is missing or not
  pub capture_missing : (card : List ℕ) (rows : List Row) → CardFor rows card → lines_of_files (Some card) None ≡ line_of Unreadable ∷ []
  pub both_there : (card : List ℕ) (rows : List Row) → CardFor rows card → (capture : List ℕ)
      → lines_of_files (Some card) (Some capture) ≡ lines_of (loaded empty_book rows) capture
