-- A recording of one message, judged by Book B (docs/RULES.md, 'Bench examples'): bench example 9 put right, as it is in a frame; before it a record
-- without a payload, behind it the same frame again, and then a record whose frame is not all there. B's old card and its new one give the same lines.
-- Then a message with counter 0, judged by a row that is not heard, and once more. The proof is proofs/Computed.antt.
use Rattle.std.specs.Prelude.{ℕ, ◌+◌, ◌≡◌, List, [], ◌∷◌, ◌++◌, length, None, Option, Some}
use Rattle.octets.specs.Bytes.{zeros}
use Rattle.octets.specs.Numbers.{le, be}
use Rattle.refusal.specs.declared.Refusal.TheVariants.{Replay}
use Rattle.card_laws.specs.Examples.{card_b, new_card_b, marked_card}
use Rattle.verdict_line.specs.declared.Line.TheVariants.{Accepted, Refused, Unreadable, Skipped, Cut}
use Rattle.verdict_line.specs.Line.{line_of, numbered_line}
use Rattle.file_verdict.specs.Files.{empty_book}
use Rattle.file_verdict.specs.Example9.{message_with, message_zero}
use Rattle.capture_verdict.specs.Lines.{lines_to_failure, lines_of_files}

-- a frame from the server's port to the client's, with this payload
abbrev pub frame_of : List ℕ → List ℕ
frame_of payload =
    zeros 12 ++ (8 ∷ 0 ∷ [])
    ++ (0x45 ∷ 0 ∷ be 2 (28 + length payload) ++ (0 ∷ 0 ∷ 0x40 ∷ 0 ∷ 64 ∷ 17 ∷ zeros 10))
    ++ (0 ∷ 67 ∷ 0 ∷ 68 ∷ be 2 (8 + length payload) ++ zeros 2)
    ++ payload

-- a record whose frame was captured whole
abbrev pub record_of : List ℕ → List ℕ
record_of frame = zeros 8 ++ le 4 (length frame) ++ le 4 (length frame) ++ frame

-- the header of a file
abbrev pub file_header : List ℕ
file_header = le 4 0xa1b2_c3d4 ++ zeros 16 ++ le 4 1

abbrev pub recording : List ℕ
recording =
    file_header
    ++ record_of (zeros 60)
    ++ record_of (frame_of (message_with 11 105))
    ++ record_of (frame_of (message_with 11 105))
    ++ zeros 15

-- the message with counter 0, twice
abbrev pub zero_twice : List ℕ
zero_twice = file_header ++ record_of (frame_of message_zero) ++ record_of (frame_of message_zero)

pub record RecordingExample : Type 0 where
  pub by_book_b : lines_of_files (Some card_b) (Some recording)
      ≡ numbered_line 1 Skipped ∷ numbered_line 2 (Accepted 0 11) ∷ numbered_line 3 (Refused Replay) ∷ line_of Cut ∷ []
  -- the new card: the same lines, whatever stands in the capture's place
  pub by_new_card : (capture : Option (List ℕ)) → lines_of_files (Some new_card_b) capture ≡ lines_of_files (Some card_b) capture
  -- a row that is not heard takes counter 0, and is then heard
  pub not_heard_lem : lines_of_files (Some (marked_card 0 0)) (Some zero_twice) ≡ numbered_line 1 (Accepted 0 0) ∷ numbered_line 2 (Refused Replay) ∷ []
  pub no_record : lines_of_files (Some card_b) (Some file_header) ≡ []
  pub read_failed : lines_to_failure empty_book file_header ≡ line_of Cut ∷ []
  pub no_capture : lines_of_files (Some card_b) None ≡ line_of Unreadable ∷ []
  pub bad_card : (capture : Option (List ℕ)) → lines_of_files (Some (0 ∷ [])) capture ≡ line_of Unreadable ∷ []
