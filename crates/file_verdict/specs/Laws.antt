-- What reads and rooms mean, and what the line is for any two files, in the rules' words (docs/RULES.md, 'The program'): closed statements, proved in
-- proofs/Says.antt.
use Rattle.std.specs.Prelude.{ℕ, ◌+◌, ◌≤◌, ◌<◌, ◌≡◌, List, length, take, Err, None, Option, Some}
use Rattle.refusal.specs.declared.Refusal.{Refusal}
use Rattle.refusal.specs.declared.Refusal.TheVariants.{MalformedCard}
use Rattle.delayed_auth.specs.Check.{check_of}
use Rattle.octets.specs.Bytes.{Bytes}
use Rattle.book_card.specs.Card.{Row, CardFor, NoCard}
use Rattle.book_card.specs.Reading.{loaded}
use Rattle.verdict_line.specs.declared.Line.TheVariants.{Accepted, Refused, Unreadable}
use Rattle.file_verdict.specs.declared.Progress.TheVariants.{Ended, More}
use Rattle.file_verdict.specs.Files.{file_most, file_in, after_read, empty_book, line_for}
use Rattle.delayed_auth.specs.Check.{accepting}

pub record ContentSays : Type 0 where
  -- one read: it failed; it was at the file's end; it gave bytes; or it answers more than it had room for, as no read does
  pub failed : (have room : ℕ) → after_read have room None ≡ Ended None
  pub at_end_lem : (have room : ℕ) → after_read have room (Some 0) ≡ Ended (Some have)
  pub goes_on : (have room n : ℕ) → 0 < n → have + n ≤ room → after_read have room (Some n) ≡ More (have + n)
  pub too_many : (have room n : ℕ) → 0 < n → room < have + n → after_read have room (Some n) ≡ Ended None
  -- a room holds the file's bytes at its front
  pub no_file : (room : List ℕ) → file_in room None ≡ None
  pub held : (room : List ℕ) (n : ℕ) → n ≤ length room → file_in room (Some n) ≡ Some (take n room)
  pub not_held : (room : List ℕ) (n : ℕ) → length room < n → file_in room (Some n) ≡ None

pub record LineSays : Type 0 where
  -- the card is missing or above the limit, or its bytes are no card: whatever stands in the message's place
  pub card_missing : (message : Option (List ℕ)) → line_for None message ≡ Unreadable
  pub card_too_large : (card : List ℕ) → file_most < length card → (message : Option (List ℕ)) → line_for (Some card) message ≡ Unreadable
  pub card_malformed : (card : List ℕ) → length card ≤ file_most → Bytes card → NoCard card
      → (message : Option (List ℕ)) → line_for (Some card) message ≡ Refused MalformedCard
  -- the card is good, and the message is missing or above the limit
  pub message_missing : (card : List ℕ) (rows : List Row) → CardFor rows card → line_for (Some card) None ≡ Unreadable
  pub message_too_large : (card : List ℕ) (rows : List Row) → CardFor rows card → (message : List ℕ) → file_most < length message
      → line_for (Some card) (Some message) ≡ Unreadable
  -- both are good files: what the check of the message by those rows answers
  pub accepted : (card : List ℕ) (rows : List Row) → CardFor rows card → (message : List ℕ) → length message ≤ file_most
      → (row counter : ℕ) → check_of (loaded empty_book rows) message ≡ accepting row counter → line_for (Some card) (Some message) ≡ Accepted row counter
  pub refused : (card : List ℕ) (rows : List Row) → CardFor rows card → (message : List ℕ) → length message ≤ file_most
      → (r : Refusal) → check_of (loaded empty_book rows) message ≡ Err r → line_for (Some card) (Some message) ≡ Refused r
