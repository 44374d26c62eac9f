-- What an argument is, and what the line is for any argument and card, in the rules' words (docs/RULES.md, 'A known id'): closed statements, proved in
-- proofs/Scanning.antt, proofs/Numerals.antt and proofs/Says.antt.
use Rattle.std.specs.Prelude.{ℕ, ◌^◌, ◌≤◌, ◌<◌, ◌≡◌, ◌↔◌, ◌≢◌, List, ◌++◌, length, get_or, take, replicate, None, Option, Some}
use Rattle.refusal.specs.declared.Refusal.TheVariants.{UnsoundBook, MalformedCard}
use Rattle.octets.specs.Bytes.{Bytes}
use Rattle.book_card.specs.Card.{Row, empty_row, CardFor, NoCard}
use Rattle.verdict_line.specs.Decimal.{digit_zero, decimal}
use Rattle.verdict_line.specs.declared.Line.TheVariants.{Refused, Unreadable, Known, Unknown}
use Rattle.file_verdict.specs.Files.{file_most}
use Rattle.known_verdict.specs.Argument.{id_in, argument_in}
use Rattle.known_verdict.specs.Asked.{known_line}

-- a text is an id: the decimal digits of it, behind any number of zeros
pub record IsId (text : List ℕ) (id : ℕ) : Type 0 where
  pub below : id < 2 ^ 32
  pub before : ℕ
  pub digits : text ≡ replicate before digit_zero ++ decimal id

-- and it is none
abbrev pub NotId : List ℕ → Type 0
NotId text = (id : ℕ) → IsId text id → ⊥

-- an argument is read as an id exactly where it is that id, so `decimal` is read back
pub record IdSays : Type 0 where
  pub read : (text : List ℕ) (id : ℕ) → (id_in text ≡ Some id) ↔ IsId text id
  pub not_read : (text : List ℕ) → (id_in text ≡ None) ↔ NotId text
  pub written : (id : ℕ) → id < 2 ^ 32 → id_in (decimal id) ≡ Some id

-- the program's name and one argument are two words, and a room holds the argument at its front
pub record ArgumentSays : Type 0 where
  pub held : (size : ℕ) (room : List ℕ) → size ≤ length room → argument_in 2 size room ≡ Some (take size room)
  pub not_held : (size : ℕ) (room : List ℕ) → length room < size → argument_in 2 size room ≡ None
  pub not_one : (words size : ℕ) (room : List ℕ) → words ≢ 2 → argument_in words size room ≡ None

pub record KnownLineSays : Type 0 where
  -- there is no argument, or it is no id: whatever stands in the card's place
  pub no_argument : (card : Option (List ℕ)) → known_line None card ≡ Unreadable
  pub no_id : (text : List ℕ) → NotId text → (card : Option (List ℕ)) → known_line (Some text) card ≡ Unreadable
  -- it is an id, and the card is missing or above the limit, or its bytes are no card
  pub card_missing : (text : List ℕ) (id : ℕ) → IsId text id → known_line (Some text) None ≡ Unreadable
  pub card_too_large : (text : List ℕ) (id : ℕ) → IsId text id → (card : List ℕ) → file_most < length card → known_line (Some text) (Some card) ≡ Unreadable
  pub card_malformed : (text : List ℕ) (id : ℕ) → IsId text id → (card : List ℕ) → length card ≤ file_most → Bytes card → NoCard card
      → known_line (Some text) (Some card) ≡ Refused MalformedCard
  -- the card is good, and row k of it has the id, or none has; and no card, good or not, gives more ids than are searched
  pub known : (text : List ℕ) (id : ℕ) → IsId text id → (card : List ℕ) (rows : List Row) → CardFor rows card → (k : ℕ) → k < length rows
      → (get_or rows k empty_row).id ≡ id → known_line (Some text) (Some card) ≡ Known k
  pub unknown : (text : List ℕ) (id : ℕ) → IsId text id → (card : List ℕ) (rows : List Row) → CardFor rows card
      → ((k : ℕ) → k < length rows → (get_or rows k empty_row).id ≢ id) → known_line (Some text) (Some card) ≡ Unknown
  pub never_unsound : (argument card : Option (List ℕ)) → known_line argument card ≢ Refused UnsoundBook
