-- The state of a card read in pieces as C has it, in parts: the tail's bytes and five numbers. Where the form's or the phase's is none, each entry answers 1
-- and leaves every part as it was.
use Rattle.std.specs.Prelude.{◌≡◌, cond, List, ℕ, Err, None, Option, Result, Some}
use Rattle.refusal.specs.Number.{number_of, result_number, given_or}
use Rattle.refusal.specs.declared.Refusal.TheVariants.{UnsoundBook}
use Rattle.key_book.specs.Book.{Book}
use Rattle.card_pieces.specs.declared.Reader.{Reader}
use Rattle.card_pieces.specs.Numbers.{form_number, form_numbered, phase_number, phase_numbered, are_numbers}
use Rattle.card_pieces.specs.Pieces.{feed_of, feed_spare, finish_of, finish_book}
use Rattle.refusal.specs.declared.Refusal.{Refusal}

-- the state of these parts, where they are those of one
unfoldable pub state_of : List ℕ → (kept read low form phase : ℕ) → Option Reader
state_of tail kept read low form phase =
    cond (are_numbers form phase)
    (Some (record { tail = tail; kept = kept; rows = read; low = low; form = form_numbered form; phase = phase_numbered phase }))
    None

-- a state that is stored in parts is the state that comes of them
abbrev pub StateBack : Type 0
StateBack =
    (st : Reader) → state_of st.tail st.kept st.rows st.low (form_number st.form) (phase_number st.phase) ≡ Some st

-- after a piece: the number, the spare rows, and each part
abbrev pub fed_number : Book → Option Reader → List ℕ → ℕ
fed_number b None piece = number_of UnsoundBook
fed_number b (Some st) piece = result_number (feed_of b st piece)

abbrev pub fed_spare : Book → Option Reader → List ℕ → Book
fed_spare b None piece = b
fed_spare b (Some st) piece = feed_spare b st piece

abbrev pub tail_place : Book → Option Reader → List ℕ → (was : List ℕ) → List ℕ
tail_place b None piece was = was
tail_place b (Some st) piece was = (given_or st (feed_of b st piece)).tail

abbrev pub kept_place : Book → Option Reader → List ℕ → (was : ℕ) → ℕ
kept_place b None piece was = was
kept_place b (Some st) piece was = (given_or st (feed_of b st piece)).kept

abbrev pub read_place : Book → Option Reader → List ℕ → (was : ℕ) → ℕ
read_place b None piece was = was
read_place b (Some st) piece was = (given_or st (feed_of b st piece)).rows

abbrev pub low_place : Book → Option Reader → List ℕ → (was : ℕ) → ℕ
low_place b None piece was = was
low_place b (Some st) piece was = (given_or st (feed_of b st piece)).low

abbrev pub form_place : Book → Option Reader → List ℕ → (was : ℕ) → ℕ
form_place b None piece was = was
form_place b (Some st) piece was = form_number (given_or st (feed_of b st piece)).form

abbrev pub phase_place : Book → Option Reader → List ℕ → (was : ℕ) → ℕ
phase_place b None piece was = was
phase_place b (Some st) piece was = phase_number (given_or st (feed_of b st piece)).phase

-- at the end: the answer, and the book
abbrev pub ended_answer : Book → Option Reader → Book → Result ℕ Refusal
ended_answer b None c = Err UnsoundBook
ended_answer b (Some st) c = finish_of b st c

abbrev pub ended_book : Book → Option Reader → Book → Book
ended_book b None c = c
ended_book b (Some st) c = finish_book b st c
