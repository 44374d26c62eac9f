-- The card's and the message's decisions, a law for each end: the file may not be judged, or its bytes are handed on to reading or check.
use mathlib.Core.Path.{◌≡◌, refl, sym, ap, ◌∙◌}
use mathlib.Core.List.{List}
use Prim.Native.Nat.{ℕ}
use Rattle.key_book.specs.Book.{Book}
use Rattle.delayed_auth.specs.Check.{check_of, marks_after, received_after}
use Rattle.book_card.specs.Reading.{read_of, read_book}
use Rattle.verdict_line.specs.declared.Line.{Line}
use Rattle.verdict_line.specs.declared.Line.TheVariants.{Unreadable}
use Rattle.file_verdict.specs.Files.{readable, loaded_by, loaded_of, book_loaded}
use Rattle.file_verdict.specs.Files.{verdict_line, message_line, marks_left, received_left}
use Rattle.std.specs.Prelude.{Err, None, Option, Result, Some, ℕ}
use Rattle.delayed_auth.specs.declared.Accepted.{Accepted}
use Rattle.refusal.specs.declared.Refusal.{Refusal}

module _ (b : Book) (file : Option (List ℕ)) where
  -- the file may not be judged: the line says so, and what was lent is as it was
  module _ (e : readable file ≡ None) where
    pub card_none : (Err Unreadable ≡ loaded_of b file) × (b ≡ book_loaded b file)
    unfolding loaded_of book_loaded
    card_none = rw e (refl, refl)

    pub message_none : (Unreadable ≡ message_line b file) × ((b.marks ≡ marks_left b file) × (b.received ≡ received_left b file))
    unfolding message_line marks_left received_left
    message_none = rw e (refl, (refl, refl))

  -- it is handed on: by what was made of the answer
  module _ {s : List ℕ} (e : readable file ≡ Some s) where
    pub card_read : {answer met : Result ℕ Refusal} → answer ≡ met → answer ≡ read_of b s → loaded_by met ≡ loaded_of b file
    unfolding loaded_of
    card_read m a = rw e (ap loaded_by (sym m ∙ a))

    pub book_read : {after : Book} → after ≡ read_book b s → after ≡ book_loaded b file
    unfolding book_loaded
    book_read a = rw e a

    pub message_checked : {verdict : Result Accepted Refusal} {line : Line} → line ≡ verdict_line verdict → verdict ≡ check_of b s
        → line ≡ message_line b file
    unfolding message_line
    message_checked m v = rw e (m ∙ ap verdict_line v)

    pub row_marked : {after : List ℕ} → after ≡ marks_after (check_of b s) b.marks → after ≡ marks_left b file
    unfolding marks_left
    row_marked a = rw e a

    pub counter_stored : {after : List ℕ} → after ≡ received_after (check_of b s) b.received → after ≡ received_left b file
    unfolding received_left
    counter_stored a = rw e a
