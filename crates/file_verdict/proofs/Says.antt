-- The closed statements of specs/Laws.antt. `LineSays`: what the card gives (proofs/Cards.antt), and then the message, which is checked by its book.
use Prim.Native.Nat.{ℕ, ◌≤◌}
use mathlib.Core.Path.{◌≡◌, refl, sym, ap, ◌∙◌}
use mathlib.Core.List.{List}
use lib.ListN.{length}
use Rattle.refusal.specs.declared.Refusal.TheVariants.{MalformedCard}
use Rattle.key_book.specs.Book.{Book}
use Rattle.delayed_auth.specs.Check.{check_of}
use Rattle.book_card.specs.Card.{Row, CardFor}
use Rattle.book_card.specs.Reading.{loaded}
use Rattle.verdict_line.specs.declared.Line.{Line}
use Rattle.verdict_line.specs.declared.Line.TheVariants.{Refused, Unreadable}
use Rattle.file_verdict.specs.Files.{file_most}
use Rattle.file_verdict.specs.Files.{loaded_of, book_loaded, message_line, verdict_line, empty_book, line_after, line_for}
use Rattle.file_verdict.specs.Laws.{ContentSays, LineSays}
use Rattle.file_verdict.proofs.Contents.{no_file, held, not_held, readable_none, readable_fits, readable_too_large}
use Rattle.file_verdict.proofs.Cards.{card_missing, card_too_large, card_malformed, card_loaded}
use Rattle.file_verdict.proofs.Reading.{read_failed, read_end, read_more, read_too_much}
use Rattle.file_verdict.proofs.Stages.{message_none, message_checked}
use Rattle.std.specs.Prelude.{Err, None, Ok, Option, Result, Some}
use Rattle.delayed_auth.specs.declared.Accepted.{Accepted}
use Rattle.refusal.specs.declared.Refusal.{Refusal}

pub content_says : ContentSays
content_says = record {
  failed = λ have room. sym (read_failed have room);
  at_end_lem = λ have room. sym (read_end have room);
  goes_on = λ have room n p h. sym (read_more have room n p h);
  too_many = λ have room n p h. sym (read_too_much have room n p h);
  no_file = no_file;
  held = held;
  not_held = not_held;
}

-- the line by what is loaded
pub line_stopped : (card message : Option (List ℕ)) (line : Line) → Err line ≡ loaded_of empty_book card → line_for card message ≡ line
unfolding line_for
line_stopped card message line e = sym (ap (line_after card message) e)

pub line_rows : (card message : Option (List ℕ)) (n : ℕ) → Ok n ≡ loaded_of empty_book card
    → line_for card message ≡ message_line (book_loaded empty_book card) message
unfolding line_for
line_rows card message n e = sym (ap (line_after card message) e)

module _ (card : List ℕ) (rows : List Row) (c : CardFor rows card) where
  by_rows : (message : Option (List ℕ)) → line_for (Some card) message ≡ message_line (loaded empty_book rows) message
  by_rows message =
      let l = card_loaded card rows c in
      line_rows (Some card) message (length rows) l.0 ∙ ap (λ (b : Book). message_line b message) l.1

  by_check : (message : List ℕ) → length message ≤ file_most → (v : Result Accepted Refusal) → check_of (loaded empty_book rows) message ≡ v
      → line_for (Some card) (Some message) ≡ verdict_line v
  by_check message h v e = by_rows (Some message) ∙ sym (message_checked (loaded empty_book rows) (Some message) (readable_fits message h) refl (sym e))

pub line_says : LineSays
line_says = record {
  card_missing = λ message. line_stopped None message Unreadable card_missing;
  card_too_large = λ card h message. line_stopped (Some card) message Unreadable (card_too_large card h);
  card_malformed = λ card h b f message. line_stopped (Some card) message (Refused MalformedCard) (card_malformed card h b f);
  message_missing = λ card rows c. by_rows card rows c None ∙ sym (message_none (loaded empty_book rows) None readable_none).0;
  message_too_large = λ card rows c message h.
      by_rows card rows c (Some message) ∙ sym (message_none (loaded empty_book rows) (Some message) (readable_too_large message h)).0;
  accepted = λ card rows c message h row counter e. by_check card rows c message h _ e;
  refused = λ card rows c message h r e. by_check card rows c message h _ e;
}
