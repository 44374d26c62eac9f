-- What is written where a read fails, and for any two files: what the card gives (file_verdict, proofs/Cards.antt), and then the capture's lines.
use Prim.Native.Nat.{ℕ}
use mathlib.Core.Path.{◌≡◌, sym, ap, ◌∙◌}
use mathlib.Core.List.{List, [], ◌∷◌}
use Rattle.key_book.specs.Book.{Book}
use Rattle.verdict_line.specs.declared.Line.{Line}
use Rattle.verdict_line.specs.declared.Line.TheVariants.{Unreadable}
use Rattle.verdict_line.specs.Line.{line_of}
use Rattle.file_verdict.specs.Files.{loaded_of, empty_book}
use Rattle.file_verdict.proofs.Cards.{card_missing, card_too_large, card_malformed, card_loaded}
use Rattle.capture.specs.Records.{Records}
use Rattle.capture.proofs.Records.{records_say}
use Rattle.capture_verdict.specs.Lines.{lines_in, lines_of, cut_after, lines_to_failure, lines_on, lines_of_files}
use Rattle.capture_verdict.specs.Laws.{FailureSays, LinesSay}
use Rattle.std.specs.Prelude.{Err, None, Option, Some}

stopped : (card capture : Option (List ℕ)) (line : Line) → Err line ≡ loaded_of empty_book card → lines_of_files card capture ≡ line_of Unreadable ∷ []
unfolding lines_of_files
stopped card capture line e = sym (ap (lines_on card capture) e)

pub failure_says : FailureSays
unfolding lines_to_failure
failure_says = record {
  behind_header = λ b front records e. ap (λ (r : Option Records). lines_in b (cut_after r)) e;
  within_header = λ b front h. ap (λ (r : Option Records). lines_in b (cut_after r)) (records_say.short_header front h);
  other_header = λ b header rest h e. ap (λ (r : Option Records). lines_in b (cut_after r)) (records_say.other_header header rest h e);
}

pub lines_say : LinesSay
unfolding lines_of_files
lines_say = record {
  card_missing = λ capture. stopped None capture _ card_missing;
  card_too_large = λ card h capture. stopped (Some card) capture _ (card_too_large card h);
  card_malformed = λ card h b f capture. stopped (Some card) capture _ (card_malformed card h b f);
  capture_missing = λ card rows c. sym (ap (lines_on (Some card) None) (card_loaded card rows c).0);
  both_there = λ card rows c capture.
      let l = card_loaded card rows c in
      sym (ap (lines_on (Some card) (Some capture)) l.0) ∙ ap (λ (b : Book). lines_of b capture) l.1;
}
