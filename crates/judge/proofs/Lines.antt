-- The line from what the card gave: where it stopped there, that line, whatever the message file is; else the message's, by the book that was loaded.
use Prim.Native.Nat.{ℕ}
use mathlib.Core.Path.{◌≡◌, sym, ap, ◌∙◌}
use mathlib.Core.List.{List}
use Rattle.key_book.specs.Book.{Book, book_of}
use Rattle.verdict_line.specs.declared.Line.{Line}
use Rattle.file_verdict.specs.Files.{rows_loaded, book_loaded, message_line, empty_book}
use Rattle.file_verdict.proofs.Says.{line_stopped, line_rows}
use Rattle.judge.specs.Program.{CardLine}
use Rattle.std.specs.Prelude.{Err, None, Ok, Option, Result, ℕ}

pub card_stopped : (b : Book) {loaded : Result ℕ Line} {line : Line} → loaded ≡ Err line → CardLine loaded b line
card_stopped b {line = line} m card e k = (None, sym (line_stopped card None line (sym m ∙ e)))

pub card_rows : (ids lengths store marks received sent : List ℕ) {loaded : Result ℕ Line} {n : ℕ} → loaded ≡ Ok n → (message : Option (List ℕ)) {line : Line}
    → line ≡ message_line (book_of ids lengths store marks received sent n) message
    → CardLine loaded (book_of ids lengths store marks received sent (rows_loaded loaded)) line
card_rows ids lengths store marks received sent {n = n} m message l card e b =
    let q : book_of ids lengths store marks received sent n ≡ book_loaded empty_book card = rw m at b in
    (message, l ∙ ap (λ (b : Book). message_line b message) q ∙ sym (line_rows card message n (sym m ∙ e)))
