-- The line that the program makes of what it reads: docs/RULES.md, 'The program'.
use Rattle.std.specs.Prelude.{ℕ, ◌≡◌, List, Option, Result}
use Rattle.key_book.specs.Book.{Book}
use Rattle.verdict_line.specs.declared.Line.{Line}
use Rattle.file_verdict.specs.Files.{loaded_of, book_loaded, empty_book, line_for}

-- For every card that gives what was loaded, the line is the one for this card and what stands in the message's place, which no contract knows: of a
-- read nothing is assumed but how many bytes it says it gave. A card that is unreadable or malformed fixes the line, whatever the message file is
-- (file_verdict, `LineSays`).
abbrev pub CardLine : Result ℕ Line → Book → Line → Type 0
CardLine loaded b line =
    (card : Option (List ℕ)) → loaded ≡ loaded_of empty_book card → b ≡ book_loaded empty_book card → (message : Option (List ℕ)) ×
    (line ≡ line_for card message)
