-- From the argument and the card to the line that the program `known` writes: docs/RULES.md, 'A known id'. The argument is its bytes, or none where there is
-- none, more than one, or none that can be held; the card's file is its bytes, or none where it is missing or can't be read.
-- `known_line` is the whole decision. The argument is judged before the card is looked at.
use Rattle.std.specs.Prelude.{List, ℕ, Err, None, Ok, Option, Result, Some}
use Rattle.refusal.specs.declared.Refusal.TheVariants.{UnsoundBook}
use Rattle.key_book.specs.declared.Sought.{Sought}
use Rattle.key_book.specs.declared.Sought.TheVariants.{Stands, Missing, Unsized}
use Rattle.key_book.specs.Halving.{known_of}
use Rattle.verdict_line.specs.declared.Line.{Line}
use Rattle.verdict_line.specs.declared.Line.TheVariants.{Refused, Unreadable, Known, Unknown}
use Rattle.file_verdict.specs.Files.{loaded_of, book_loaded, empty_book}
use Rattle.known_verdict.specs.Argument.{argument_of}

-- the line for what the search comes to; the ids of a card are never too many for it (specs/Laws.antt, `KnownLineSays`)
abbrev pub sought_line : Sought → Line
sought_line (Stands k looks) = Known k
sought_line (Missing looks) = Unknown
sought_line Unsized = Refused UnsoundBook

-- the line for an id, by what the card gave and the ids that were loaded from it
abbrev pub id_line : (id : ℕ) → List ℕ → Result ℕ Line → Line
id_line id ids (Err line) = line
id_line id ids (Ok n) = sought_line (known_of ids n id)

-- the line for what the argument is
abbrev pub asked_line : Option (List ℕ) → Option ℕ → Line
asked_line card None = Unreadable
asked_line card (Some id) = id_line id (book_loaded empty_book card).ids (loaded_of empty_book card)

-- the line for an argument and a card
unfoldable pub known_line : (argument card : Option (List ℕ)) → Line
known_line argument card = asked_line card (argument_of argument)
