-- The line that the program makes of what it is asked for: docs/RULES.md, 'A known id'.
use Rattle.std.specs.Prelude.{◌≡◌, List, ℕ, Option}
use Rattle.verdict_line.specs.declared.Line.{Line}
use Rattle.known_verdict.specs.Asked.{asked_line}

-- The line is the one for what stands in the card's place, which no contract knows: of a read nothing is assumed but how many bytes it says it gave. Where
-- no id is asked for it is `unreadable`, whatever stands there. That it is the line for what was loaded is said where that is known, by the equation of
-- `known_line` (known_verdict).
abbrev pub SomeCard : Option ℕ → Line → Type 0
SomeCard asked line = (card : Option (List ℕ)) × (line ≡ asked_line card asked)
