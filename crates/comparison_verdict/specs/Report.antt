-- What the program `compare_messages` writes for its two files: docs/RULES.md, 'Two files side by side'. A file is its bytes, or none where it is missing or
-- can't be read.
use Rattle.std.specs.Prelude.{ℕ, List, Err, None, Ok, Option, Result, Some}
use Rattle.verdict_line.specs.declared.Line.TheVariants.{Refused, Unreadable}
use Rattle.verdict_line.specs.Line.{line_of}
use Rattle.file_verdict.specs.Files.{readable}
use Rattle.comparison.specs.Entry.{comparison_most, text_for, compare_of}
use Rattle.refusal.specs.declared.Refusal.{Refusal}

-- by what the comparison answers: the lines of the two messages, or the one line of the refusal
abbrev pub report_by : List ℕ → Result ℕ Refusal → List ℕ
report_by text (Err r) = line_of (Refused r)
report_by text (Ok size) = text

-- of two messages, in a room that their lines always fit (comparison, specs/Laws.antt, `LinesFit`)
unfoldable pub report_of : (first second : List ℕ) → List ℕ
report_of first second = report_by (text_for first second) (compare_of first second comparison_most)

-- of what may be judged of the two files
abbrev pub report_from : (first second : Option (List ℕ)) → List ℕ
report_from None second = line_of Unreadable
report_from (Some first) None = line_of Unreadable
report_from (Some first) (Some second) = report_of first second

-- of any two files
unfoldable pub report_for : (first second : Option (List ℕ)) → List ℕ
report_for first second = report_from (readable first) (readable second)
