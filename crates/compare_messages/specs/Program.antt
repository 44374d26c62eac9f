-- What the program makes of what it reads: docs/RULES.md, 'Two files side by side'.
use Rattle.std.specs.Prelude.{◌≡◌, List, ℕ, length, Option}
use Rattle.verdict_line.specs.Line.{size_in, out_after}
use Rattle.comparison_verdict.specs.Report.{report_for}

-- What is written to a room is that for what stands in the two files' places, which no contract knows: of a read nothing is assumed but how many bytes it says
-- it gave. That it is that for what was read is said where that is known, by the equations of `write_compared` (comparison_verdict).
pub record FilesReported (before after : List ℕ) (size : ℕ) : Type 0 where
  pub first : Option (List ℕ)
  pub second : Option (List ℕ)
  pub long : size ≡ size_in (report_for first second) (length before)
  pub content : after ≡ out_after (report_for first second) before
