-- What is proved of the line's definitions, each as a closed statement. The proofs are in proofs/Says.antt.
use Rattle.std.specs.Prelude.{◌≡◌, List, [], ◌∷◌, ◌++◌, ℕ, ◌-◌, ◌/◌, ◌%◌, ◌^◌, ◌≤◌, ◌<◌, length}
use Rattle.refusal.specs.declared.Refusal.{Refusal}
use Rattle.verdict_line.specs.Decimal.{digit, decimal}
use Rattle.verdict_line.specs.Line.{line_most, numbered_most, line_of, numbered_line, size_in}
use Rattle.verdict_line.specs.declared.Line.{Line}
use Rattle.verdict_line.specs.declared.Line.TheVariants.{Accepted, Refused, Unreadable, Skipped, Cut, Known, Unknown}

-- decimal is the usual recursion, at every number
pub record DecimalSays : Type 0 where
  pub one : (n : ℕ) → n < 10 → decimal n ≡ digit n ∷ []
  pub more : (n : ℕ) → 10 ≤ n → decimal n ≡ decimal (n / 10) ++ (digit (n % 10) ∷ [])

-- what is written never passes the room
abbrev pub SizeWithin : Type 0
SizeWithin = (line : List ℕ) (room : ℕ) → size_in line room ≤ room

-- no line of a row and a counter of 64 bits is longer than `line_most`, nor with a number of 64 bits in front than `numbered_most`; and one has as many
-- bytes
pub record LongestLine : Type 0 where
  pub accepted_most : (row counter : ℕ) → row < 2 ^ 64 → counter < 2 ^ 64 → length (line_of (Accepted row counter)) ≤ line_most
  pub refused_most : (r : Refusal) → length (line_of (Refused r)) ≤ line_most
  pub unreadable_most : length (line_of Unreadable) ≤ line_most
  pub skipped_most : length (line_of Skipped) ≤ line_most
  pub cut_most : length (line_of Cut) ≤ line_most
  pub known_most : (row : ℕ) → row < 2 ^ 64 → length (line_of (Known row)) ≤ line_most
  pub unknown_most : length (line_of Unknown) ≤ line_most
  pub numbered_most_lem : (number : ℕ) (line : Line) → number < 2 ^ 64 → length (line_of line) ≤ line_most → length (numbered_line number line) ≤ numbered_most
  pub reached : length (line_of (Accepted (2 ^ 64 - 1) (2 ^ 64 - 1))) ≡ line_most
  pub numbered_reached : length (numbered_line (2 ^ 64 - 1) (Accepted (2 ^ 64 - 1) (2 ^ 64 - 1))) ≡ numbered_most
