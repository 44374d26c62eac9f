-- The lines that the programs write, as their bytes: docs/RULES.md, 'The program', 'A known id', 'A recording' and 'Two files side by side'.
use Rattle.std.specs.Prelude.{◌≡◌, cond, List, [], ◌∷◌, ◌++◌, ℕ, ◌+◌, ◌≤◌, leb, length}
use Rattle.octets.specs.Bytes.{written}
use Rattle.refusal.specs.Number.{number_of}
use Rattle.verdict_line.specs.Decimal.{decimal}
use Rattle.verdict_line.specs.declared.Line.{Line}
use Rattle.verdict_line.specs.declared.Line.TheVariants.{Accepted, Refused, Unreadable, Skipped, Cut, Known, Unknown}

-- the bytes of the longest line
abbrev pub line_most : ℕ
line_most = 63

-- and with a number in front
abbrev pub numbered_most : ℕ
numbered_most = 84

-- the bytes of the longest word in front of a number of twenty digits and a newline
abbrev pub word_most : ℕ
word_most = 42

-- `accepted row `, a space at the end
abbrev pub accepted_row : List ℕ
accepted_row = 97 ∷ 99 ∷ 99 ∷ 101 ∷ 112 ∷ 116 ∷ 101 ∷ 100 ∷ 32 ∷ 114 ∷ 111 ∷ 119 ∷ 32 ∷ []

-- ` counter `, a space at each end
abbrev pub counter_word : List ℕ
counter_word = 32 ∷ 99 ∷ 111 ∷ 117 ∷ 110 ∷ 116 ∷ 101 ∷ 114 ∷ 32 ∷ []

-- `refused `, a space at the end
abbrev pub refused_word : List ℕ
refused_word = 114 ∷ 101 ∷ 102 ∷ 117 ∷ 115 ∷ 101 ∷ 100 ∷ 32 ∷ []

-- `unreadable` and a newline
abbrev pub unreadable_line : List ℕ
unreadable_line = 117 ∷ 110 ∷ 114 ∷ 101 ∷ 97 ∷ 100 ∷ 97 ∷ 98 ∷ 108 ∷ 101 ∷ 10 ∷ []

-- `skipped` and a newline
abbrev pub skipped_line : List ℕ
skipped_line = 115 ∷ 107 ∷ 105 ∷ 112 ∷ 112 ∷ 101 ∷ 100 ∷ 10 ∷ []

-- `cut` and a newline
abbrev pub cut_line : List ℕ
cut_line = 99 ∷ 117 ∷ 116 ∷ 10 ∷ []

-- `known row `, a space at the end
abbrev pub known_row : List ℕ
known_row = 107 ∷ 110 ∷ 111 ∷ 119 ∷ 110 ∷ 32 ∷ 114 ∷ 111 ∷ 119 ∷ 32 ∷ []

-- `unknown` and a newline
abbrev pub unknown_line : List ℕ
unknown_line = 117 ∷ 110 ∷ 107 ∷ 110 ∷ 111 ∷ 119 ∷ 110 ∷ 10 ∷ []

abbrev pub space : List ℕ
space = 32 ∷ []

abbrev pub newline : List ℕ
newline = 10 ∷ []

unfoldable pub accepted_line : ℕ → ℕ → List ℕ
accepted_line row counter = accepted_row ++ decimal row ++ counter_word ++ decimal counter ++ newline

-- a word and a number
unfoldable pub worded_line : List ℕ → ℕ → List ℕ
worded_line word number = word ++ decimal number ++ newline

abbrev pub line_of : Line → List ℕ
line_of (Accepted row counter) = accepted_line row counter
line_of (Refused refusal) = worded_line refused_word (number_of refusal)
line_of Unreadable = unreadable_line
line_of Skipped = skipped_line
line_of Cut = cut_line
line_of (Known row) = worded_line known_row row
line_of Unknown = unknown_line

-- with a record's number in front
unfoldable pub numbered_line : ℕ → Line → List ℕ
numbered_line number line = decimal number ++ space ++ line_of line

-- the bytes of s stand from a place on, the others as they were, and r is the place after them
pub record PutAt (old : List ℕ) (at : ℕ) (s new : List ℕ) (r : ℕ) : Type 0 where
  pub place : r ≡ at + length s
  pub content : new ≡ written at s old

-- what is returned for bytes at a place of so much room: the place after them, or the same place where they don't fit behind it
unfoldable pub place_with : (at : ℕ) → List ℕ → (room : ℕ) → ℕ
place_with at s room = cond (leb (at + length s) room) (at + length s) at

-- the room afterwards: the bytes from that place on and the rest as it was, or nothing changed where they don't fit
unfoldable pub out_with : (at : ℕ) → List ℕ → List ℕ → List ℕ
out_with at s out = cond (leb (at + length s) (length out)) (written at s out) out

-- bytes put so, no more than a line's
pub record Made (old : List ℕ) (at : ℕ) (s new : List ℕ) (r : ℕ) : Type 0 where
  pub put : PutAt old at s new r
  pub most : length s ≤ line_most

-- what is returned for a line and so much room: the line's size, or 0 where it does not fit
unfoldable pub size_in : List ℕ → ℕ → ℕ
size_in line room = cond (leb (length line) room) (length line) 0

-- the room afterwards: the line at its front and the rest as it was, or nothing changed where it does not fit
unfoldable pub out_after : List ℕ → List ℕ → List ℕ
out_after line out = cond (leb (length line) (length out)) (written 0 line out) out
