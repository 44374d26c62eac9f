-- The lines of bench example 9 (docs/RULES.md, 'Bench examples'), of a recording and of a known id as ASCII, and `decimal` at its edges. The proof is
-- proofs/Computed.antt.
use Rattle.std.specs.Prelude.{◌≡◌, [], ◌∷◌}
use Rattle.refusal.specs.declared.Refusal.TheVariants.{Replay}
use Rattle.verdict_line.specs.Decimal.{decimal}
use Rattle.verdict_line.specs.Line.{line_of, numbered_line}
use Rattle.verdict_line.specs.declared.Line.TheVariants.{Accepted, Refused, Unreadable, Skipped, Cut, Known, Unknown}

pub record LineExamples : Type 0 where
  -- `accepted row 0 counter 11` and a newline
  pub accepted_11 : line_of (Accepted 0 11)
      ≡ 97 ∷ 99 ∷ 99 ∷ 101 ∷ 112 ∷ 116 ∷ 101 ∷ 100 ∷ 32 ∷ 114 ∷ 111 ∷ 119 ∷ 32 ∷ 48 ∷ 32 ∷ 99 ∷ 111 ∷ 117 ∷ 110 ∷ 116 ∷ 101 ∷ 114 ∷ 32 ∷ 49 ∷ 49 ∷ 10 ∷ []
  -- `refused 11` and a newline
  pub refused_11 : line_of (Refused Replay) ≡ 114 ∷ 101 ∷ 102 ∷ 117 ∷ 115 ∷ 101 ∷ 100 ∷ 32 ∷ 49 ∷ 49 ∷ 10 ∷ []
  -- `unreadable` and a newline
  pub unreadable : line_of Unreadable ≡ 117 ∷ 110 ∷ 114 ∷ 101 ∷ 97 ∷ 100 ∷ 97 ∷ 98 ∷ 108 ∷ 101 ∷ 10 ∷ []
  -- `1 skipped`, `20 refused 11` and `cut`, each and a newline
  pub first_skipped : numbered_line 1 Skipped ≡ 49 ∷ 32 ∷ 115 ∷ 107 ∷ 105 ∷ 112 ∷ 112 ∷ 101 ∷ 100 ∷ 10 ∷ []
  pub twentieth_refused : numbered_line 20 (Refused Replay) ≡ 50 ∷ 48 ∷ 32 ∷ 114 ∷ 101 ∷ 102 ∷ 117 ∷ 115 ∷ 101 ∷ 100 ∷ 32 ∷ 49 ∷ 49 ∷ 10 ∷ []
  pub cut : line_of Cut ≡ 99 ∷ 117 ∷ 116 ∷ 10 ∷ []
  -- `known row 0` and `unknown`, each and a newline
  pub known_0 : line_of (Known 0) ≡ 107 ∷ 110 ∷ 111 ∷ 119 ∷ 110 ∷ 32 ∷ 114 ∷ 111 ∷ 119 ∷ 32 ∷ 48 ∷ 10 ∷ []
  pub unknown : line_of Unknown ≡ 117 ∷ 110 ∷ 107 ∷ 110 ∷ 111 ∷ 119 ∷ 110 ∷ 10 ∷ []
  -- 0 is one digit; zeros inside and at the end stay
  pub zero_digit : decimal 0 ≡ 48 ∷ []
  pub inner_zeros : decimal 1020 ≡ 49 ∷ 48 ∷ 50 ∷ 48 ∷ []
