-- Arguments at the edges of what an id is, as ASCII, and the line for book B's cards (card_laws, specs/Examples.antt: one row, id 7). The proof is
-- proofs/Computed.antt.
use Rattle.std.specs.Prelude.{◌≡◌, List, [], ◌∷◌, ◌++◌, ℕ, None, Option, Some}
use Rattle.refusal.specs.declared.Refusal.TheVariants.{MalformedCard}
use Rattle.card_laws.specs.Examples.{card_b, new_card_b}
use Rattle.verdict_line.specs.declared.Line.TheVariants.{Refused, Unreadable, Known, Unknown}
use Rattle.known_verdict.specs.Argument.{id_in}
use Rattle.known_verdict.specs.Asked.{known_line}

pub record IdExamples : Type 0 where
  -- `7`, `007`, `0`
  pub seven : id_in (55 ∷ []) ≡ Some 7
  pub zeros_before : id_in (48 ∷ 48 ∷ 55 ∷ []) ≡ Some 7
  pub zero_id : id_in (48 ∷ []) ≡ Some 0
  -- `4294967295`, the largest; `4294967296`; `42949672950`
  pub largest : id_in (52 ∷ 50 ∷ 57 ∷ 52 ∷ 57 ∷ 54 ∷ 55 ∷ 50 ∷ 57 ∷ 53 ∷ []) ≡ Some 4294967295
  pub too_large : id_in (52 ∷ 50 ∷ 57 ∷ 52 ∷ 57 ∷ 54 ∷ 55 ∷ 50 ∷ 57 ∷ 54 ∷ []) ≡ None
  pub digit_more : id_in (52 ∷ 50 ∷ 57 ∷ 52 ∷ 57 ∷ 54 ∷ 55 ∷ 50 ∷ 57 ∷ 53 ∷ 48 ∷ []) ≡ None
  -- nothing, `7x`, `-1`, `7` and a space; the character before `0` and the one behind `9`
  pub nothing : id_in [] ≡ None
  pub letter : id_in (55 ∷ 120 ∷ []) ≡ None
  pub sign : id_in (45 ∷ 49 ∷ []) ≡ None
  pub space_behind : id_in (55 ∷ 32 ∷ []) ≡ None
  pub before_zero : id_in (47 ∷ []) ≡ None
  pub behind_nine : id_in (58 ∷ []) ≡ None

pub record KnownExamples : Type 0 where
  -- the old card and the new one: id 7 stands in row 0, and there is no id 8
  pub in_row : known_line (Some (55 ∷ [])) (Some card_b) ≡ Known 0
  pub new_card : known_line (Some (55 ∷ [])) (Some new_card_b) ≡ Known 0
  pub not_there : known_line (Some (56 ∷ [])) (Some card_b) ≡ Unknown
  pub bad_card : (x : ℕ) → known_line (Some (55 ∷ [])) (Some (card_b ++ (x ∷ []))) ≡ Refused MalformedCard
  pub no_card : known_line (Some (55 ∷ [])) None ≡ Unreadable
  -- `7x`, and no argument, whatever stands in the card's place
  pub bad_argument : (card : Option (List ℕ)) → known_line (Some (55 ∷ 120 ∷ [])) card ≡ Unreadable
  pub no_argument : (card : Option (List ℕ)) → known_line None card ≡ Unreadable
