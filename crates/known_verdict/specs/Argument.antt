-- The argument of the program `known`: that it is the only one, and the id that its characters are in decimal. docs/RULES.md, 'A known id'.
use Rattle.std.specs.Prelude.{Bool, true, cond, ◌&&◌, List, [], ◌∷◌, ℕ, ◌+◌, ◌-◌, ◌*◌, ◌^◌, leb, ltb, eqb, length, take, None, Option, Some}
use Rattle.verdict_line.specs.Decimal.{digit_zero}

-- every id is below this
abbrev pub ids_limit : ℕ
ids_limit = 2 ^ 32

-- the character 9, the last of the digits
abbrev pub digit_nine : ℕ
digit_nine = 57

-- ---- digits

abbrev pub is_digit : ℕ → Bool
is_digit c = leb digit_zero c && leb c digit_nine

-- all characters are digits
unfoldable pub digits_only : List ℕ → Bool
digits_only [] = true
digits_only (c ∷ text) = is_digit c && digits_only text

-- a number, and one digit more behind it
abbrev pub digit_behind : ℕ → ℕ → ℕ
digit_behind n c = n * 10 + (c - digit_zero)

-- the value of digits behind a number that was read before them
unfoldable pub value_behind : ℕ → List ℕ → ℕ
value_behind n [] = n
value_behind n (c ∷ text) = value_behind (digit_behind n c) text

-- ---- the id

-- the id that digits behind a number are, if they are digits and their value is below the limit
unfoldable pub id_behind : ℕ → List ℕ → Option ℕ
id_behind n text = cond (digits_only text && ltb (value_behind n text) ids_limit) (Some (value_behind n text)) None

-- the id that an argument is: there is at least one digit
unfoldable pub id_in : List ℕ → Option ℕ
id_in [] = None
id_in (c ∷ text) = id_behind 0 (c ∷ text)

-- ---- the argument

-- what a program is started with: its own name and one argument
abbrev pub words_wanted : ℕ
words_wanted = 2

-- the only argument of a program that is started with so many words, of which so many bytes stand at a room's front: none where there is not one argument, or
-- the room has not so many bytes
unfoldable pub argument_in : (words size : ℕ) → List ℕ → Option (List ℕ)
argument_in words size room = cond (eqb words words_wanted && leb size (length room)) (Some (take size room)) None

abbrev pub argument_of : Option (List ℕ) → Option ℕ
argument_of None = None
argument_of (Some text) = id_in text
