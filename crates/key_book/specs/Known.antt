-- What is proved of the search by halving, each as a closed statement: docs/RULES.md, 'Is an id known?'. The proofs are in proofs/Halves.antt and
-- proofs/Looks.antt.
use Rattle.std.specs.Prelude.{◌≡◌, ◌↔◌, List, ℕ, ◌^◌, ◌≤◌, ◌<◌, length, get_or, take, None, Option, Some}
use Rattle.key_book.specs.Book.{row_in}
use Rattle.key_book.specs.Halving.{Halves, Taken, halved, sought_as, known_of, looks_of, binary_digits}
use Rattle.key_book.specs.declared.Sought.TheVariants.{Stands, Missing, Unsized}

-- the answer is what the rules' steps come to, on any list
pub record KnownSays : Type 0 where
  pub stands : (ids : List ℕ) (count id k looks : ℕ) → (known_of ids count id ≡ Stands k looks) ↔ (Taken ids count × Halves ids id 0 count (Some k) looks)
  pub missing : (ids : List ℕ) (count id looks : ℕ) → (known_of ids count id ≡ Missing looks) ↔ (Taken ids count × Halves ids id 0 count None looks)
  pub unsized : (ids : List ℕ) (count id : ℕ) → (known_of ids count id ≡ Unsized) ↔ (Taken ids count → ⊥)

-- a row that is given lies below the count and in the list, and holds the id; an id was looked at
pub record Holds (ids : List ℕ) (count id k looks : ℕ) : Type 0 where
  pub used : k < count
  pub lent : k < length ids
  pub named : get_or ids k 0 ≡ id
  pub looked : 0 < looks

-- on any list
abbrev pub RowHolds : Type 0
RowHolds = (ids : List ℕ) (count id k looks : ℕ) → known_of ids count id ≡ Stands k looks → Holds ids count id k looks

-- the first n ids ascend strictly
abbrev pub Ascends : List ℕ → ℕ → Type 0
Ascends ids n = (j k : ℕ) → j < k → k < n → get_or ids j 0 < get_or ids k 0

-- on ids that ascend strictly the answer and the row are those of the search over all rows, both ways
pub record AscendingFinds : Type 0 where
  pub same : (ids : List ℕ) (count id : ℕ) → Taken ids count → Ascends ids count
      → known_of ids count id ≡ sought_as (halved ids count id).looks (row_in ids count id)
  pub row : (ids : List ℕ) (count id k : ℕ) → Taken ids count → Ascends ids count
      → ((looks : ℕ) × (known_of ids count id ≡ Stands k looks)) ↔ (row_in ids count id ≡ Some k)
  pub no_row : (ids : List ℕ) (count id : ℕ) → Taken ids count → Ascends ids count
      → ((looks : ℕ) × (known_of ids count id ≡ Missing looks)) ↔ (row_in ids count id ≡ None)

-- the number of binary digits of n is the least d with n below 2^d
abbrev pub DigitsSay : Type 0
DigitsSay = (n d : ℕ) → (binary_digits n ≤ d) ↔ (n < 2 ^ d)

-- as many looks as the count has binary digits are enough on any list, and are needed where all ids are above the one asked for; whatever is lent, there are
-- at most 11
pub record FewLooks : Type 0 where
  pub by_digits : (ids : List ℕ) (count id looks : ℕ) (row : Option ℕ) → Halves ids id 0 count row looks → looks ≤ binary_digits count
  pub reached : (ids : List ℕ) (count id looks : ℕ) (row : Option ℕ) → ((k : ℕ) → k < count → id < get_or ids k 0)
      → Halves ids id 0 count row looks → looks ≡ binary_digits count
  pub at_most_11 : (ids : List ℕ) (count id : ℕ) → looks_of (known_of ids count id) ≤ 11

-- the answer depends on the ids in use alone, where the lists are taken
abbrev pub KnownDepends : Type 0
KnownDepends = (ids others : List ℕ) (count id : ℕ) → Taken ids count → Taken others count → take count ids ≡ take count others
    → known_of ids count id ≡ known_of others count id
