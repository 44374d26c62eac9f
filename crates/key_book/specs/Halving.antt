-- Is an id known? The search by halving, on any list of ids, ascending or not: docs/RULES.md, 'Is an id known?'.
-- `Halves` is the rules' steps one by one and `halved` computes them; specs/Known.antt states that they agree.
use Rattle.std.specs.Prelude.{◌≡◌, Bool, cond, ◌&&◌, List, ℕ, zero, suc, ◌+◌, ◌/◌, ◌≤◌, ◌<◌, leb, ltb, eqb, length, get_or, None, Option, Some}
use Rattle.refusal.specs.Number.{number_of, done}
use Rattle.refusal.specs.declared.Refusal.TheVariants.{UnsoundBook, UnknownSecret}
use Rattle.key_book.specs.Limits.{room_most}
use Rattle.key_book.specs.declared.Sought.{Sought}
use Rattle.key_book.specs.declared.Sought.TheVariants.{Stands, Missing, Unsized}

-- ---- the steps

-- the middle of the rows from low on and before high
abbrev pub middle : (low high : ℕ) → ℕ
middle low high = (low + high) / 2

-- Of the rows from low on and before high: none is left, and nothing is looked at; or the middle one is looked at and holds the id, or holds a larger one
-- and what lies before it is kept, or a smaller one and what lies after it is. `row` is what the search comes to and `looks` how many ids were looked at.
pub data Halves (ids : List ℕ) (id : ℕ) : (low high : ℕ) (row : Option ℕ) (looks : ℕ) → Type 0 where
  ended : {low high : ℕ} → high ≤ low → Halves ids id low high None 0
  met : {low high : ℕ} → low < high → get_or ids (middle low high) 0 ≡ id → Halves ids id low high (Some (middle low high)) 1
  before : {low high looks : ℕ} {row : Option ℕ} → low < high → id < get_or ids (middle low high) 0
      → Halves ids id low (middle low high) row looks → Halves ids id low high row (looks + 1)
  after : {low high looks : ℕ} {row : Option ℕ} → low < high → get_or ids (middle low high) 0 < id
      → Halves ids id (middle low high + 1) high row looks → Halves ids id low high row (looks + 1)

-- ---- computed

-- what a search comes to, and how many ids were looked at
pub record Search : Type 0 where
  pub row : Option ℕ
  pub looks : ℕ

abbrev pub searched : Option ℕ → ℕ → Search
searched row looks = record { row = row; looks = looks }

abbrev pub one_more : Search → Search
one_more s = searched s.row (s.looks + 1)

-- the steps, at most `most` of them: as many as there are rows left are always enough
unfoldable pub halved_in : List ℕ → (id most low high : ℕ) → Search
halved_in ids id zero low high = searched None 0
halved_in ids id (suc most) low high =
    cond (ltb low high)
    (cond (eqb (get_or ids (middle low high) 0) id)
    (searched (Some (middle low high)) 1)
    (one_more (cond (ltb id (get_or ids (middle low high) 0))
    (halved_in ids id most low (middle low high))
    (halved_in ids id most (middle low high + 1) high))))
    (searched None 0)

-- the search in the first `count` rows
unfoldable pub halved : List ℕ → (count id : ℕ) → Search
halved ids count id = halved_in ids id count 0 count

-- ---- the entry

-- what is taken: a list of at most `room_most` ids, and a count that is not above it
pub record Taken (ids : List ℕ) (count : ℕ) : Type 0 where
  pub room : length ids ≤ room_most
  pub counted : count ≤ length ids

-- `Taken`, computed
unfoldable pub taken : List ℕ → ℕ → Bool
taken ids count = leb (length ids) room_most && leb count (length ids)

-- the answer for a row, or none, and so many looks
abbrev pub sought_as : (looks : ℕ) → Option ℕ → Sought
sought_as looks None = Missing looks
sought_as looks (Some k) = Stands k looks

-- the answer of `known`
unfoldable pub known_of : List ℕ → (count id : ℕ) → Sought
known_of ids count id = cond (taken ids count) (sought_as (halved ids count id).looks (halved ids count id).row) Unsized

-- its number
abbrev pub sought_number : Sought → ℕ
sought_number (Stands k looks) = done
sought_number (Missing looks) = number_of UnknownSecret
sought_number Unsized = number_of UnsoundBook

-- how many ids were looked at: none where the list is not taken
abbrev pub looks_of : Sought → ℕ
looks_of (Stands k looks) = looks
looks_of (Missing looks) = looks
looks_of Unsized = 0

-- ---- the size of a number

-- how many binary digits a number has, looking at no more than `most` halves of it
unfoldable pub digits_in : (most n : ℕ) → ℕ
digits_in zero n = 0
digits_in (suc most) n = cond (eqb n 0) 0 (digits_in most (n / 2) + 1)

-- how many binary digits a number has: none for 0, else one more than its half
unfoldable pub binary_digits : ℕ → ℕ
binary_digits n = digits_in n n
