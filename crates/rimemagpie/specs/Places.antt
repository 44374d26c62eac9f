-- The places of results that C lends, digests and MACs apart: each holds the result after an answer, and after a refusal what it held before, but for the
-- number of looks, which 10 comes with too.
use Rattle.std.specs.Prelude.{ℕ, ◌*◌, length, Err, Ok, Result}
use Rattle.key_book.specs.Limits.{slot_size}
use Rattle.key_book.specs.Book.{Book, key_of}
use Rattle.key_book.specs.declared.Sought.{Sought}
use Rattle.key_book.specs.declared.Sought.TheVariants.{Stands, Missing, Unsized}
use Rattle.delayed_auth.specs.declared.Accepted.{Accepted}
use Rattle.forcerenew.specs.declared.Heeded.{Heeded}
use Rattle.refusal.specs.declared.Refusal.{Refusal}

-- after a check: the row, and the counter
abbrev pub row_place : (was : ℕ) → Result Accepted Refusal → ℕ
row_place was (Ok a) = a.row
row_place was (Err r) = was

abbrev pub counter_place : (was : ℕ) → Result Accepted Refusal → ℕ
counter_place was (Ok a) = a.counter
counter_place was (Err r) = was

-- after the key of a message: where the key starts in the store, and its bytes
abbrev pub offset_place : (was : ℕ) → Result ℕ Refusal → ℕ
offset_place was (Ok k) = slot_size * k
offset_place was (Err r) = was

abbrev pub size_place : Book → (was : ℕ) → Result ℕ Refusal → ℕ
size_place b was (Ok k) = length (key_of b k)
size_place b was (Err r) = was

-- after a seal: the counter
abbrev pub sealed_place : (was : ℕ) → Result ℕ Refusal → ℕ
sealed_place was (Ok counter) = counter
sealed_place was (Err r) = was

-- after reading a card: the rows; after writing or moving one: its size; after a comparison: how many bytes the lines have
abbrev pub number_place : (was : ℕ) → Result ℕ Refusal → ℕ
number_place was (Err r) = was
number_place was (Ok n) = n

-- after a search by halving: the row, and how many ids were looked at, which is known with 10 too
abbrev pub sought_place : (was : ℕ) → Sought → ℕ
sought_place was (Stands k looks) = k
sought_place was (Missing looks) = was
sought_place was Unsized = was

abbrev pub looks_place : (was : ℕ) → Sought → ℕ
looks_place was (Stands k looks) = looks
looks_place was (Missing looks) = looks
looks_place was Unsized = was

-- after a judgement by a nonce: option 90's type, and the counter
abbrev pub kind_place : (was : ℕ) → Result Heeded Refusal → ℕ
kind_place was (Ok a) = a.kind
kind_place was (Err r) = was

abbrev pub judged_place : (was : ℕ) → Result Heeded Refusal → ℕ
judged_place was (Ok a) = a.counter
judged_place was (Err r) = was
