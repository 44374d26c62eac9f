-- Numbers in so many bytes: the lowest byte first (RFC 1321, and the card), or the highest first (network order: RFC 2132, section 2).
use Rattle.std.specs.Prelude.{ℕ, zero, suc, ◌+◌, ◌*◌, ◌/◌, ◌%◌, List, [], ◌∷◌, ◌++◌, get_or, take, drop}

-- ---- the lowest byte first

-- a number in so many bytes; of a larger one its lowest bytes
unfoldable pub le : ℕ → ℕ → List ℕ
le zero x = []
le (suc n) x = x % 256 ∷ le n (x / 256)

-- the number of such bytes
unfoldable pub value : List ℕ → ℕ
value [] = 0
value (b ∷ bs) = b + 256 * value bs

-- the number at an offset, in so many bytes
unfoldable pub little_at : List ℕ → ℕ → ℕ → ℕ
little_at s at width = value (take width (drop at s))

-- ---- the highest byte first

unfoldable pub be : ℕ → ℕ → List ℕ
be zero x = []
be (suc n) x = be n (x / 256) ++ (x % 256 ∷ [])

unfoldable pub big_at : List ℕ → ℕ → ℕ → ℕ
big_at s at zero = 0
big_at s at (suc n) = get_or s (at + n) 0 + 256 * big_at s at n
