-- Lists of bytes: what a byte is, bytes written over a list, zeros behind a list, a list's first bytes, and whether two lists are the same.
use Rattle.std.specs.Prelude.{ℕ, zero, suc, ◌+◌, ◌-◌, ◌<◌, Bool, true, false, ◌&&◌, List, [], ◌∷◌, ◌++◌, length, take, drop, replicate, eqb}

-- every element is a byte
abbrev pub Bytes : List ℕ → Type 0
Bytes [] = Unit {0}
Bytes (x ∷ xs) = (x < 256) × Bytes xs

-- a list with new elements from an offset on, as many as there are; the others as they stood
unfoldable pub written : ℕ → List ℕ → List ℕ → List ℕ
written at new old = take at old ++ (new ++ drop (at + length new) old)

abbrev pub zeros : ℕ → List ℕ
zeros n = replicate n 0

-- with zeros behind it, up to so many bytes
unfoldable pub filled : ℕ → List ℕ → List ℕ
filled size s = s ++ zeros (size - length s)

-- whether the second list starts with the first
abbrev pub starts : List ℕ → List ℕ → Bool
starts [] ys = true
starts (x ∷ xs) [] = false
starts (x ∷ xs) (y ∷ ys) = eqb y x && starts xs ys

-- whether two lists of bytes are the same
unfoldable pub same_bytes : List ℕ → List ℕ → Bool
same_bytes [] [] = true
same_bytes [] (y ∷ ys) = false
same_bytes (x ∷ xs) [] = false
same_bytes (x ∷ xs) (y ∷ ys) = eqb x y && same_bytes xs ys

-- so many numbers, each one above the last, for examples
abbrev pub up_from : ℕ → ℕ → List ℕ
up_from first zero = []
up_from first (suc count) = first ∷ up_from (suc first) count
