-- A number in decimal, as ASCII: the digits of its tenth part and then its last digit. 0 is the one character 0, and no other number begins with it.
use Rattle.std.specs.Prelude.{cond, List, [], ◌∷◌, ◌++◌, ℕ, zero, suc, ◌+◌, ◌/◌, ◌%◌, ltb}

-- the character 0; the other digits follow it
abbrev pub digit_zero : ℕ
digit_zero = 48

abbrev pub digit : ℕ → ℕ
digit d = digit_zero + d

-- the number's last digits, at most `most` of them
unfoldable pub digits_to : ℕ → ℕ → List ℕ
digits_to zero n = []
digits_to (suc most) n = cond (ltb n 10) (digit n ∷ []) (digits_to most (n / 10) ++ (digit (n % 10) ∷ []))

-- all of its digits: one more than the number itself is always enough, and `DecimalSays` (Laws.antt) has the recursion without the count
unfoldable pub decimal : ℕ → List ℕ
decimal n = digits_to (suc n) n
