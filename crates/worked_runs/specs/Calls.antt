-- Three calls as a run of demand 3: a check, a seal, and the check again. No server rows are lent.
use Rattle.std.specs.Prelude.{ℕ, List, [], ◌∷◌}
use Rattle.refusal.specs.Number.{result_number}
use Rattle.key_book.specs.Book.{Book}
use Rattle.forcerenew.specs.Rows.{servers_of}
use Rattle.demands.specs.Demand3.{Step, check, seal, State, Answer, checked, wrote, judged}

-- a book with no server rows
abbrev pub alone : Book → State
alone b = record { book = b; servers = servers_of [] [] [] }

unfoldable pub again : List ℕ → ℕ → List ℕ → List Step
again message id buffer = check message ∷ seal id buffer ∷ check message ∷ []

-- the number of a step's answer
abbrev pub answer_number : Answer → ℕ
answer_number (checked v) = result_number v
answer_number (wrote s buffer) = result_number s
answer_number (judged v) = result_number v

-- the buffer of the first seal among the answers
abbrev pub buffer_of : List Answer → List ℕ
buffer_of [] = []
buffer_of (checked v ∷ rest) = buffer_of rest
buffer_of (wrote s buffer ∷ rest) = buffer
buffer_of (judged v ∷ rest) = buffer_of rest
