-- Counters never wrap (docs/RULES.md, 'Check'): after 2^64 - 1 is accepted, on a row heard or not, that row accepts no more. In every run, whatever
-- stands between; messages are lists of bytes. The one proof is proofs/LastCounter.antt.
use Rattle.std.specs.Prelude.{ℕ, ◌<◌, ◌≡◌, ◌≢◌, List, Some, slice_get}
use Rattle.octets.specs.Bytes.{Bytes}
use Rattle.key_book.specs.Book.{Sound}
use Rattle.delayed_auth.specs.Seal.{counter_most}
use Rattle.demands.specs.Demand3.{Step, check, State, checked, answers}
use Rattle.delayed_auth.specs.Check.{accepting}

abbrev pub LastCounter : Type 0
LastCounter =
    (b : State) → Sound b.book → (run : List Step) (i j : ℕ) (m n : List ℕ) (k c : ℕ) → i < j
    → slice_get run i ≡ Some (check m) → slice_get (answers b run) i ≡ Some (checked (accepting k counter_most))
    → slice_get run j ≡ Some (check n) → Bytes n
    → slice_get (answers b run) j ≢ Some (checked (accepting k c))
