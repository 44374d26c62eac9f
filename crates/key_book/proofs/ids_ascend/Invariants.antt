-- `key_book::ids_ascend` meets its contract: each turn keeps that the flag is whether the ids passed are below the next (proofs/Below.antt, Steps.antt).
use Rattle.std.proofs.Common.{◌≡◌, ◌≤◌, ◌-◌}
use Rattle.key_book.specs.Book.{all_below}
use Rattle.key_book.proofs.Steps.{rises}
use Rattle.key_book.proofs.ids_ascend.Given as goal

abbrev pub invariant-loop-k : goal.invariant-loop-k
invariant-loop-k l = (l.k - 1 ≤ l.rows - 1) × (l.ascend ≡ all_below (rises l.ids) (l.k - 1))
