-- `key_book::keys_sized` meets its contract: each turn keeps that the flag is whether the lengths passed are key lengths (proofs/Below.antt, Steps.antt).
use Rattle.std.proofs.Common.{◌≡◌}
use Rattle.key_book.specs.Book.{all_below}
use Rattle.key_book.proofs.Steps.{keyed}
use Rattle.key_book.proofs.keys_sized.Given as goal

abbrev pub invariant-loop-length : goal.invariant-loop-length
invariant-loop-length l = l.sized ≡ all_below (keyed l.length-items) l.length-index
