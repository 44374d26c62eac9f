-- `key_book::marks_heard` meets its contract: each turn keeps that the flag is whether the rows passed are heard (proofs/Below.antt, Steps.antt).
use Rattle.std.proofs.Common.{◌≡◌}
use Rattle.key_book.specs.Book.{all_below}
use Rattle.key_book.proofs.Steps.{is_heard}
use Rattle.key_book.proofs.marks_heard.Given as goal

abbrev pub invariant-loop-mark : goal.invariant-loop-mark
invariant-loop-mark l = l.heard ≡ all_below (is_heard l.mark-items) l.mark-index
