-- `book_card::add_close` meets its contract: it tests whether the close has its place (proofs/Puts.antt).
use borrow.Author.Rules.{rules}
use native.Mathlib.Omega.{arith}
use mathlib.Core.Path.{sym, ◌∙◌}
use Rattle.book_card.proofs.Puts.{close_past, close_put_lem}
use Rattle.book_card.proofs.records.add_close.Goals as goal

pub returns-then-room-at : goal.returns-then-room-at
returns-then-room-at c = close_past _ _ _ (omega arith)

pub returns-then-room-at-lt-CLOSE_SIZE : goal.returns-then-room-at-lt-CLOSE_SIZE
returns-then-room-at-lt-CLOSE_SIZE c = close_past _ _ _ (omega arith)

pub returns : goal.returns
returns c = c.put_close.ensures ∙ sym (close_put_lem _ _ _ (search rules))
