-- `book_card::Rows::next` meets its contract: a row that stands at a place lies within the card (proofs/Turns.antt).
use mathlib.Core.Path.{sym, ◌∙◌}
use Prim.Native.Nat.{◌+◌, ◌≤◌}
use native.Mathlib.Omega.{arith}
use borrow.Author.Rules.{rules}
use lib.ListN.{length}
use Rattle.book_card.specs.Layout.{key_at}
use Rattle.book_card.proofs.Turns.{row_inside}
use Rattle.book_card.proofs.reader.RowsIterator.next.Goals as goal
use Rattle.book_card.proofs.reader.RowsIterator.next.Goals.{In-Row}

-- the row in front lies within the card
its : (c : In-Row) → let s = c.args.self.now in s.at + key_at s.form + c.in-Row.size ≤ length s.card.now
its c = let s = c.args.self.now in row_inside s.form s.card.now s.at _ _ _ _ _ (sym c.in-Row.is ∙ c.front_at.ensures)

pub overflow_add-key_from : goal.overflow_add-key_from
overflow_add-key_from c = omega (arith, c.key_at.ensures, its (goal.at.overflow_add-key_from c).In-Row)

pub overflow_add-next : goal.overflow_add-next
overflow_add-next c = omega (arith, c.key_at.ensures, its (goal.at.overflow_add-next c).In-Row)

pub slice_bounds-result-end : goal.slice_bounds-result-end
slice_bounds-result-end c = omega (arith, c.key_at.ensures, its (goal.at.slice_bounds-result-end c).In-Row)

pub returns-clause-goes : goal.returns-clause-goes
returns-clause-goes c = search (rules, c.key_at.ensures, its (goal.at.returns-clause-goes c).In-Row)
