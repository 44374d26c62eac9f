-- `book_card::is_length` meets its contract: the lengths of both forms' rows are one stretch (proofs/Wants.antt).
use borrow.Author.Rules.{rules}
use mathlib.Core.Path.{refl}
use Rattle.book_card.proofs.Wants.{length_close, length_short, length_row}
use Rattle.book_card.proofs.reader.is_length.Goals as goal

pub returns-then-size : goal.returns-then-size
returns-then-size c = length_close _ (search rules)

pub returns-then-size-key_at : goal.returns-then-size-key_at
returns-then-size-key_at c = length_short _ (search rules) _ c.key_at.ensures (search rules)

pub returns : goal.returns
returns c = length_row _ (search rules) _ c.key_at.ensures (search rules) _ refl
