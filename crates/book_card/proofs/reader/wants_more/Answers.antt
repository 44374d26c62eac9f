-- `book_card::wants_more` meets its contract: each end is one case of `wants` on the bytes from here on (proofs/Wants.antt).
use borrow.Author.Rules.{rules}
use Rattle.book_card.proofs.Wants.{at_past, at_cut, at_whole, at_short}
use Rattle.book_card.proofs.reader.wants_more.Goals as goal

pub returns-then-card-at : goal.returns-then-card-at
returns-then-card-at c = at_past c.args.card.now c.args.at (search rules)

pub returns-then-left-lt-LENGTH_SIZE : goal.returns-then-left-lt-LENGTH_SIZE
returns-then-left-lt-LENGTH_SIZE c = at_cut c.args.card.now c.args.at (search rules)

pub returns-then-size-left : goal.returns-then-size-left
returns-then-size-left c = at_whole _ _ (search rules) _ c.little-size.ensures.0 (search rules)

pub returns : goal.returns
returns c = at_short _ _ (search rules) _ c.little-size.ensures.0 (search rules) _ c.is_length.ensures
