-- `book_card::set_row` meets its contract: what its stores leave is the row set (proofs/Loads.antt).
use Rattle.book_card.proofs.Loads.{row_set}
use Rattle.book_card.proofs.reading.set_row.Goals as goal

pub returns-clause-rows : goal.returns-clause-rows
returns-clause-rows c =
    row_set _ _ c.requires.within _ c.requires.key_len_bound _ _ _ _ _ _ c.copy.ensures c.clear.ensures
