-- `book_card::put_close` meets its contract: the fields, written one after another, are the close (proofs/Puts.antt).
use Rattle.book_card.proofs.Puts.{close_written}
use Rattle.book_card.proofs.records.put_close.Goals as goal

pub returns : goal.returns
returns c =
    close_written _ _ _ _ _ _ c.requires c.put_little.ensures c.put_little-2.ensures c.put_little-3.ensures
