-- `book_card::put_record` meets its contract: the fields, written one after another, are the record (proofs/Puts.antt).
use native.Mathlib.Omega.{arith}
use Rattle.book_card.proofs.Puts.{row_written}
use Rattle.book_card.proofs.records.put_record.Goals as goal

pub returns : goal.returns
returns c =
    let record_is = row_written c.args.form _ _ _ _ _ _ _ _ _ _ _ _ _ _ c.requires.key_in_bounds (omega arith) (omega arith) (omega arith) (omega arith)
    c.put_little.ensures (rw c.row_kind.ensures at c.put_little-2.ensures) c.put_little-3.ensures
    (rw c.mark_size.ensures at c.put_little-4.ensures) c.put_little-5.ensures c.put_little-6.ensures
    c.copy.ensures in
    (omega arith, record_is)
