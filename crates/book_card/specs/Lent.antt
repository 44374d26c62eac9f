-- A row as it is lent: its fields, and its key where it stands.
use Rattle.book_card.specs.Card.{Row, row_with}
use Rattle.book_card.specs.declared.LentRow.{LentRow}

-- the row that the lent fields and bytes are
abbrev pub row_lent : LentRow → Row
row_lent r = row_with r.id r.mark r.received r.sent r.key.now
