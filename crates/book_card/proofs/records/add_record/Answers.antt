-- `book_card::add_record` meets its contract: it tests whether the record has its place (proofs/Puts.antt).
use borrow.Author.Rules.{rules}
use native.Mathlib.Omega.{arith}
use mathlib.Core.Path.{sym, ◌∙◌}
use Rattle.book_card.specs.Card.{Row}
use Rattle.book_card.specs.Lent.{row_lent}
use Rattle.book_card.proofs.Forms.{mark_small}
use Rattle.book_card.proofs.Puts.{record_long, record_past, record_put_lem}
use Rattle.book_card.proofs.records.add_record.Goals as goal
use Rattle.book_card.proofs.records.add_record.Goals.{Start}

abbrev row : Start → Row
row s = row_lent s.args.row

pub returns-then-row-gt-SLOT_SIZE : goal.returns-then-row-gt-SLOT_SIZE
returns-then-row-gt-SLOT_SIZE c = record_long c.args.form (row (goal.at.returns-then-row-gt-SLOT_SIZE c).Start) c.args.at c.args.room.now (search rules)

pub returns-then-room-at : goal.returns-then-room-at
returns-then-room-at c =
    record_past c.args.form (row (goal.at.returns-then-room-at c).Start) c.args.at c.args.room.now (search rules) (omega arith)

pub overflow_add-key_at : goal.overflow_add-key_at
overflow_add-key_at c = omega (arith, c.key_at.ensures, mark_small c.args.form)

pub returns-then-room-at-2 : goal.returns-then-room-at-2
returns-then-room-at-2 c =
    record_past c.args.form (row (goal.at.returns-then-room-at-2 c).Start) c.args.at c.args.room.now (search rules) (omega arith)

pub returns : goal.returns
returns c =
    c.put_record.ensures.1 ∙ sym (record_put_lem c.args.form (row (goal.at.returns c).Start) c.args.at c.args.room.now (search rules) (omega arith))
