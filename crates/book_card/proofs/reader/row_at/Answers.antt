-- `book_card::row_at` meets its contract: each end is one case of `row_by` (proofs/Fronts.antt).
use native.Mathlib.Omega.{arith}
use Prim.Native.Nat.{◌+◌, ◌-◌}
use Rattle.book_card.proofs.Fronts.{row_marked, row_there}
use mathlib.Core.Path.{ap}
use mathlib.Core.Bool.{not}
use Rattle.book_card.proofs.reader.row_at.Goals as goal

pub returns-then-not-mark_fits : goal.returns-then-not-mark_fits
returns-then-not-mark_fits c =
    row_marked c.args.form c.args.card.now c.args.at c.args.size (omega arith) (omega arith) _ _ (c.args.at + c.received_at.result)
    c.mark_in-mark.ensures (omega (arith, c.received_at.ensures)) c.little-received.ensures.0 _
    c.mark_fits.ensures (ap not c.if-not-mark_fits.true)

pub returns : goal.returns
returns c =
    row_there c.args.form c.args.card.now c.args.at c.args.size (omega arith) (omega arith) _ _ (c.args.at + c.received_at.result)
    c.mark_in-mark.ensures (omega (arith, c.received_at.ensures)) c.little-received.ensures.0 _ c.mark_fits.ensures
    (ap not c.if-not-mark_fits.false) _ c.little.ensures.0 _ (c.args.at + c.sent_at.result) (omega (arith, c.sent_at.ensures)) c.little-2.ensures.0
    (c.key_at-before_key.result - 2) (omega arith)
