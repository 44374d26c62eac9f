use borrow.Author.Rules.{rules}
use Rattle.octets.proofs.Elements.{bytes_of}
use Rattle.book_card.proofs.Walks.{counted_rows}
use Rattle.book_card.proofs.Moves.{hearing_start, hearing_fails, hearing_turn, hearing_end}
use Rattle.book_card.proofs.moving.all_heard.Goals as goal

pub loop-row-init : goal.loop-row-init
loop-row-init c =
    let q = counted_rows _ _ c.args.card.formed (bytes_of c.args.card.bytes.now c.args.card.plain) _ c.args.card.counted in
    hearing_start _ _ _ q _ (record { card_is = search rules; form_is = search rules }) (search rules)

pub returns-then-row-ne-HEARD : goal.returns-then-row-ne-HEARD
returns-then-row-ne-HEARD c = hearing_fails c.loop-row.invariant _ _ c.in-Some.ensures.steps c.if-row-ne-HEARD.true

pub loop-row-preserved : goal.loop-row-preserved
loop-row-preserved c = hearing_turn c.loop-row.invariant _ _ c.in-Some.ensures.steps c.if-row-ne-HEARD.false

pub returns : goal.returns
returns c = hearing_end c.loop-row.invariant _ c.in-None.ensures.steps
