use borrow.Author.Rules.{rules}
use native.Mathlib.Omega.{arith}
use Rattle.octets.proofs.Elements.{bytes_of}
use Rattle.book_card.proofs.Walks.{counted_rows}
use Rattle.book_card.proofs.Moves.{copying_start, copying_small, copying_room, copying_turn, copying_close, copying_end}
use Rattle.book_card.proofs.moving.put_moved.Goals as goal

pub loop-row-init : goal.loop-row-init
loop-row-init c =
    let q = counted_rows _ _ c.args.card.formed (bytes_of c.args.card.bytes.now c.args.card.plain) _ c.args.card.counted in
    copying_start _ _ _ _ _ q c.requires _ (record { card_is = search rules; form_is = search rules }) (search rules)

pub put_record-to-requires : goal.put_record-to-requires
put_record-to-requires c =
    let steps = c.in-Some.ensures.steps in
    record { key_len_bound = copying_small c.loop-row.invariant _ _ steps; key_in_bounds = copying_room c.loop-row.invariant _ _ steps }

pub overflow_add-to : goal.overflow_add-to
overflow_add-to c =
    let room = copying_room c.loop-row.invariant _ _ c.in-Some.ensures.steps in
    omega (arith, c.put_record-to.ensures.0, c.loop-row.invariant.rowing.writing.long, c.well_formed)

pub loop-row-preserved : goal.loop-row-preserved
loop-row-preserved c =
    copying_turn c.loop-row.invariant _ _ c.in-Some.ensures.steps _ _ c.put_record-to.ensures.0 c.put_record-to.ensures.1

pub put_close-requires : goal.put_close-requires
put_close-requires c = copying_close c.loop-row.invariant _ c.in-None.ensures.steps

pub returns : goal.returns
returns c = copying_end c.loop-row.invariant _ c.in-None.ensures.steps _ c.put_close.ensures
