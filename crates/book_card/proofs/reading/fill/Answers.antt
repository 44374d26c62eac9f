use borrow.Author.Rules.{rules}
use Rattle.octets.proofs.Elements.{bytes_of}
use Rattle.book_card.proofs.Walks.{counted_rows}
use Rattle.book_card.proofs.Fills.{filling_start, filling_end, row_within, row_small, filling_turn}
use Rattle.book_card.proofs.reading.fill.Goals as goal

pub loop-place-init : goal.loop-place-init
loop-place-init c = (
  filling_start _ _ _ _ (counted_rows _ _ c.args.card.formed (bytes_of c.args.card.bytes.now c.args.card.plain) _ c.args.card.counted)
      c.requires.sized c.requires.rows_in_bounds _ (record { card_is = search rules; form_is = search rules }) (search rules) _ (search rules),
  search rules,
)

pub set_row-requires : goal.set_row-requires
set_row-requires c =
    let steps = c.in-Some.ensures.steps in
    record {
      within = row_within c.loop-place.invariant.0 _ _ steps.0 _ (search rules);
      key_len_bound = row_small c.loop-place.invariant.0 _ _ steps.0;
    }

pub loop-place-preserved : goal.loop-place-preserved
loop-place-preserved c = (
  filling_turn c.loop-place.invariant.0 _ _ c.in-Some.ensures.steps.0 _ (search rules) _ (search rules) _ c.set_row.ensures.rows,
  search rules,
)

pub returns-clause-rows : goal.returns-clause-rows
returns-clause-rows c = filling_end c.loop-place.invariant.0 _ c.in-None.ensures.steps.0
