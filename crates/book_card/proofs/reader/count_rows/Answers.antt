use borrow.Author.Rules.{rules}
use mathlib.Core.Path.{sym, ◌∙◌}
use Rattle.book_card.proofs.Counting.{counting_start, count_longer, count_number, count_closed, counting_stays, count_ended}
use Rattle.book_card.proofs.Counting.{count_many, count_low, counting_turn}
use Rattle.book_card.proofs.reader.count_rows.Goals as goal

pub loop-row-init : goal.loop-row-init
loop-row-init c = counting_start _ _ _ (record { card_is = search rules; form_is = search rules }) (search rules)

pub returns-then-rows-eq-ROWS_MOST : goal.returns-then-rows-eq-ROWS_MOST
returns-then-rows-eq-ROWS_MOST c = count_many c.loop-row.invariant _ _ c.in-Some.ensures.steps (search rules)

pub returns-then-row-low : goal.returns-then-row-low
returns-then-row-low c = count_low c.loop-row.invariant _ _ c.in-Some.ensures.steps (search rules) (search rules)

pub loop-row-preserved : goal.loop-row-preserved
loop-row-preserved c = counting_turn c.loop-row.invariant _ _ c.in-Some.ensures.steps (search rules) (search rules)

pub returns-in_default-front_at : goal.returns-in_default-front_at
returns-in_default-front_at c = count_ended c.loop-row.invariant _ c.in_default.ensures.steps _ c.front_at.ensures c.in_default-front_at.not-Close

pub returns-then-card-left-ne-CLOSE_SIZE : goal.returns-then-card-left-ne-CLOSE_SIZE
returns-then-card-left-ne-CLOSE_SIZE c =
    count_longer (counting_stays c.loop-row.invariant _ c.in_default.ensures.steps) _ (sym c.in-Close.is ∙ c.front_at.ensures) (search rules)

pub returns-then-count-rows : goal.returns-then-count-rows
returns-then-count-rows c =
    count_number (counting_stays c.loop-row.invariant _ c.in_default.ensures.steps) _ (sym c.in-Close.is ∙ c.front_at.ensures) (search rules) (search rules)

pub returns : goal.returns
returns c =
    count_closed (counting_stays c.loop-row.invariant _ c.in_default.ensures.steps) _ (sym c.in-Close.is ∙ c.front_at.ensures) (search rules) (search rules)
