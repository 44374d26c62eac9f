-- `card_pieces::next_at` meets its contract: each end is one case of `next_of` on the bytes from here on (proofs/Passing.antt).
use borrow.Author.Rules.{rules}
use mathlib.Core.Path.{◌≡◌, sym, ◌∙◌}
use Prim.Native.Nat.{◌-◌}
use lib.ListN.{length, drop, length-drop}
use Rattle.card_pieces.proofs.Passing.{next_cut, next_broken, next_long, next_number, next_close, next_many, next_low, next_row}
use Rattle.card_pieces.proofs.records.next_at.Goals as goal
use Rattle.card_pieces.proofs.records.next_at.Goals.{Start}

-- how many bytes are left
left : (s : Start) → length (drop s.args.at s.args.s.now) ≡ length s.args.s.now - s.args.at
left s = length-drop s.args.at s.args.s.now

pub returns-then-wants_more : goal.returns-then-wants_more
returns-then-wants_more c = next_cut _ _ _ _ _ c.wants_more.ensures c.if-wants_more.true

pub returns-then-s-at-ne-CLOSE_SIZE : goal.returns-then-s-at-ne-CLOSE_SIZE
returns-then-s-at-ne-CLOSE_SIZE c =
    let l = left (goal.at.returns-then-s-at-ne-CLOSE_SIZE c).Start in
    next_long _ _ _ _ _ c.wants_more.ensures c.if-wants_more.false _ (sym c.in-Close.is ∙ c.front_at.ensures)
    (λ e. c.if-s-at-ne-CLOSE_SIZE.true (sym l ∙ e))

pub returns-then-count-rows : goal.returns-then-count-rows
returns-then-count-rows c =
    next_number _ _ _ _ _ c.wants_more.ensures c.if-wants_more.false _ (sym c.in-Close.is ∙ c.front_at.ensures)
    (left (goal.at.returns-then-count-rows c).Start ∙ c.if-s-at-ne-CLOSE_SIZE.false) c.if-count-rows.true

pub returns-then-rows-ge-ROWS_MOST : goal.returns-then-rows-ge-ROWS_MOST
returns-then-rows-ge-ROWS_MOST c =
    next_many _ _ _ _ _ c.wants_more.ensures c.if-wants_more.false _ _ _ _ _ (sym c.in-Row.is ∙ c.front_at.ensures)
    c.if-rows-ge-ROWS_MOST.true

pub returns-then-id-low : goal.returns-then-id-low
returns-then-id-low c =
    next_low _ _ _ _ _ c.wants_more.ensures c.if-wants_more.false _ _ _ _ _ (sym c.in-Row.is ∙ c.front_at.ensures)
    c.if-rows-ge-ROWS_MOST.false (search rules)

pub returns-in-Broken : goal.returns-in-Broken
returns-in-Broken c =
    next_broken _ _ _ _ _ c.wants_more.ensures c.if-wants_more.false (sym c.in-Broken.is ∙ c.front_at.ensures)

pub returns-else-count-rows : goal.returns-else-count-rows
returns-else-count-rows c =
    next_close _ _ _ _ _ c.wants_more.ensures c.if-wants_more.false _ (sym c.in-Close.is ∙ c.front_at.ensures)
    (left (goal.at.returns-else-count-rows c).Start ∙ c.if-s-at-ne-CLOSE_SIZE.false) c.if-count-rows.false

pub returns-else-id-low : goal.returns-else-id-low
returns-else-id-low c =
    next_row _ _ _ _ _ c.wants_more.ensures c.if-wants_more.false _ _ _ _ _ (sym c.in-Row.is ∙ c.front_at.ensures)
    c.if-rows-ge-ROWS_MOST.false (search rules)
