-- `judge_capture::add_end` meets its contract: the line `cut` is put into the rest of the room, or nothing is (proofs/Rooms.antt).
use mathlib.Core.Path.{sym, ◌∙◌}
use native.Mathlib.Omega.{arith}
use Rattle.judge_capture.proofs.Rooms.{added_within, added, end_none, end_cut}
use borrow.Author.Rules.{rules}
use Rattle.judge_capture.proofs.add_end.Goals as goal

pub overflow_add-result : goal.overflow_add-result
overflow_add-result c =
    omega (arith, added_within c.args.size c.args.out.now (search rules) _ c.write_line.ensures.size)

pub returns-then-is_cut : goal.returns-then-is_cut
returns-then-is_cut c = let w = added_within c.args.size c.args.out.now (search rules) _ c.write_line.ensures.size in
    let p = added c.args.size c.args.out.now (search rules) _ c.write_line.ensures.size _ (c.write_line.ensures.whole (search rules))
    c.write_line.ensures.content in
    record { put_at = end_cut _ _ c.args.next (sym c.is_cut.ensures ∙ c.if-is_cut.true) p; upper_bound = search rules }

pub returns : goal.returns
returns c = record { put_at = end_none _ _ c.args.next (sym c.is_cut.ensures ∙ c.if-is_cut.false); upper_bound = search rules }
