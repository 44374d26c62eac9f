-- `judge_capture::add_line` meets its contract: the rest of the room, lent to the writer, comes back with the line at its front (proofs/Rooms.antt).
use native.Mathlib.Omega.{arith}
use Rattle.judge_capture.proofs.Rooms.{added_within, added}
use borrow.Author.Rules.{rules}
use Rattle.judge_capture.proofs.add_line.Goals as goal

pub overflow_add-result : goal.overflow_add-result
overflow_add-result c =
    omega (arith, added_within c.args.size c.args.out.now (search rules) _ c.write_numbered.ensures.size)

pub returns : goal.returns
returns c = let w = added_within c.args.size c.args.out.now (search rules) _ c.write_numbered.ensures.size in
    record {
      put_at = added c.args.size c.args.out.now (search rules) _ c.write_numbered.ensures.size _
          (c.write_numbered.ensures.whole (search rules)) c.write_numbered.ensures.content;
      upper_bound = search rules;
    }
