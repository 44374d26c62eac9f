-- `timed_blocks::one_round` meets its contract: after i turns the first i steps are done, and no rotation is a whole turn or more.
use Rattle.std.proofs.Common.{◌≡◌}
use Rattle.md5_block.specs.Block.{steps}
use Rattle.timed_blocks.proofs.table.one_round.Given as goal

abbrev pub invariant-loop-i : goal.invariant-loop-i
invariant-loop-i l = l.v ≡ steps l.x l.r l.i l.initial.v
