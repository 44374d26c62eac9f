-- `timed_blocks::step` meets its contract: the calls, one after the other, are the text of `step_with`.
use Rattle.md5_block.specs.Block.{step_with}
use Rattle.timed_blocks.proofs.table.step.Goals as goal

pub returns : goal.returns
unfolding step_with
returns c = cc
