-- `timed_blocks::by_table` meets its contract: the calls, one after the other, are the text of `compress`.
use Rattle.md5_block.specs.Block.{compress}
use Rattle.timed_blocks.proofs.table.by_table.Goals as goal

pub returns : goal.returns
unfolding compress
returns c = cc
