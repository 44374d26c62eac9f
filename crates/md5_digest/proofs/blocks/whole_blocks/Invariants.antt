-- `md5_digest::whole_blocks` meets its contract: the blocks still to come, after the words so far, give the whole answer.
use Rattle.std.proofs.Common.{◌≡◌}
use Rattle.md5_digest.specs.Block.{block_size, whole}
use Rattle.md5_digest.proofs.blocks.whole_blocks.Given as goal

abbrev pub invariant-loop-bytes : goal.invariant-loop-bytes
invariant-loop-bytes l = (l.bytes-iterator.size ≡ block_size) × (whole l.bytes-iterator.rest.now l.v ≡ whole l.s l.initial.v)
