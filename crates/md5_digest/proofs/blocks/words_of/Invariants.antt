-- `md5_digest::words_of` meets its contract: the first i words are filled.
use Rattle.std.proofs.Common.{◌≡◌, length, take, drop}
use Rattle.md5_block.specs.Word.{block_words}
use Rattle.md5_digest.specs.Block.{block_size, load_to}
use Rattle.md5_digest.proofs.blocks.words_of.Given as goal

abbrev pub invariant-loop-i : goal.invariant-loop-i
invariant-loop-i l = (length l.x ≡ block_words) × (take l.i l.x ≡ load_to (take block_size (drop l.at l.s)) l.i)
