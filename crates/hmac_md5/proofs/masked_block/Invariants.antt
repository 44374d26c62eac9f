-- `hmac_md5::masked_block` meets its contract: after i turns the first i bytes are masked.
use Rattle.std.proofs.Common.{◌≡◌, ◌++◌, map, take, drop, length, bit_xor}
use Rattle.md5_digest.specs.Block.{block_size}
use Rattle.hmac_md5.proofs.masked_block.Given as goal

abbrev pub invariant-loop-i : goal.invariant-loop-i
invariant-loop-i l =
    (length l.fn.block ≡ block_size) × (length l.masked ≡ block_size)
    × (l.masked ≡ map (λ b. bit_xor b l.mask) (take l.i l.fn.block) ++ drop l.i l.fn.block)
