-- A turn of `one_round`: one step more of a round, from what the code reads.
use Rattle.std.proofs.Common.{◌≡◌, ℕ, ◌+◌, ◌*◌, ◌%◌, List, get_or, add-one}
use Rattle.md5_block.specs.declared.Words.{Words}
use Rattle.md5_block.specs.Word.{block_words, word_no, additive, rotations}
use Rattle.md5_block.specs.Block.{step_with, step_at, steps}
use Rattle.md5_block.proofs.Steps.{next}

pub step_read : (x : List ℕ) (r i k : ℕ) (u v w : Words) → k ≡ word_no r i → get_or rotations (4 * r + i % 4) 0 % 32 ≡ get_or rotations (4 * r + i % 4) 0
    → v ≡ steps x r i w → u ≡ step_with r (get_or x k 0) (get_or additive (block_words * r + i) 0) (get_or rotations (4 * r + i % 4) 0 % 32) v
    → u ≡ steps x r (i + 1) w
unfolding step_at
step_read x r i k u v w p s q e = rw add-one (next x r i w q (rw (p, s) at e))
