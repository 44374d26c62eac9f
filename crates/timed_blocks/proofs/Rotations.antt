-- No rotation is a whole turn or more: one test of the whole table.
use Rattle.std.proofs.Common.{◌≡◌, ℕ, ◌%◌, ◌<◌, Bool, eqb, get_or}
use mir.Facts.{eqb_yes}
use Rattle.md5_block.specs.Word.{rotations}
use Rattle.timed_blocks.proofs.Every.{at}

right : ℕ → ℕ → Bool
right k x = eqb (x % 32) x

pub small : (n : ℕ) → n < 16 → get_or rotations n 0 % 32 ≡ get_or rotations n 0
unfolding rotations right
small n h = eqb_yes (at right rotations tt n h)
