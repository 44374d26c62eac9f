-- `md5_digest::absorbed` meets its contract: the two cases of `absorb` (proofs/Absorb.antt). The short one and the bounds the check finds.
use Prim.Native.Nat.{ℕ, ◌-◌, ◌%◌}
use mathlib.Core.Path.{◌≡◌}
use lib.ListN.{length, drop, length-drop}
use lib.Seq.{take_all}
use native.Mathlib.Omega.{arith}
use Rattle.md5_digest.specs.Block.{block_size}
use Rattle.md5_digest.proofs.Absorb.{absorb_long, tail_full}
use borrow.Author.Rules.{rules}
use Rattle.md5_digest.proofs.pieces.absorbed.Goals as goal

pub returns : goal.returns
returns c =
    let l : length c.args.d.tail ≡ block_size = search rules in
    let used : ℕ = c.args.d.total % block_size in
    let gap : ℕ = block_size - used in
    cc (
      absorb_long c.args.d l c.args.piece.now gap (omega arith) (omega arith),
      tail_full c.args.d.tail c.args.piece.now used gap l (omega arith) (omega arith),
      take_all (length c.args.piece.now - gap) (drop gap c.args.piece.now) (omega (arith, length-drop gap c.args.piece.now)),
    )
