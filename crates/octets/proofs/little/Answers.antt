use Rattle.std.proofs.Common.{arith}
use Rattle.octets.proofs.Loops.{low_turn}
use Rattle.octets.proofs.little.Goals as goal

pub loop-byte-preserved : goal.loop-byte-preserved
loop-byte-preserved c = (
  tt,
  tt,
  low_turn c.args.s.now c.args.at c.args.width c.type_inv.s (omega arith) (omega arith) _ _ _ _ c.in-Some.ensures.steps c.loop-byte.invariant.2,
)
