use Rattle.std.proofs.Common.{rules}
use Rattle.octets.proofs.Loops.{putting_high_turn}
use Rattle.octets.proofs.put_big.Goals as goal

pub loop-i-preserved : goal.loop-i-preserved
loop-i-preserved c = putting_high_turn _ _ _ _ _ _ _ (search rules) (search rules) c.loop-i.invariant
