use Rattle.std.proofs.Common.{◌≡◌, ◌+◌, ◌*◌, ◌%◌, refl, arith}
use Rattle.md5_block.specs.Word
use Rattle.md5_block.specs.Block.{steps, round}
use Rattle.timed_blocks.proofs.Rotations.{small}
use Rattle.timed_blocks.proofs.Steps.{step_read}
use Rattle.timed_blocks.proofs.table.one_round.Goals as goal

pub loop-i-init : goal.loop-i-init
unfolding steps
loop-i-init c = refl

pub loop-i-preserved : goal.loop-i-preserved
unfolding Word.rotations Word.additive
loop-i-preserved c = let e = small (4 * c.args.r + c.loop-i.i % 4) (omega arith) in
    step_read c.args.x c.args.r c.loop-i.i c.word_no-k.result _ c.loop-i.v _ c.word_no-k.ensures.0 e c.loop-i.invariant c.step-v.ensures

pub returns : goal.returns
unfolding round
returns c = let e : c.loop-i.i ≡ 16 = omega arith in
    rw e at c.loop-i.invariant
