-- `md5_block::fourth_round` meets its contract: step after step (`sixteen` in proofs/Steps.antt); word, constant and rotation of each are those of the tables.
use Rattle.md5_block.specs.Word.{word_no, additive, rotations}
use Rattle.md5_block.specs.Block.{step_at}
use Rattle.md5_block.proofs.Steps.{sixteen}
use Rattle.md5_block.proofs.rounds.fourth_round.Goals as goal

pub returns : goal.returns
unfolding step_at word_no additive rotations
returns c =
    sixteen c.args.x 3 c.args.w
    c.fourth_step-w1.ensures c.fourth_step-w2.ensures c.fourth_step-w3.ensures c.fourth_step-w4.ensures
    c.fourth_step-w5.ensures c.fourth_step-w6.ensures c.fourth_step-w7.ensures c.fourth_step-w8.ensures
    c.fourth_step-w9.ensures c.fourth_step-w10.ensures c.fourth_step-w11.ensures c.fourth_step-w12.ensures
    c.fourth_step-w13.ensures c.fourth_step-w14.ensures c.fourth_step-w15.ensures c.fourth_step.ensures
