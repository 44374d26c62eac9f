-- `md5_block::first_round` meets its contract: step after step (`sixteen` in proofs/Steps.antt); word, constant and rotation of each are those of the tables.
use Rattle.md5_block.specs.Word.{word_no, additive, rotations}
use Rattle.md5_block.specs.Block.{step_at}
use Rattle.md5_block.proofs.Steps.{sixteen}
use Rattle.md5_block.proofs.rounds.first_round.Goals as goal

pub returns : goal.returns
unfolding step_at word_no additive rotations
returns c =
    sixteen c.args.x 0 c.args.w
    c.first_step-w1.ensures c.first_step-w2.ensures c.first_step-w3.ensures c.first_step-w4.ensures
    c.first_step-w5.ensures c.first_step-w6.ensures c.first_step-w7.ensures c.first_step-w8.ensures
    c.first_step-w9.ensures c.first_step-w10.ensures c.first_step-w11.ensures c.first_step-w12.ensures
    c.first_step-w13.ensures c.first_step-w14.ensures c.first_step-w15.ensures c.first_step.ensures
