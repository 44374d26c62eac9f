-- `md5_block::second_step` meets its contract: G is added in two parts (proofs/Forms.antt).
use Rattle.std.proofs.Common.{refl, ◌∙◌, w32, Fits, rules}
use Rattle.md5_block.specs.Word.{auxiliary}
use Rattle.md5_block.proofs.Forms.{second_sum}
use Rattle.md5_block.proofs.Steps.{step_made}
use Rattle.md5_block.proofs.rounds.second_step.Goals as goal

pub returns : goal.returns
unfolding auxiliary
returns c =
    let hd : Fits w32 c.args.w.d = search rules in
    c.turned.ensures
    ∙ step_made 1 c.args.word c.args.constant _ c.args.w
    (second_sum _ c.args.w.b c.args.w.c _ _ _ c.sum_of-sum.ensures hd.fits refl)
