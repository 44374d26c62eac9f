-- `md5_block::first_step` meets its contract: F takes b once (proofs/Forms.antt).
use Rattle.std.proofs.Common.{◌∙◌, w32, Fits, rules}
use Rattle.md5_block.specs.Word.{auxiliary}
use Rattle.md5_block.proofs.Forms.{first_sum}
use Rattle.md5_block.proofs.Steps.{step_made}
use Rattle.md5_block.proofs.rounds.first_step.Goals as goal

pub returns : goal.returns
unfolding auxiliary
returns c =
    let hb : Fits w32 c.args.w.b = search rules in
    let hd : Fits w32 c.args.w.d = search rules in
    c.turned.ensures
    ∙ step_made 0 c.args.word c.args.constant _ c.args.w
    (first_sum c.args.w.a c.args.w.b c.args.w.c c.args.w.d _ _ c.sum_of-sum.ensures hd.fits hb.fits)
