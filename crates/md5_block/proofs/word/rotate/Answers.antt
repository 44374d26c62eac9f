-- `md5_block::rotate` meets its contract: its own text, but that a turn by nothing shifts to the right by nothing (proofs/Forms.antt).
use Rattle.std.proofs.Common.{◌∙◌, arith, w32, Fits, rules}
use Rattle.md5_block.proofs.Forms.{turns}
use Rattle.md5_block.proofs.word.rotate.Goals as goal

pub returns : goal.returns
returns c = let h : Fits w32 c.args.x = search rules in
    c.rotate_left.ensures ∙ turns c.args.x _ h.fits (omega arith)
