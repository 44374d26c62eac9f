-- `hmac_md5::last_block` meets its contract: the words of the last block's bytes (proofs/Masks.antt).
use mathlib.Core.Path.{sym}
use mir.Syntax.{w32}
use mir.Val.{Fits}
use Rattle.hmac_md5.proofs.Masks.{last_words}
use borrow.Author.Rules.{rules}
use Rattle.hmac_md5.proofs.last_block.Goals as goal

pub returns : goal.returns
returns c = let ha : Fits w32 c.args.inner.a = search rules in
    let hb : Fits w32 c.args.inner.b = search rules in
    let hc : Fits w32 c.args.inner.c = search rules in
    let hd : Fits w32 c.args.inner.d = search rules in
    sym (last_words c.args.inner ha.fits hb.fits hc.fits hd.fits)
