use Rattle.std.proofs.Common.{◌<◌, arith, bit_xor, length}
use Rattle.std.proofs.lemmas.List.{get_or_default, length-set}
use Rattle.std.proofs.lemmas.List.Edits.{map_over_more}
use Rattle.hmac_md5.proofs.masked_block.Goals as goal

pub loop-i-preserved : goal.loop-i-preserved
loop-i-preserved c =
    let i = c.loop-i.invariant in
    let n : c.loop-i.i < length c.loop-i.masked = omega arith in (
      i.0,
      simp length-set i.1,
      map_over_more (λ b. bit_xor b c.args.mask) c.args.block c.loop-i.masked c.loop-i.i _ (omega arith) i.2
          (get_or_default c.loop-i.masked c.loop-i.i 0 _ n),
    )
