-- `verdict_line::put_numbered` meets its contract: the number, the space and the line, one behind another (proofs/Lines.antt, Digits.antt).
use native.Mathlib.Omega.{arith}
use Rattle.verdict_line.proofs.Digits.{length_word}
use Rattle.verdict_line.proofs.Lines.{numbered_made}
use Rattle.verdict_line.proofs.put_numbered.Goals as goal

pub put_decimal-end-requires : goal.put_decimal-end-requires
put_decimal-end-requires c = omega (arith, length_word _ c.ranges.number.fits)

pub put-at-requires : goal.put-at-requires
put-at-requires c = omega (arith, length_word _ c.ranges.number.fits)

pub put_line-requires : goal.put_line-requires
put_line-requires c =
    omega (arith, length_word _ c.ranges.number.fits)

pub returns : goal.returns
returns c =
    numbered_made c.args.line c.requires c.ranges.number.fits c.put_decimal-end.ensures c.put-at.ensures c.put_line.ensures
