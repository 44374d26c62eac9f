-- `verdict_line::put_worded` meets its contract: the three pieces, one behind another, are the line, and the number has at most twenty digits
-- (proofs/Lines.antt, Digits.antt).
use native.Mathlib.Omega.{arith}
use Rattle.verdict_line.proofs.Digits.{length_word}
use Rattle.verdict_line.proofs.Lines.{worded_made}
use Rattle.verdict_line.proofs.put_worded.Goals as goal

pub put_decimal-end-requires : goal.put_decimal-end-requires
put_decimal-end-requires c =
    omega (arith, length_word _ c.ranges.number.fits)

pub put-requires : goal.put-requires
put-requires c =
    omega (arith, length_word _ c.ranges.number.fits)

pub returns : goal.returns
returns c =
    worded_made c.requires.line_most_in_bounds c.requires.word_len_bound c.ranges.number.fits c.put-number_at.ensures c.put_decimal-end.ensures c.put.ensures
