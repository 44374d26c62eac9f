-- `verdict_line::put_accepted` meets its contract: the five pieces, one behind another, are the line, and the two numbers have at most twenty digits
-- each (proofs/Lines.antt, Digits.antt).
use native.Mathlib.Omega.{arith}
use Rattle.verdict_line.proofs.Digits.{length_word}
use Rattle.verdict_line.proofs.Lines.{accepted_made}
use Rattle.verdict_line.proofs.put_accepted.Goals as goal

pub put_decimal-word_at-requires : goal.put_decimal-word_at-requires
put_decimal-word_at-requires c = omega (arith, length_word _ c.ranges.row.fits)

pub put-counter_at-requires : goal.put-counter_at-requires
put-counter_at-requires c =
    omega (arith, length_word _ c.ranges.row.fits)

pub put_decimal-end-requires : goal.put_decimal-end-requires
put_decimal-end-requires c =
    omega (arith, length_word _ c.ranges.row.fits, length_word _ c.ranges.counter.fits)

pub put-requires : goal.put-requires
put-requires c =
    omega (arith, length_word _ c.ranges.row.fits, length_word _ c.ranges.counter.fits)

-- at each call what is known before it, back to the start
pub returns : goal.returns
returns c =
    accepted_made c.requires c.ranges.row.fits c.ranges.counter.fits c.put-row_at.ensures c.put_decimal-word_at.ensures c.put-counter_at.ensures
    c.put_decimal-end.ensures c.put.ensures
