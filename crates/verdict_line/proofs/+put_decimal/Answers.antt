-- `verdict_line::put_decimal` meets its contract: each end is one clause of `decimal`'s recursion (proofs/Places.antt).
use native.Mathlib.Omega.{arith}
use Rattle.verdict_line.proofs.Digits.{length_one, length_more}
use Rattle.verdict_line.proofs.Places.{one_digit, last_digit}
use Rattle.verdict_line.proofs.+put_decimal.Goals as goal

pub bounds-out-at : goal.bounds-out-at
bounds-out-at t c = omega (arith, length_one _ c.if-x-lt10.true)

pub returns-then-x-lt10 : goal.returns-then-x-lt10
returns-then-x-lt10 t c = one_digit _ _ _ c.requires c.if-x-lt10.true

-- the call for all digits but the last
pub put_decimal-last-requires : goal.put_decimal-last-requires
put_decimal-last-requires t c = (omega arith, omega (arith, length_more _ c.if-x-lt10.false))

-- the last one
pub bounds-out-last : goal.bounds-out-last
bounds-out-last t c = omega (arith, length_more _ c.if-x-lt10.false)

pub overflow_add-result-2 : goal.overflow_add-result-2
overflow_add-result-2 t c = omega (arith, length_more _ c.if-x-lt10.false)

pub returns : goal.returns
returns t c = last_digit _ _ _ c.requires c.if-x-lt10.false c.put_decimal-last.ensures
