-- The closed statements of specs/Laws.antt, by the laws of digits and lines (proofs/Digits.antt, Lines.antt).
use Prim.Native.Nat.{◌-◌, ◌^◌}
use native.Mathlib.Omega.{arith}
use Rattle.refusal.proofs.Names.{numbers_tell}
use Rattle.verdict_line.specs.declared.Line.TheVariants.{Accepted}
use Rattle.verdict_line.specs.Line.{refused_word, known_row}
use Rattle.verdict_line.specs.Laws.{DecimalSays, SizeWithin, LongestLine}
use Rattle.verdict_line.proofs.Digits.{decimal_one, decimal_more, length_largest}
use Rattle.verdict_line.proofs.Lines.{accepted_length, accepted_most, worded_most, numbered_length, numbered_most_lem, size_fits}

pub decimal_says : DecimalSays
decimal_says = record { one = decimal_one; more = decimal_more }

pub size_within_lem : SizeWithin
size_within_lem = size_fits

pub longest_line : LongestLine
longest_line = record {
  accepted_most = λ row counter h k. accepted_most h k;
  refused_most = λ r. worded_most refused_word _ (omega arith) (omega (arith, numbers_tell.in_a_byte r));
  unreadable_most = omega arith;
  skipped_most = omega arith;
  cut_most = omega arith;
  known_most = λ row h. worded_most known_row row (omega arith) h;
  unknown_most = omega arith;
  numbered_most_lem = numbered_most_lem;
  reached = let a = accepted_length (2 ^ 64 - 1) (2 ^ 64 - 1) in let x = length_largest in omega arith;
  numbered_reached =
      let line = Accepted (2 ^ 64 - 1) (2 ^ 64 - 1) in
      omega (arith, numbered_length (2 ^ 64 - 1) line, accepted_length (2 ^ 64 - 1) (2 ^ 64 - 1), length_largest);
}
