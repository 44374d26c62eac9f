-- specs/Examples.antt, computed.
use mathlib.Core.Path.{refl}
use Rattle.verdict_line.specs.Decimal.{decimal, digits_to}
use Rattle.verdict_line.specs.Line.{accepted_line, worded_line, numbered_line}
use Rattle.verdict_line.specs.Examples.{LineExamples}

pub line_examples : LineExamples
unfolding accepted_line worded_line numbered_line decimal digits_to
line_examples = record {
  accepted_11 = refl;
  refused_11 = refl;
  unreadable = refl;
  first_skipped = refl;
  twentieth_refused = refl;
  cut = refl;
  known_0 = refl;
  unknown = refl;
  zero_digit = refl;
  inner_zeros = refl;
}
