-- `capture::number_at` meets its contract: in either order the number is the one that octets reads (proofs/Headers.antt).
use mathlib.Core.Path.{◌∙◌}
use Rattle.capture.proofs.Headers.{number_low, number_high}
use Rattle.capture.proofs.header.number_at.Goals as goal

pub returns-in-LowFirst : goal.returns-in-LowFirst
returns-in-LowFirst c = rw c.in-LowFirst.is (c.little.ensures.0 ∙ number_low _ _, c.little.ensures.1)

pub returns-in-HighFirst : goal.returns-in-HighFirst
returns-in-HighFirst c = rw c.in-HighFirst.is (c.big.ensures.0 ∙ number_high _ _, c.big.ensures.1)
