-- `capture::field_at` meets its contract: the field is octets' number of two bytes.
use mathlib.Core.Path.{◌∙◌}
use native.Mathlib.Omega.{arith}
use Rattle.capture.proofs.Frames.{field_is}
use Rattle.capture.proofs.frame.field_at.Goals as goal

pub returns : goal.returns
returns c = (c.big.ensures.0 ∙ field_is _ _, omega arith)
