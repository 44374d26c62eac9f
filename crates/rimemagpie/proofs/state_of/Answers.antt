-- `rimemagpie::state_of` meets its contract: the numbers are looked at, and the state has the parts (proofs/Stated.antt).
use mathlib.Core.Path.{ap}
use mathlib.Core.Bool.{not}
use Rattle.rimemagpie.proofs.Stated.{unstated, stated}
use Rattle.rimemagpie.proofs.state_of.Goals as goal

pub returns-then-not-are_numbers : goal.returns-then-not-are_numbers
returns-then-not-are_numbers c = unstated _ _ _ _ _ _ _ c.are_numbers.ensures (ap not c.if-not-are_numbers.true)

pub returns : goal.returns
returns c = stated _ _ _ _ _ _ _ c.are_numbers.ensures (ap not c.if-not-are_numbers.false) _ c.form_numbered.ensures _ c.phase_numbered.ensures
