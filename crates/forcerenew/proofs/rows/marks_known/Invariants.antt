-- `forcerenew::marks_known` meets its contract: so far it is the answer for the marks that were looked at (proofs/Soundness.antt).
use Rattle.std.proofs.Common.{◌≡◌, take}
use Rattle.forcerenew.specs.Rows.{marks_known}
use Rattle.forcerenew.proofs.rows.marks_known.Given as goal

abbrev pub invariant-loop-mark : goal.invariant-loop-mark
invariant-loop-mark l = l.known ≡ marks_known (take l.mark-index l.marks)
