-- Each turn keeps `Filling` (proofs/Windows.antt). The measure is the room that is left.
use Rattle.std.proofs.Common.{◌-◌, length}
use Rattle.judge_capture.proofs.Windows.{Filling}
use Rattle.judge_capture.proofs.fill.Given as goal

abbrev pub invariant-loop-size : goal.invariant-loop-size
invariant-loop-size g l = Filling l.initial.room l.have l.room l.size

abbrev pub decreases-loop-size : goal.decreases-loop-size
decreases-loop-size g l = length l.initial.room - l.size
