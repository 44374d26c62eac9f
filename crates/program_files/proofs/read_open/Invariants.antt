-- The measure is the room that is left.
use Rattle.std.proofs.Common.{length, ◌-◌}
use Rattle.program_files.proofs.read_open.Given as goal

abbrev pub decreases-loop-have : goal.decreases-loop-have
decreases-loop-have g l = length l.initial.room - l.have
