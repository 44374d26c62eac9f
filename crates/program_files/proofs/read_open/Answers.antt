-- `program_files::read_open` answers a size below the room's, and each turn reads more (proofs/Turns.antt).
use Rattle.std.proofs.Common.{refl, length, arith, rules}
use Rattle.program_files.proofs.Turns.{turn_ended, turn_more}
use Rattle.program_files.proofs.read_open.Goals as goal

pub returns-in-Ended-clause-seen : goal.returns-in-Ended-clause-seen
returns-in-Ended-clause-seen g c = turn_ended c.read_more.ensures.meant (search rules) (omega arith) _ c.in-Ended.is

pub loop-have-smaller : goal.loop-have-smaller
loop-have-smaller g c =
    let t = turn_more c.read_more.ensures.meant {room = length c.loop-have.room} refl c.in-More.is in
    omega arith
