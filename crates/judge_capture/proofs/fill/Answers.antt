-- `judge_capture::fill` meets its contract: a read that goes on gives more (program_files, proofs/Turns.antt), and each turn keeps what `Filling`
-- (proofs/Windows.antt) says.
use mathlib.Core.Path.{refl}
use native.Mathlib.Omega.{arith}
use borrow.Author.Rules.{rules}
use Rattle.program_files.proofs.Turns.{turn_more}
use Rattle.judge_capture.proofs.Windows.{filling_start, filling_read, filling_window, filling_ended, filling_failed}
use Rattle.judge_capture.proofs.fill.Goals as goal

pub loop-size-init : goal.loop-size-init
loop-size-init g c = filling_start _ _ (search rules)

pub returns-in-Ended-Some : goal.returns-in-Ended-Some
returns-in-Ended-Some g c =
    let r = c.read_more.ensures in
    let f = filling_read c.loop-size.invariant _ _ r.kept r.long (omega arith) c.loop-size.invariant.within in
    record { gathered = filling_ended f c.args.want (omega arith) r.meant (rw c.in-Ended-Some.field-0-is at c.in-Ended-Some.is); front = tt }

pub returns-in-Ended-None : goal.returns-in-Ended-None
returns-in-Ended-None g c =
    record { gathered = filling_failed c.loop-size.invariant c.args.want (omega arith); front = tt }

pub loop-size-smaller : goal.loop-size-smaller
loop-size-smaller g c =
    omega (arith, turn_more c.read_more.ensures.meant c.loop-size.invariant.long c.in-More.is)

pub loop-size-preserved : goal.loop-size-preserved
loop-size-preserved g c =
    let t = turn_more c.read_more.ensures.meant c.loop-size.invariant.long c.in-More.is in
    filling_read c.loop-size.invariant _ _ c.read_more.ensures.kept c.read_more.ensures.long (omega arith) t.1

pub shape_of-room : goal.shape_of-room
shape_of-room g c = c.loop-size.invariant.long

pub returns : goal.returns
returns g c = record { gathered = filling_window c.loop-size.invariant _ (omega arith); front = refl }
