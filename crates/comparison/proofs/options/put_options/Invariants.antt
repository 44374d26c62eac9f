-- `comparison::put_options` meets its contract. The invariant: what is said of the options passed stands in the room, and their codes are counted
-- (proofs/Putting.antt, `Putting`).
use Rattle.comparison.proofs.Putting.{Putting}
use Rattle.comparison.proofs.options.put_options.Given as goal

abbrev pub invariant-loop-from : goal.invariant-loop-from
invariant-loop-from l = Putting l.side l.message.bytes.now l.other.bytes.now l.initial.out l.start l.out l.counts l.at l.from-iterator
