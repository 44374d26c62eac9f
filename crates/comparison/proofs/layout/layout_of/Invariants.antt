-- `comparison::layout_of` meets its contract. The invariant: the codes before the offset stand in the room, and with those behind it they are the layout
-- (proofs/Layouts.antt, `Laying`).
use Rattle.comparison.proofs.Layouts.{Laying}
use Rattle.comparison.proofs.layout.layout_of.Given as goal

abbrev pub invariant-loop-from : goal.invariant-loop-from
invariant-loop-from l = Laying l.message.bytes.now l.initial.out l.out l.at l.from-iterator
