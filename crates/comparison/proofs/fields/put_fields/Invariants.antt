-- `comparison::put_fields` meets its contract. The invariant: the lines that were put and those of the fields that are left are all lines
-- (proofs/FieldLines.antt, `Putting`).
use Rattle.comparison.proofs.FieldLines.{Putting}
use Rattle.comparison.proofs.fields.put_fields.Given as goal

abbrev pub invariant-loop-from : goal.invariant-loop-from
invariant-loop-from l = Putting l.from-items l.first.bytes.now l.second.bytes.now l.initial.out l.out l.at l.from-index
