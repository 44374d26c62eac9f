-- `comparison::find` meets its contract. The invariant: the option that is looked for is found among the tokens that are left (proofs/Bodies.antt,
-- `Finding`).
use Rattle.comparison.proofs.Bodies.{Finding}
use Rattle.comparison.proofs.options.find.Given as goal

abbrev pub invariant-loop-at : goal.invariant-loop-at
invariant-loop-at l = Finding l.message.bytes.now l.code l.before l.left l.at-iterator
