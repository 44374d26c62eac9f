use borrow.Author.Rules.{rules}
use native.Mathlib.Omega.{arith}
use mathlib.Core.Path.{sym}
use Rattle.key_book.proofs.Halves.{halving_before, halving_after, halving_met, halving_ended, known_unsized}
use Rattle.key_book.proofs.known.Goals as goal

pub returns-then-ids-gt-ROOM_MOST : goal.returns-then-ids-gt-ROOM_MOST
returns-then-ids-gt-ROOM_MOST c = sym (known_unsized _ _ _ (λ t. omega arith))

pub returns-then-there-id : goal.returns-then-there-id
returns-then-there-id c = halving_met c.loop-low.invariant (search rules) (record { room = search rules; counted = search rules }) (search rules)

pub loop-low-preserved-then-id-there : goal.loop-low-preserved-then-id-there
loop-low-preserved-then-id-there c = halving_before c.loop-low.invariant (search rules) (search rules)

pub loop-low-preserved : goal.loop-low-preserved
loop-low-preserved c = halving_after c.loop-low.invariant (search rules) (omega arith)

pub returns : goal.returns
returns c = halving_ended c.loop-low.invariant (record { room = search rules; counted = search rules }) (search rules)
