-- Before the first character the number is 0, and the whole text is left. The loop's turn and its ends are named on the function.
use borrow.Author.Rules.{rules}
use Rattle.known_verdict.proofs.Scanning.{read_starts}
use Rattle.known_verdict.proofs.read_id.Goals as goal

pub loop-c-init : goal.loop-c-init
loop-c-init c = (search rules, read_starts _ (search rules))
