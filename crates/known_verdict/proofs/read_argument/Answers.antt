-- `known_verdict::read_argument` meets its contract: there is not one argument, the room doesn't hold it, or it is read (proofs/Scanning.antt).
use mathlib.Core.Path.{ap, ◌∙◌}
use native.Mathlib.Nat.{sub-zero}
use native.Mathlib.Omega.{arith}
use Rattle.known_verdict.specs.Argument.{id_in}
use Rattle.known_verdict.proofs.Scanning.{other_words, room_short, room_holds}
use Rattle.known_verdict.proofs.read_argument.Goals as goal

pub returns-then-words-ne-WORDS_WANTED : goal.returns-then-words-ne-WORDS_WANTED
returns-then-words-ne-WORDS_WANTED c = other_words _ _ _ (λ e. omega arith)

pub returns-in_err-get : goal.returns-in_err-get
returns-in_err-get c = let short = c.in_err-get.ensures.lookup.0 in c.from_residual.ensures ∙ room_short _ _ _ (omega arith) (omega arith)

pub returns : goal.returns
returns c =
    let held = c.in_ok-get.ensures.lookup.0 in
    room_holds _ _ _ (omega arith) (omega arith) (c.read_id.ensures ∙ ap id_in (rw sub-zero at held.2))
