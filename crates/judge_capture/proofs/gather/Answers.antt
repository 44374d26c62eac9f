-- `judge_capture::gather` meets its contract: the window is large enough already, or it is moved to the front and filled (proofs/Windows.antt).
use Rattle.judge_capture.proofs.Windows.{grown_same}
use borrow.Author.Rules.{rules}
use Rattle.judge_capture.proofs.gather.Goals as goal

pub returns-then-want-window : goal.returns-then-want-window
returns-then-want-window g c = (grown_same _ _ _ (search rules) (search rules), search rules)

pub returns : goal.returns
returns g c = rw (← c.move_front-size.ensures.1) c.fill.ensures.gathered
