-- `delayed_auth::check` meets its contract: the judgement, and where it accepts the mark and the counter stored.
use mathlib.Core.Path.{sym, ◌∙◌}
use Rattle.key_book.specs.Book.{book_of}
use Rattle.delayed_auth.proofs.Admits.{RowFacts}
use Rattle.delayed_auth.proofs.Judging.{accepted_facts}
use native.Mathlib.Omega.{arith}
use Rattle.delayed_auth.proofs.checks.check.Goals as goal
use Rattle.delayed_auth.proofs.checks.check.Goals.{In_ok-accepted}

facts : (c : In_ok-accepted) → RowFacts (book_of c.args.ids.now c.args.lengths.now c.args.store.now c.args.marks.now c.args.received.now c.args.sent.now
    c.args.rows) c.in_ok-accepted.accepted.row
facts c = accepted_facts _ _ _ _ (sym c.in_ok-accepted.was ∙ c.judged.ensures)

pub bounds-marks-accepted : goal.bounds-marks-accepted
bounds-marks-accepted c = (facts (goal.at.bounds-marks-accepted c).In_ok-accepted).in_marks

pub offset_bounds-received-accepted : goal.offset_bounds-received-accepted
offset_bounds-received-accepted c = omega (arith, (facts (goal.at.offset_bounds-received-accepted c).In_ok-accepted).few)

pub bounds-received-accepted : goal.bounds-received-accepted
bounds-received-accepted c = (facts (goal.at.bounds-received-accepted c).In_ok-accepted).in_received
