-- `delayed_auth::seal` meets its contract: the plan, and what it leads to (proofs/Plans.antt).
-- ---- what is known where the plan is ready
use mathlib.Core.Path.{sym, ap, ◌∙◌}
use Rattle.refusal.proofs.Raised.{raised}
use lib.ListN.{length}
use Rattle.key_book.specs.Book.{book_of}
use Rattle.delayed_auth.proofs.Plans.{ReadyFacts, ready_facts, ends_refused, ends_sealed}
use native.Mathlib.Omega.{arith}
use Rattle.delayed_auth.proofs.seals.seal.Goals as goal
use Rattle.delayed_auth.proofs.seals.seal.Goals.{In_ok-plan}

ready : (c : In_ok-plan)
    → ReadyFacts (book_of c.args.ids.now c.args.lengths.now c.args.store.now c.args.marks.now c.args.received.now c.args.sent.now c.args.rows)
    c.args.message.now c.in_ok-plan.plan.auth c.in_ok-plan.plan.row
ready c = ready_facts _ _ _ _ _ (sym c.in_ok-plan.was ∙ c.planned.ensures)

pub offset_bounds-sent-plan : goal.offset_bounds-sent-plan
offset_bounds-sent-plan c = omega (arith, (ready (goal.at.offset_bounds-sent-plan c).In_ok-plan).row.few)

pub bounds-sent-plan : goal.bounds-sent-plan
bounds-sent-plan c = (ready (goal.at.bounds-sent-plan c).In_ok-plan).row.in_sent

pub overflow_add-counter : goal.overflow_add-counter
overflow_add-counter c =
    omega (arith, (ready (goal.at.overflow_add-counter c).In_ok-plan).left, c.type_inv.sent c.in_ok-plan.plan.row)

pub write_seal-requires : goal.write_seal-requires
write_seal-requires c =
    let r = ready (goal.at.write_seal-requires c).In_ok-plan in
    (r.full, omega (arith, ap length c.key_of.ensures.content, r.row.key_short))

pub offset_bounds-sent-plan-2 : goal.offset_bounds-sent-plan-2
offset_bounds-sent-plan-2 c = omega (arith, (ready (goal.at.offset_bounds-sent-plan-2 c).In_ok-plan).row.few)

pub bounds-sent-plan-2 : goal.bounds-sent-plan-2
bounds-sent-plan-2 c = (ready (goal.at.bounds-sent-plan-2 c).In_ok-plan).row.in_sent

pub returns-in_err-plan : goal.returns-in_err-plan
returns-in_err-plan c =
    let told = ends_refused _ _ _ _ (sym c.in_err-plan.was ∙ c.planned.ensures) in
    record { answer = raised c.from_residual.result c.from_residual.ensures.1 ∙ told.0; sealed = told.1.0; stored = told.1.1 }

pub returns : goal.returns
returns c =
    let told = ends_sealed _ _ _ _ _ (sym c.in_ok-plan.was ∙ c.planned.ensures) _ _ c.key_of.ensures.content c.write_seal.ensures in
    record { answer = told.0; sealed = told.1.0; stored = told.1.1 }
