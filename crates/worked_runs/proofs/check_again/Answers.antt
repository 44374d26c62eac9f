-- `worked_runs::check_again` meets its contract: each call finds what the one before it left (proofs/Calls.antt).
use Rattle.worked_runs.proofs.Calls.{make_up}
use Rattle.worked_runs.proofs.check_again.Goals as goal

pub returns : goal.returns
returns c = let g = make_up c.args.ids.now c.args.lengths.now c.args.store.now c.args.marks.now c.args.received.now c.args.sent.now c.args.rows
    c.args.message.now c.args.id
    c.args.buffer.now _ _ _ _ _ _ _ _ _ _ _ _
    c.check-first.ensures.answer c.check-first.ensures.marked c.check-first.ensures.stored c.seal-sealing.ensures.answer c.seal-sealing.ensures.sealed
    c.seal-sealing.ensures.stored c.check-second.ensures.answer c.check-second.ensures.marked c.check-second.ensures.stored
    c.result_number.ensures c.result_number-2.ensures c.result_number-3.ensures in
    record { numbers = g.0; sealed = g.1; marks = g.2; received = g.3; sent = g.4; replay = g.5 }
