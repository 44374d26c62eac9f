use native.Mathlib.Omega.{arith}
use borrow.Author.Rules.{rules}
use Rattle.dhcp_message.proofs.Turns.{scan_start, few, turn_none, turn_end, turn_pad, turn_opt}
use Rattle.dhcp_message.proofs.scan.scan_options.Goals as goal

pub loop-at-init : goal.loop-at-init
loop-at-init c = scan_start _ _ (search rules) (search rules)

pub returns-in-End : goal.returns-in-End
returns-in-End c = turn_end _ c.loop-at.invariant _ _ _ c.in-Some.ensures.steps c.in-End.is

pub seen-found-requires-clause-n90_bound : goal.seen-found-requires-clause-n90_bound
seen-found-requires-clause-n90_bound c = omega (arith, few _ c.loop-at.invariant _ _ _ c.in-Some.ensures.steps c.in-Opt.is)

pub seen-found-requires-clause-n82_bound : goal.seen-found-requires-clause-n82_bound
seen-found-requires-clause-n82_bound c = omega (arith, few _ c.loop-at.invariant _ _ _ c.in-Some.ensures.steps c.in-Opt.is)

pub loop-at-preserved-in-Opt : goal.loop-at-preserved-in-Opt
loop-at-preserved-in-Opt c = turn_opt _ c.loop-at.invariant _ _ _ c.in-Some.ensures.steps c.in-Opt.is c.seen-found.ensures

pub loop-at-preserved : goal.loop-at-preserved
loop-at-preserved c = turn_pad _ c.loop-at.invariant _ _ _ c.in-Some.ensures.steps c.in-Pad.is

pub returns : goal.returns
returns c = turn_none _ c.loop-at.invariant c.in-None.ensures.steps.0
