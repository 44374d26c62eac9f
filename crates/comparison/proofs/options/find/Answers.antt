-- `comparison::options::find` meets its contract: the turns of `Finding` (proofs/Bodies.antt).
use Prim.Native.Nat.{◌+◌, ◌≤◌}
use lib.ListN.{length}
use native.Mathlib.Omega.{arith}
use borrow.Author.Rules.{rules}
use Rattle.dhcp_message.proofs.Turns.{option_fits}
use Rattle.comparison.proofs.Reading.{shape_passes}
use Rattle.comparison.proofs.Bodies.{finding_start, find_none, find_past, find_there, find_next, find_other}
use Rattle.comparison.proofs.options.find.Goals as goal
use Rattle.comparison.proofs.options.find.Goals.{In-Opt}

-- an option takes two bytes at least, and lies in the message
fits : (c : In-Opt) → (2 ≤ c.in-Opt.size) × (c.in-Some.at + c.in-Opt.size ≤ length c.args.message.bytes.now)
fits c = option_fits _ c.loop-at.invariant.here.same _ _ _ c.in-Some.ensures.steps c.in-Opt.is

pub loop-at-init : goal.loop-at-init
loop-at-init c = finding_start _ _ (shape_passes _ c.args.message.passes) _ (search rules) (search rules)

pub overflow_add-result-then-left-eq0 : goal.overflow_add-result-then-left-eq0
overflow_add-result-then-left-eq0 c = omega (arith, fits (goal.at.overflow_add-result-then-left-eq0 c).In-Opt)

pub slice_bounds-result-count : goal.slice_bounds-result-count
slice_bounds-result-count c = omega (arith, fits (goal.at.slice_bounds-result-count c).In-Opt)

pub slice_bounds-result-start : goal.slice_bounds-result-start
slice_bounds-result-start c = omega (arith, fits (goal.at.slice_bounds-result-start c).In-Opt)

pub slice_bounds-result-end : goal.slice_bounds-result-end
slice_bounds-result-end c = omega (arith, fits (goal.at.slice_bounds-result-end c).In-Opt)

pub returns-then-left-eq0 : goal.returns-then-left-eq0
returns-then-left-eq0 c =
    find_there _ c.loop-at.invariant _ _ _ c.in-Some.ensures.steps c.in-Opt.is c.if-other-code.true c.if-left-eq0.true

pub loop-at-preserved-then-other-code : goal.loop-at-preserved-then-other-code
loop-at-preserved-then-other-code c =
    find_next _ c.loop-at.invariant _ _ _ c.in-Some.ensures.steps c.in-Opt.is c.if-other-code.true (omega (arith, c.if-left-eq0.false))

pub loop-at-preserved-else-other-code : goal.loop-at-preserved-else-other-code
loop-at-preserved-else-other-code c =
    find_other _ c.loop-at.invariant _ _ _ c.in-Some.ensures.steps c.in-Opt.is c.if-other-code.false

pub loop-at-preserved : goal.loop-at-preserved
loop-at-preserved c = find_past _ c.loop-at.invariant _ _ _ c.in-Some.ensures.steps c.in_default.not-Opt

pub returns : goal.returns
returns c = find_none _ c.loop-at.invariant c.in-None.ensures.steps.0
