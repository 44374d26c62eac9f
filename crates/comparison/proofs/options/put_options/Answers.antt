-- `comparison::options::put_options` meets its contract: the turns of `Putting` (proofs/Putting.antt).
use Prim.Native.Nat.{◌+◌, ◌≤◌, ◌<◌}
use lib.ListN.{length}
use native.Mathlib.Omega.{arith}
use borrow.Author.Rules.{rules}
use Rattle.dhcp_message.proofs.Turns.{option_fits}
use Rattle.comparison.proofs.Reading.{shape_passes}
use Rattle.comparison.proofs.Putting.{putting_start, put_none, put_past, said_fits, put_option, counts_small}
use Rattle.comparison.proofs.options.put_options.Goals as goal
use Rattle.comparison.proofs.options.put_options.Goals.{In-Opt}

-- an option takes two bytes at least, and lies in the message
fits : (c : In-Opt) → (2 ≤ c.in-Opt.size) × (c.in-Some.from + c.in-Opt.size ≤ length c.args.message.bytes.now)
fits c = option_fits _ c.loop-from.invariant.here.same _ _ _ c.in-Some.ensures.steps c.in-Opt.is

-- a code is a byte
byte : (c : In-Opt) → c.in-Opt.code < 256
byte c = search rules

pub loop-from-init : goal.loop-from-init
loop-from-init c = putting_start _ _ _ _ _ (shape_passes _ c.args.message.passes) _ (search rules) (search rules)

pub overflow_add-body-in-Opt : goal.overflow_add-body-in-Opt
overflow_add-body-in-Opt c = omega (arith, fits (goal.at.overflow_add-body-in-Opt c).In-Opt)

pub slice_bounds-body-count : goal.slice_bounds-body-count
slice_bounds-body-count c = omega (arith, fits (goal.at.slice_bounds-body-count c).In-Opt)

pub slice_bounds-body-start : goal.slice_bounds-body-start
slice_bounds-body-start c = omega (arith, fits (goal.at.slice_bounds-body-start c).In-Opt)

pub slice_bounds-body-end : goal.slice_bounds-body-end
slice_bounds-body-end c = omega (arith, fits (goal.at.slice_bounds-body-end c).In-Opt)

pub put_said-at-requires : goal.put_said-at-requires
put_said-at-requires c =
    let code = byte (goal.at.put_said-at-requires c).In-Opt in
    record {
      before_bound = omega (arith, counts_small _ c.loop-from.invariant _ _ _ c.in-Some.ensures.steps code c.in-Opt.is);
      found_in_bounds =
          rw c.find-found.ensures (said_fits _ c.loop-from.invariant _ _ _ c.in-Some.ensures.steps code c.in-Opt.is c.requires);
    }

pub loop-from-preserved-in-Opt : goal.loop-from-preserved-in-Opt
loop-from-preserved-in-Opt c =
    let code = byte (goal.at.loop-from-preserved-in-Opt c).In-Opt in
    put_option _ c.loop-from.invariant _ _ _ c.in-Some.ensures.steps code c.in-Opt.is c.requires (rw c.find-found.ensures at c.put_said-at.ensures)

pub loop-from-preserved : goal.loop-from-preserved
loop-from-preserved c = put_past _ c.loop-from.invariant _ _ _ c.in-Some.ensures.steps c.in_default.not-Opt

pub returns : goal.returns
returns c = put_none _ c.loop-from.invariant c.in-None.ensures.steps.0
