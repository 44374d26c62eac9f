-- `comparison::layout::layout_of` meets its contract: the turns of `Laying` (proofs/Layouts.antt).
use borrow.Author.Rules.{rules}
use Rattle.comparison.proofs.Reading.{shape_passes}
use Rattle.comparison.proofs.Layouts.{laying_start, lay_none, lay_end, lay_pad, lay_option}
use Rattle.comparison.proofs.layout.layout_of.Goals as goal

pub loop-from-init : goal.loop-from-init
loop-from-init c = laying_start (shape_passes _ c.args.message.passes) c.requires _ (search rules) (search rules)

pub loop-from-preserved-in-Opt : goal.loop-from-preserved-in-Opt
loop-from-preserved-in-Opt c = lay_option _ c.loop-from.invariant _ _ _ c.in-Some.ensures.steps c.in-Opt.is

pub loop-from-preserved-in-Pad : goal.loop-from-preserved-in-Pad
loop-from-preserved-in-Pad c = lay_pad _ c.loop-from.invariant _ _ _ c.in-Some.ensures.steps c.in-Pad.is

pub returns-in-End : goal.returns-in-End
returns-in-End c = lay_end _ c.loop-from.invariant _ _ _ c.in-Some.ensures.steps c.in-End.is c.copy.ensures

pub returns : goal.returns
returns c = lay_none _ c.loop-from.invariant c.in-None.ensures.steps.0
