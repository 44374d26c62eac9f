use Rattle.std.proofs.Common.{◌∙◌}
use Rattle.std.proofs.lemmas.Slice.Zip.{either_empty_from_Zip}
use Rattle.octets.proofs.Comparing.{same_turn, same_end}
use Rattle.octets.proofs.same.Goals as goal

pub loop-x-preserved : goal.loop-x-preserved
loop-x-preserved c =
    let i = c.loop-x.invariant in
    let t = same_turn c.loop-x.agree _ _ _ _ _ _ c.in-Some.ensures.steps.0 c.in-Some.ensures.steps.1 i.0 in
    (t.0, t.1 ∙ i.1)

pub returns : goal.returns
returns c =
    let i = c.loop-x.invariant in
    same_end c.loop-x.agree _ _ i.0 (either_empty_from_Zip c.loop-x.x-iterator c.next.new.self _ c.in-None.is c.next.ensures.steps) ∙ i.1
