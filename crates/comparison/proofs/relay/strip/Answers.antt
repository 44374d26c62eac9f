-- `comparison::strip` meets its contract: two parts copied and two stretches of zeros make the message without what a relay may change
-- (proofs/Strips.antt).
-- where option 82 stands
use mathlib.Core.Path.{sym}
use native.Mathlib.Omega.{arith}
use Rattle.comparison.proofs.Strips.{Cutting, cutting, strip_put}
use Rattle.comparison.proofs.relay.strip.Goals as goal
use Rattle.comparison.proofs.relay.strip.Goals.{Start}

cut_of : (s : Start) → Cutting s.args.message.bytes.now s.args.message.places
cut_of s = cutting _ s.args.message.passes

pub slice_bounds-copy-end : goal.slice_bounds-copy-end
slice_bounds-copy-end c = sym (cut_of (goal.at.slice_bounds-copy-end c).Start).first

pub overflow_add-cut : goal.overflow_add-cut
overflow_add-cut c = omega (arith, cut_of (goal.at.overflow_add-cut c).Start)

pub slice_bounds-copy-count : goal.slice_bounds-copy-count
slice_bounds-copy-count c = omega (arith, cut_of (goal.at.slice_bounds-copy-count c).Start)

pub slice_bounds-copy-start : goal.slice_bounds-copy-start
slice_bounds-copy-start c = omega (arith, cut_of (goal.at.slice_bounds-copy-start c).Start)

pub copy-requires-2 : goal.copy-requires-2
copy-requires-2 c =
    omega (arith, cut_of (goal.at.copy-requires-2 c).Start, c.requires, c.copy.auto.to)

pub clear-requires : goal.clear-requires
clear-requires c =
    omega (arith, cut_of (goal.at.clear-requires c).Start, c.requires, c.copy-2.auto.to, c.copy.auto.to)

pub clear-requires-2 : goal.clear-requires-2
clear-requires-2 c =
    omega (arith, cut_of (goal.at.clear-requires-2 c).Start, c.requires, c.clear.auto.to, c.copy-2.auto.to, c.copy.auto.to)

pub overflow_sub-result : goal.overflow_sub-result
overflow_sub-result c =
    omega (arith, cut_of (goal.at.overflow_sub-result c).Start)

pub returns : goal.returns
returns c =
    strip_put _ c.args.message.passes _ c.requires c.copy.ensures c.copy-2.ensures c.clear.ensures c.clear-2.ensures
