-- `comparison::same_layout` meets its contract: the layouts are the same where their bytes are (proofs/Layouts.antt).
use mathlib.Core.Path.{ap₂, ◌∙◌}
use mathlib.Core.List.{List}
use Prim.Native.Nat.{ℕ}
use native.Mathlib.Omega.{arith}
use Rattle.octets.specs.Bytes.{same_bytes}
use Rattle.verdict_line.proofs.Lines.{made_take}
use Rattle.comparison.proofs.Reading.{passing_parts, shape_passes}
use Rattle.comparison.proofs.Layouts.{same_laid}
use Rattle.comparison.proofs.layout.same_layout.Goals as goal

pub layout_of-size-requires : goal.layout_of-size-requires
layout_of-size-requires c = (passing_parts _ (shape_passes _ c.args.first.passes)).short

pub layout_of-other_size-requires : goal.layout_of-other_size-requires
layout_of-other_size-requires c = (passing_parts _ (shape_passes _ c.args.second.passes)).short

pub returns : goal.returns
returns c =
    let m = c.layout_of-size.ensures in
    let n = c.layout_of-other_size.ensures in
    let one = made_take m.0 (omega (arith, m.0.place, m.1)) in
    let other = made_take n.0 (omega (arith, n.0.place, n.1)) in
    c.same.ensures ∙ ap₂ (λ (x y : List ℕ). same_bytes x y) one other ∙ same_laid _ _ (shape_passes _ c.args.first.passes) (shape_passes _ c.args.second.passes)
