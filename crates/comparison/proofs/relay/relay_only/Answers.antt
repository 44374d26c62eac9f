-- `comparison::relay_only` meets its contract: what is left of the two without what a relay may change is compared.
use mathlib.Core.Path.{ap₂, ◌∙◌}
use mathlib.Core.List.{List}
use Prim.Native.Nat.{ℕ}
use native.Mathlib.Omega.{arith}
use Rattle.octets.specs.Bytes.{same_bytes}
use Rattle.verdict_line.proofs.Lines.{made_take}
use Rattle.comparison.proofs.Reading.{passing_parts, shape_passes}
use Rattle.comparison.proofs.Strips.{only_by}
use Rattle.comparison.proofs.relay.relay_only.Goals as goal

pub strip-size-requires : goal.strip-size-requires
strip-size-requires c =
    (passing_parts _ (shape_passes _ c.args.first.passes)).short

pub strip-other_size-requires : goal.strip-other_size-requires
strip-other_size-requires c =
    (passing_parts _ (shape_passes _ c.args.second.passes)).short

pub returns : goal.returns
returns c =
    let m = c.strip-size.ensures in
    let n = c.strip-other_size.ensures in
    let one = made_take m.0 (omega (arith, m.0.place, m.1)) in
    let other = made_take n.0 (omega (arith, n.0.place, n.1)) in
    c.same.ensures ∙ ap₂ (λ (x y : List ℕ). same_bytes x y) one other ∙ only_by _ _
