-- `comparison::fields::put_fields` meets its contract: the turns of `Putting` (proofs/FieldLines.antt).
use mathlib.Core.Path.{refl, sym, ◌∙◌}
use native.Mathlib.Omega.{arith}
use borrow.Author.Rules.{rules}
use Rattle.octets.specs.Bytes.{same_bytes}
use Rattle.comparison.proofs.Reading.{passing_parts, shape_passes}
use Rattle.comparison.proofs.FieldLines.{putting_start, putting_end, turn_same, turn_other}
use Rattle.comparison.proofs.fields.put_fields.Goals as goal
use Rattle.comparison.proofs.fields.put_fields.Goals.{then-not-same, else-not-same}

pub loop-from-init : goal.loop-from-init
unfolding same_bytes
loop-from-init c =
    let a = (passing_parts _ (shape_passes _ c.args.first.passes)).long in
    let b = (passing_parts _ (shape_passes _ c.args.second.passes)).long in
    putting_start refl (omega arith) (omega arith) (search rules)

pub loop-from-preserved : goal.loop-from-preserved
loop-from-preserved c =
    let p = c.loop-from.invariant in
    elim c.if-not-same.branch [
      | then-not-same w ↦
          let other = sym c.same.ensures ∙ w.if-not-same.true in
          rw (w.out-is, w.at-is) (turn_other p _ (search rules) other w.add_bytes-at.ensures.place w.add_bytes-at.ensures.content)
      | else-not-same w ↦ rw (w.out-is, w.at-is) (turn_same p _ (search rules) (sym c.same.ensures ∙ w.if-not-same.false))
    ]

pub returns : goal.returns
returns c = putting_end c.loop-from.invariant (search rules)
