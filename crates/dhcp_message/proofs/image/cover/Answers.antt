-- `dhcp_message::cover` meets its contract: what doesn't fit is `covered_not`, the copies and the zeros are `covered` (proofs/Covers.antt).
-- back from the test, and from the place of option 90 behind it, to what is lent
use mathlib.Core.Path.{sym}
use Prim.Native.Nat.{◌+◌, ◌-◌, ◌≤◌}
use native.Mathlib.Omega.{arith}
use lib.ListN.{length}
use Rattle.dhcp_message.specs.Image.{image_at}
use Rattle.dhcp_message.proofs.Covers.{Fits, fits_given, fits_not, gap_before, fields_there, covered, covered_not, PartSizes, part_sizes}
use mathlib.Core.Path.{ap}
use mathlib.Core.Bool.{not}
use Rattle.dhcp_message.proofs.image.cover.Goals as goal
use Rattle.dhcp_message.proofs.image.cover.Goals.{Else-not-covers}

-- behind the test: the offsets lie in the message, and the room suffices
tested : (c : Else-not-covers) → Fits (length c.args.message.now) (length c.args.out.now) c.args.auth
tested c = fits_given _ _ _ _ c.covers.ensures (ap not c.if-not-covers.false)

fits : (c : Else-not-covers) → Fits (length c.args.message.now) (length c.args.out.now) c.args.auth
fits c = tested c

-- the sizes of the two parts that are copied
parts : (c : Else-not-covers) → PartSizes c.args.message.now c.args.auth
parts c = part_sizes c.args.message.now c.args.out.now c.args.auth (fits c)

-- option 90 is whole in what is left
there : (c : Else-not-covers) → image_at c.args.auth + 33 ≤ length c.args.message.now - c.args.auth.gap
there c = fields_there c.args.message.now c.args.out.now c.args.auth (fits c)

pub returns-then-not-covers : goal.returns-then-not-covers
returns-then-not-covers c = covered_not _ _ _ (fits_not _ _ _ _ c.covers.ensures (ap not c.if-not-covers.true))

pub image_at-at-requires : goal.image_at-at-requires
image_at-at-requires c = gap_before _ _ _ (tested (goal.at.image_at-at-requires c).Else-not-covers)

pub overflow_add-next : goal.overflow_add-next
overflow_add-next c = omega (arith, fits (goal.at.overflow_add-next c).Else-not-covers)

pub slice_bounds-copy-end : goal.slice_bounds-copy-end
slice_bounds-copy-end c = sym (parts (goal.at.slice_bounds-copy-end c).Else-not-covers).first

pub copy-requires : goal.copy-requires
copy-requires c =
    omega (arith, fits (goal.at.copy-requires c).Else-not-covers, parts (goal.at.copy-requires c).Else-not-covers)

pub slice_bounds-copy-count : goal.slice_bounds-copy-count
slice_bounds-copy-count c = omega (arith, fits (goal.at.slice_bounds-copy-count c).Else-not-covers)

pub slice_bounds-copy-start : goal.slice_bounds-copy-start
slice_bounds-copy-start c = omega (arith, fits (goal.at.slice_bounds-copy-start c).Else-not-covers)

pub copy-requires-2 : goal.copy-requires-2
copy-requires-2 c =
    omega (arith, fits (goal.at.copy-requires-2 c).Else-not-covers, parts (goal.at.copy-requires-2 c).Else-not-covers, c.copy.auto.to)

pub blank-requires : goal.blank-requires
blank-requires c =
    omega (
      arith,
      c.image_at-at.ensures,
      there (goal.at.blank-requires c).Else-not-covers,
      (fits (goal.at.blank-requires c).Else-not-covers).fits_room,
      c.copy-2.auto.to,
      c.copy.auto.to,
    )

pub overflow_sub-result : goal.overflow_sub-result
overflow_sub-result c =
    omega (arith, fits (goal.at.overflow_sub-result c).Else-not-covers)

pub returns : goal.returns
returns c =
    covered c.args.message.now c.args.out.now c.args.auth (fits (goal.at.returns c).Else-not-covers) _ _ _ _
    c.image_at-at.ensures c.copy.ensures c.copy-2.ensures c.blank.ensures
