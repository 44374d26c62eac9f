-- `comparison::put_lines` meets its contract: the five kinds of lines, one behind another, are the text (proofs/Entries.antt).
use native.Mathlib.Omega.{arith}
use Prim.Native.Nat.{ℕ, ◌+◌}
use mathlib.Core.Path.{◌≡◌}
use mathlib.Core.List.{List}
use lib.ListN.{length}
use Rattle.dhcp_message.specs.Message.{Passes27}
use Rattle.comparison.specs.Entry.{text_for}
use Rattle.comparison.proofs.Reading.{shape_passes}
use Rattle.comparison.proofs.Entries.{field_lines, first_lines, second_lines, layout_lines, last, text_length, text_put}
use Rattle.comparison.proofs.put_lines.Goals as goal
use Rattle.comparison.proofs.put_lines.Goals.{Start}

-- the two messages pass 2 to 7, and how long the text is
one : (s : Start) → Passes27 s.args.first.bytes.now
one s = shape_passes _ s.args.first.passes

other : (s : Start) → Passes27 s.args.second.bytes.now
other s = shape_passes _ s.args.second.passes

abbrev parts : List ℕ → List ℕ → ℕ
parts a b = length (field_lines a b) + length (first_lines a b) + length (second_lines a b) + length (layout_lines a b) + length (last a b)

size : (s : Start) → length (text_for s.args.first.bytes.now s.args.second.bytes.now) ≡ parts s.args.first.bytes.now s.args.second.bytes.now
size s = text_length _ _ (one s) (other s)

pub put_fields-options_at-requires : goal.put_fields-options_at-requires
put_fields-options_at-requires c = omega (arith, c.requires, size (goal.at.put_fields-options_at-requires c).Start)

pub put_options-added_at-requires : goal.put_options-added_at-requires
put_options-added_at-requires c =
    let p = c.put_fields-options_at in
    omega (arith, c.requires, size (goal.at.put_options-added_at-requires c).Start, p.ensures.place, p.auto.out)

pub put_options-layout_at-requires : goal.put_options-layout_at-requires
put_options-layout_at-requires c =
    let p = c.put_fields-options_at in
    let q = c.put_options-added_at in
    omega (
      arith,
      c.requires,
      size (goal.at.put_options-layout_at-requires c).Start,
      p.ensures.place,
      p.auto.out,
      q.ensures.place,
      q.auto.out,
    )

pub put_layout-last_at-requires : goal.put_layout-last_at-requires
put_layout-last_at-requires c =
    let p = c.put_fields-options_at in
    let q = c.put_options-added_at in
    let r = c.put_options-layout_at in
    omega (
      arith,
      c.requires,
      size (goal.at.put_layout-last_at-requires c).Start,
      p.ensures.place,
      p.auto.out,
      q.ensures.place,
      q.auto.out,
      r.ensures.place,
      r.auto.out,
    )

pub put_last-requires : goal.put_last-requires
put_last-requires c =
    let p = c.put_fields-options_at in
    let q = c.put_options-added_at in
    let r = c.put_options-layout_at in
    let t = c.put_layout-last_at in
    omega (
      arith,
      c.requires,
      size (goal.at.put_last-requires c).Start,
      p.ensures.place,
      p.auto.out,
      q.ensures.place,
      q.auto.out,
      r.ensures.place,
      r.auto.out,
      t.ensures.place,
      t.auto.out,
    )

pub returns : goal.returns
returns c =
    let s = (goal.at.returns c).Start in
    text_put _ _ (one s) (other s) c.requires c.put_fields-options_at.ensures c.put_options-added_at.ensures
    c.put_options-layout_at.ensures c.put_layout-last_at.ensures c.put_last.ensures
