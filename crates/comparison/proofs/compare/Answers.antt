-- `comparison::compare` meets its contract: the first message's number of 2 to 7 is the answer, else the second's. Else the lines fit the room of their own
-- (proofs/Fitting.antt), and are copied where they fit the lent one (proofs/Entries.antt).
use Prim.Native.Nat.{◌≤◌}
use mathlib.Core.Path.{◌≡◌, sym, ◌∙◌}
use native.Mathlib.Omega.{arith}
use lib.ListN.{length}
use borrow.Author.Rules.{rules}
use Rattle.std.specs.Prelude.{Ok}
use Rattle.refusal.proofs.Raised.{raised}
use Rattle.octets.proofs.Elements.{bytes_lent}
use Rattle.verdict_line.proofs.Lines.{made_size}
use Rattle.dhcp_message.specs.Shape.{shape_of}
use Rattle.comparison.specs.Entry.{text_for}
use Rattle.comparison.proofs.Reading.{shape_passes}
use Rattle.comparison.proofs.Fitting.{lines_fit}
use Rattle.comparison.proofs.Entries.{first_refused, second_refused, no_room_lem, copied}
use Rattle.comparison.proofs.compare.Goals as goal
use Rattle.comparison.proofs.compare.Goals.{In_ok-shape_of, In_ok-shape_of-2}

pub returns-in_err-shape_of : goal.returns-in_err-shape_of
returns-in_err-shape_of c =
    let p = first_refused c.args.first.now c.args.second.now c.args.out.now _ (sym c.shape_of.ensures ∙ c.in_err-shape_of.was) in
    record { answer = raised c.from_residual.result c.from_residual.ensures.1 ∙ p.0; content = p.1 }

-- both messages pass
first_value : (c : In_ok-shape_of) → shape_of c.args.first.now ≡ Ok c.in_ok-shape_of.field-0
first_value c = sym c.shape_of.ensures ∙ c.in_ok-shape_of.was

second_value : (c : In_ok-shape_of-2) → shape_of c.args.second.now ≡ Ok c.in_ok-shape_of-2.field-0
second_value c = sym c.shape_of-2.ensures ∙ c.in_ok-shape_of-2.was

pub returns-in_err-shape_of-2 : goal.returns-in_err-shape_of-2
returns-in_err-shape_of-2 c =
    let first = first_value (goal.at.returns-in_err-shape_of-2 c).In_ok-shape_of in
    let p = second_refused c.args.first.now c.args.second.now c.args.out.now first _ (sym c.shape_of-2.ensures ∙ c.in_err-shape_of-2.was) in
    record { answer = raised c.from_residual-in_err-shape_of-2.result c.from_residual-in_err-shape_of-2.ensures.1 ∙ p.0; content = p.1 }

-- the lines fit the room that they are made in
fitting : (c : In_ok-shape_of-2) → length (text_for c.args.first.now c.args.second.now) ≤ 18573
fitting c =
    lines_fit _ _ (bytes_lent c.args.first.now c.type_inv.first) (bytes_lent c.args.second.now c.type_inv.second)
    (shape_passes _ (first_value (goal.at.In_ok-shape_of-2 c).In_ok-shape_of)) (shape_passes _ (second_value c))

pub put_lines-size-requires : goal.put_lines-size-requires
put_lines-size-requires c = fitting (goal.at.put_lines-size-requires c).In_ok-shape_of-2

pub returns-then-out-size : goal.returns-then-out-size
returns-then-out-size c =
    let first = first_value (goal.at.returns-then-out-size c).In_ok-shape_of in
    let second = second_value (goal.at.returns-then-out-size c).In_ok-shape_of-2 in
    let p = no_room_lem c.args.first.now c.args.second.now c.args.out.now first second (omega (arith, c.put_lines-size.ensures.place)) in
    record { answer = p.0; content = p.1 }

pub slice_bounds-made-end : goal.slice_bounds-made-end
slice_bounds-made-end c =
    let call = c.put_lines-size in
    omega (arith, call.ensures.place, call.auto.out, fitting (goal.at.slice_bounds-made-end c).In_ok-shape_of-2)

pub slice_bounds-copy-end : goal.slice_bounds-copy-end
slice_bounds-copy-end c = made_size c.put_lines-size.ensures (fitting (goal.at.slice_bounds-copy-end c).In_ok-shape_of-2)

pub returns : goal.returns
returns c =
    let two = (goal.at.returns c).In_ok-shape_of-2 in
    let first = first_value (goal.at.returns c).In_ok-shape_of in
    let p =
    copied c.args.first.now c.args.second.now c.args.out.now first (second_value two) c.put_lines-size.ensures (fitting two) (search rules) c.copy.ensures in
    record { answer = p.0; content = p.1 }
