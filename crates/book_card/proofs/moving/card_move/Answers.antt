-- `book_card::card_move` meets its contract: each end is one case of `move_of`, with the room as `room_moved` says (proofs/Moves.antt).
use mathlib.Core.Path.{◌≡◌, sym, ◌∙◌}
use native.Mathlib.Omega.{arith}
use Rattle.refusal.specs.declared.Refusal.TheVariants.{MalformedCard}
use Rattle.refusal.proofs.Raised.{raised}
use Rattle.octets.proofs.Elements.{bytes_lent}
use Rattle.book_card.specs.Reader.{read_card, counted_from}
use Rattle.book_card.proofs.Walks.{CardRows, counted_is, counted_rows}
use Rattle.book_card.proofs.Moves.{marks_among, marks_bound, moved_size, move_malformed, move_no_room, move_unheard, move_done}
use mathlib.Core.Path.{ap}
use mathlib.Core.Bool.{not}
use Rattle.book_card.proofs.moving.card_move.Goals as goal
use Rattle.book_card.proofs.moving.card_move.Goals.{In_ok-rows}
use Rattle.std.specs.Prelude.{Err, None, Some}

-- what the first pass told
told : (c : In_ok-rows) → Some c.in_ok-rows.rows ≡ counted_from 0 (read_card c.args.card.now)
told c =
    let found : c.count_rows.result ≡ Some c.in_ok-rows.rows = grind arith in
    sym found ∙ c.count_rows.ensures ∙ counted_is _ _ c.form_in-form.ensures

its : (c : In_ok-rows) → CardRows c.form_in-form.result c.args.card.now c.in_ok-rows.rows
its c = counted_rows _ _ c.form_in-form.ensures (bytes_lent c.args.card.now c.type_inv.card) _ (told c)

pub returns-in_err-rows : goal.returns-in_err-rows
returns-in_err-rows c =
    let none : c.count_rows.result ≡ None = grind arith in
    let met : c.from_residual.result ≡ Err MalformedCard = raised c.from_residual.result c.from_residual.ensures.1 ∙ grind arith in
    rw met (move_malformed _ _ _ (sym none ∙ c.count_rows.ensures ∙ counted_is _ _ c.form_in-form.ensures))

pub overflow_sub-size : goal.overflow_sub-size
overflow_sub-size c = marks_among (its (goal.at.overflow_sub-size c).In_ok-rows) _ c.marks_size.ensures

pub overflow_add-size : goal.overflow_add-size
overflow_add-size c =
    omega (arith, marks_bound (its (goal.at.overflow_add-size c).In_ok-rows) c.args.wanted _ c.marks_size-2.ensures)

pub returns-then-room-size : goal.returns-then-room-size
returns-then-room-size c =
    let rows = its (goal.at.returns-then-room-size c).In_ok-rows in
    move_no_room _ _ _ rows _ _ c.marks_size.ensures c.marks_size-2.ensures c.if-room-size.true

pub invariant_of-good-clause-plain : goal.invariant_of-good-clause-plain
invariant_of-good-clause-plain c = λ k. omega (arith, c.type_inv.card k)

pub invariant_of-good-clause-counted : goal.invariant_of-good-clause-counted
invariant_of-good-clause-counted c = told (goal.at.invariant_of-good-clause-counted c).In_ok-rows

pub returns-then-not-form_holds : goal.returns-then-not-form_holds
returns-then-not-form_holds c =
    let rows = its (goal.at.returns-then-not-form_holds c).In_ok-rows in
    move_unheard _ _ _ rows _ _ c.marks_size.ensures c.marks_size-2.ensures c.if-room-size.false _
    c.form_holds.ensures (ap not c.if-not-form_holds.true)

pub put_moved-requires : goal.put_moved-requires
put_moved-requires c =
    let rows = its (goal.at.put_moved-requires c).In_ok-rows in
    let size = moved_size c.args.wanted c.args.card.now c.args.room.now rows _ _ c.marks_size.ensures c.marks_size-2.ensures in
    omega arith

pub returns : goal.returns
returns c =
    let rows = its (goal.at.returns c).In_ok-rows in
    move_done _ _ _ rows _ _ c.marks_size.ensures c.marks_size-2.ensures c.if-room-size.false _
    c.form_holds.ensures (ap not c.if-not-form_holds.false) _ c.put_moved.ensures
