-- `card_pieces::finish` meets its contract: each end is one case of `finish_of`, with the book as `finish_book` says (proofs/Finishes.antt).
use borrow.Author.Rules.{rules}
use native.Mathlib.Omega.{arith}
use mathlib.Core.Path.{◌≡◌, sym, ◌∙◌}
use mathlib.Core.Bool.{true, true≢false}
use Prim.Native.Nat.{◌≤◌}
use lib.ListN.{length}
use Rattle.key_book.specs.Book.{Book}
use Rattle.key_book.specs.Lent.{book_in, room_in}
use Rattle.card_pieces.specs.declared.Reader.{Reader}
use Rattle.card_pieces.specs.Pieces.{has_ended}
use Rattle.card_pieces.specs.Laws.{Usable}
use Rattle.card_pieces.proofs.Limits.{within_says}
use Rattle.card_pieces.proofs.Finishes.{unsound, unended, no_room_lem, finished, case_finish}
use Rattle.card_pieces.proofs.Finishes.{told_sized, told_unsized, Room, has_room, copied_all}
use mathlib.Core.Path.{ap}
use mathlib.Core.Bool.{not}
use Rattle.card_pieces.proofs.ending.finish.Goals as goal
use Rattle.card_pieces.proofs.ending.finish.Goals.{Else-not-has_ended, Else-not-is_within, Start}

-- the spare rows and the book, as they are lent
abbrev spare : Start → Book
spare s = book_in s.args.spare

abbrev lent : Start → Book
lent s = room_in s.args.room.now 0

-- what the tests told
usable : (c : Else-not-is_within)
    → Usable (book_in c.args.spare) c.args.state (room_in c.args.room.now 0)
usable c =
    record {
      spare_sized = told_sized _ _ c.sizes_agree.ensures (ap not c.if-not-sizes_agree.false);
      book_sized = told_sized _ _ c.sizes_agree-2.ensures (ap not c.if-not-sizes_agree-2.false);
      same_room = c.if-spare-room.false;
      limits = (within_says c.args.state).0 (sym c.is_within.ensures ∙ c.if-not-is_within.false);
    }

ended : (c : Else-not-has_ended) → has_ended c.args.state.kept c.args.state.phase ≡ true
ended c = sym c.has_ended.ensures ∙ c.if-not-has_ended.false

rooms : {spare book : Book} {state : Reader} → Usable spare state book → state.rows ≤ length book.ids → Room state.rows spare × Room state.rows book
rooms {spare} {book} {state} u l =
    let e = u.same_room in (has_room state.rows spare u.spare_sized (omega arith), has_room state.rows book u.book_sized l)

pub returns-then-not-sizes_agree : goal.returns-then-not-sizes_agree
returns-then-not-sizes_agree c =
    let spare = spare (goal.at.returns-then-not-sizes_agree c).Start in
    let e = case_finish _ _ _ (unsound (λ u. told_unsized spare _ c.sizes_agree.ensures (ap not c.if-not-sizes_agree.true) u.spare_sized)) in
    record { same = search rules; answer = e.answer; after = e.after }

pub returns-then-not-sizes_agree-2 : goal.returns-then-not-sizes_agree-2
returns-then-not-sizes_agree-2 c =
    let lent = lent (goal.at.returns-then-not-sizes_agree-2 c).Start in
    let e = case_finish _ _ _ (unsound (λ u. told_unsized lent _ c.sizes_agree-2.ensures (ap not c.if-not-sizes_agree-2.true) u.book_sized)) in
    record { same = search rules; answer = e.answer; after = e.after }

pub returns-then-spare-room : goal.returns-then-spare-room
returns-then-spare-room c =
    let e = case_finish _ _ _ (unsound (λ u. c.if-spare-room.true u.same_room)) in
    record { same = search rules; answer = e.answer; after = e.after }

pub returns-then-not-is_within : goal.returns-then-not-is_within
returns-then-not-is_within c =
    let e = case_finish _ _ _ (unsound (λ u. true≢false (sym ((within_says _).1 u.limits) ∙ sym c.is_within.ensures ∙ c.if-not-is_within.true))) in
    record { same = search rules; answer = e.answer; after = e.after }

pub returns-then-not-has_ended : goal.returns-then-not-has_ended
returns-then-not-has_ended c =
    let u = usable (goal.at.returns-then-not-has_ended c).Else-not-is_within in
    let e = case_finish _ _ _ (unended u (sym c.has_ended.ensures ∙ c.if-not-has_ended.true)) in
    record { same = search rules; answer = e.answer; after = e.after }

pub returns-then-room-rows : goal.returns-then-room-rows
returns-then-room-rows c =
    let at = goal.at.returns-then-room-rows c in
    let e = case_finish _ _ _ (no_room_lem (usable at.Else-not-is_within) (ended at.Else-not-has_ended) c.if-room-rows.true) in
    record { same = search rules; answer = e.answer; after = e.after }

pub copy_first-requires-2 : goal.copy_first-requires-2
copy_first-requires-2 c =
    let m = rooms (usable (goal.at.copy_first-requires-2 c).Else-not-is_within) c.if-room-rows.false in
    record { from_in_bounds = m.0.in_lengths; to_in_bounds = m.1.in_lengths }

pub overflow_mul-rows : goal.overflow_mul-rows
overflow_mul-rows c =
    let m = (rooms (usable (goal.at.overflow_mul-rows c).Else-not-is_within) c.if-room-rows.false).0.small in
    omega arith

pub copy_first-requires-3 : goal.copy_first-requires-3
copy_first-requires-3 c =
    let m = rooms (usable (goal.at.copy_first-requires-3 c).Else-not-is_within) c.if-room-rows.false in
    record { from_in_bounds = m.0.in_store; to_in_bounds = m.1.in_store }

pub copy_first-requires-4 : goal.copy_first-requires-4
copy_first-requires-4 c =
    let m = rooms (usable (goal.at.copy_first-requires-4 c).Else-not-is_within) c.if-room-rows.false in
    record { from_in_bounds = m.0.in_marks; to_in_bounds = m.1.in_marks }

pub copy_first-requires-5 : goal.copy_first-requires-5
copy_first-requires-5 c =
    let m = rooms (usable (goal.at.copy_first-requires-5 c).Else-not-is_within) c.if-room-rows.false in
    record { from_in_bounds = m.0.in_received; to_in_bounds = m.1.in_received }

pub copy_first-requires-6 : goal.copy_first-requires-6
copy_first-requires-6 c =
    let m = rooms (usable (goal.at.copy_first-requires-6 c).Else-not-is_within) c.if-room-rows.false in
    record { from_in_bounds = m.0.in_sent; to_in_bounds = m.1.in_sent }

pub returns : goal.returns
returns c =
    let at = goal.at.returns c in
    let u = usable at.Else-not-is_within in
    let d = case_finish _ _ _ (finished u (ended at.Else-not-has_ended) c.if-room-rows.false) in
    let copies = copied_all _ (spare at.Start) (lent at.Start) (rooms u c.if-room-rows.false).0 _ _ _ _ _ _
    c.copy_first.ensures c.copy_first-2.ensures c.copy_first-3.ensures c.copy_first-4.ensures c.copy_first-5.ensures c.copy_first-6.ensures in
    record { same = search rules; answer = d.answer; after = copies ∙ d.after }
