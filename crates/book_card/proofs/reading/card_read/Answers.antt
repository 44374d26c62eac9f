use borrow.Author.Rules.{rules}
-- `book_card::card_read` meets its contract: each end is one case of `read_of`, with the lent book as `read_book` says (proofs/Fills.antt).
use mathlib.Core.Path.{◌≡◌, sym, ◌∙◌}
use native.Mathlib.Omega.{arith}
use Rattle.refusal.specs.declared.Refusal.TheVariants.{MalformedCard}
use Rattle.refusal.proofs.Raised.{raised}
use Rattle.octets.proofs.Elements.{bytes_lent}
use Rattle.key_book.specs.Book.{Book}
use Rattle.key_book.specs.Lent.{room_in}
use Rattle.book_card.specs.Reader.{read_card, counted_from}
use Rattle.book_card.proofs.Walks.{CardRows, counted_is, counted_rows}
use Rattle.book_card.proofs.Fills.{told_sized, read_sizes, read_malformed, read_no_room, read_done}
use mathlib.Core.Path.{ap}
use mathlib.Core.Bool.{not}
use Rattle.book_card.proofs.reading.card_read.Goals as goal
use Rattle.book_card.proofs.reading.card_read.Goals.{In_ok-rows, Start}
use Rattle.std.specs.Prelude.{Err, None, Some}

-- the lent book
abbrev lent : Start → Book
lent s =
    room_in s.args.room.now 0

-- what the first pass told
told : (c : In_ok-rows) → Some c.in_ok-rows.rows ≡ counted_from 0 (read_card c.args.card.now)
told c =
    let found : c.count_rows.result ≡ Some c.in_ok-rows.rows = grind arith in
    sym found ∙ c.count_rows.ensures ∙ counted_is _ _ c.form_in-form.ensures

its : (c : In_ok-rows) → CardRows c.form_in-form.result c.args.card.now c.in_ok-rows.rows
its c = counted_rows _ _ c.form_in-form.ensures (bytes_lent c.args.card.now c.type_inv.card) _ (told c)

pub returns-then-not-sizes_agree : goal.returns-then-not-sizes_agree
returns-then-not-sizes_agree c =
    let e = read_sizes (lent (goal.at.returns-then-not-sizes_agree c).Start) _ _ c.sizes_agree.ensures (ap not c.if-not-sizes_agree.true) in
    record { same = search rules; answer = e.answer; after = e.after }

pub returns-in_err-rows : goal.returns-in_err-rows
returns-in_err-rows c =
    let none : c.count_rows.result ≡ None = grind arith in
    let met : c.from_residual.result ≡ Err MalformedCard = raised c.from_residual.result c.from_residual.ensures.1 ∙ grind arith in
    let e = read_malformed (lent (goal.at.returns-in_err-rows c).Start) _ _ c.sizes_agree.ensures (ap not c.if-not-sizes_agree.false)
    (sym none ∙ c.count_rows.ensures ∙ counted_is _ _ c.form_in-form.ensures) in
    rw met (record { same = search rules; answer = e.answer; after = e.after })

pub returns-then-room-rows : goal.returns-then-room-rows
returns-then-room-rows c =
    let e = read_no_room (lent (goal.at.returns-then-room-rows c).Start) _ _ c.sizes_agree.ensures (ap not c.if-not-sizes_agree.false)
    _ (its (goal.at.returns-then-room-rows c).In_ok-rows) c.if-room-rows.true in
    record { same = search rules; answer = e.answer; after = e.after }

pub invariant_of-good-clause-plain : goal.invariant_of-good-clause-plain
invariant_of-good-clause-plain c = λ k. omega (arith, c.type_inv.card k)

pub invariant_of-good-clause-counted : goal.invariant_of-good-clause-counted
invariant_of-good-clause-counted c = told (goal.at.invariant_of-good-clause-counted c).In_ok-rows

pub fill-requires : goal.fill-requires
fill-requires c =
    record {
      sized = told_sized (lent (goal.at.fill-requires c).Start) c.args.card.now _ c.sizes_agree.ensures (ap not c.if-not-sizes_agree.false);
      rows_in_bounds = c.if-room-rows.false;
    }

pub returns : goal.returns
returns c =
    let e = read_done (lent (goal.at.returns c).Start) _ _ c.sizes_agree.ensures (ap not c.if-not-sizes_agree.false)
    _ (its (goal.at.returns c).In_ok-rows) c.if-room-rows.false _ c.fill.ensures.rows in
    record { same = c.fill.ensures.same; answer = e.answer; after = e.after }
