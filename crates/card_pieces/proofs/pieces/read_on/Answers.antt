-- `card_pieces::read_on` meets its contract: records may follow, or nothing is read (proofs/Feeding.antt).
use borrow.Author.Rules.{rules}
use native.Mathlib.Omega.{arith}
use mathlib.Core.Path.{◌≡◌, refl, sym, ◌∙◌}
use Prim.Native.Nat.{◌≤◌}
use lib.ListN.{length}
use Rattle.key_book.specs.Book.{Book}
use Rattle.key_book.specs.Lent.{room_in}
use Rattle.card_pieces.proofs.Going.{reading_is}
use Rattle.card_pieces.proofs.Feeding.{on_piece, on_stopped}
use Rattle.card_pieces.proofs.pieces.read_on.Goals as goal
use Rattle.card_pieces.proofs.pieces.read_on.Goals.{Start}

-- the spare rows as they are lent
abbrev lent : Start → Book
lent s = room_in s.args.room.now 0

-- the bytes kept lie in the tail
inside : (s : Start) → s.args.state.kept ≤ length s.args.state.tail
inside s = let l : length s.args.state.tail ≡ 88 = search (rules, s.well_formed.0) in omega (arith, s.requires.within.kept_within)

pub returns-then-not-is_reading : goal.returns-then-not-is_reading
returns-then-not-is_reading c =
    let s = (goal.at.returns-then-not-is_reading c).Start in
    let on = on_stopped (lent s) c.args.state c.args.piece.now _ c.is_reading.ensures c.if-not-is_reading.true (inside s) _ refl _ c.stopped_in.ensures in
    record { same = search rules; state = on.state; spare = on.spare }

pub returns-then-state-eq0 : goal.returns-then-state-eq0
returns-then-state-eq0 c =
    let s = (goal.at.returns-then-state-eq0 c).Start in
    let on = on_piece (lent s) c.args.state c.args.piece.now (reading_is _ (sym c.is_reading.ensures ∙ c.if-not-is_reading.false)) c.if-state-eq0.true
    _ c.form_by-form.ensures c.read_piece.ensures.state c.read_piece.ensures.spare in
    record { same = c.read_piece.ensures.same; state = on.state; spare = on.spare }
