-- `card_pieces::feed` meets its contract: two tests, and then what the piece makes of the state (proofs/Feeding.antt).
use borrow.Author.Rules.{rules}
use Rattle.key_book.specs.Book.{Book}
use Rattle.key_book.specs.Lent.{room_in}
use Rattle.card_pieces.proofs.Feeding.{feed_sizes, feed_limits, feed_on, feed_done}
use mathlib.Core.Path.{ap}
use mathlib.Core.Bool.{not}
use Rattle.card_pieces.proofs.pieces.feed.Goals as goal
use Rattle.card_pieces.proofs.pieces.feed.Goals.{Start}

-- the spare rows as they are lent
abbrev lent : Start → Book
lent s = room_in s.args.room.now 0

pub returns-then-not-sizes_agree : goal.returns-then-not-sizes_agree
returns-then-not-sizes_agree c =
    let e = feed_sizes (lent (goal.at.returns-then-not-sizes_agree c).Start) c.args.state c.args.piece.now _
    c.sizes_agree.ensures (ap not c.if-not-sizes_agree.true) in
    record { same = search rules; answer = e.answer; spare = e.spare }

pub returns-then-not-is_within : goal.returns-then-not-is_within
returns-then-not-is_within c =
    let e = feed_limits (lent (goal.at.returns-then-not-is_within c).Start) c.args.state c.args.piece.now _
    c.sizes_agree.ensures _ c.is_within.ensures (ap not c.if-not-sizes_agree.false) (ap not c.if-not-is_within.true) in
    record { same = search rules; answer = e.answer; spare = e.spare }

pub read_on-requires : goal.read_on-requires
read_on-requires c =
    let both = feed_on (lent (goal.at.read_on-requires c).Start) c.args.state c.args.piece.now _
    c.sizes_agree.ensures _ c.is_within.ensures (ap not c.if-not-sizes_agree.false) (ap not c.if-not-is_within.false) in
    record { within = both.0; sized = both.1 }

pub returns : goal.returns
returns c =
    let e = feed_done (lent (goal.at.returns c).Start) c.args.state c.args.piece.now _
    c.sizes_agree.ensures _ c.is_within.ensures (ap not c.if-not-sizes_agree.false) (ap not c.if-not-is_within.false)
    _ c.read_on.ensures.state _ c.read_on.ensures.spare in
    record { same = c.read_on.ensures.same; answer = e.answer; spare = e.spare }
