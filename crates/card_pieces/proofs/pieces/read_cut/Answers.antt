-- `card_pieces::read_cut` meets its contract: the pass over the window, and the piece behind it (proofs/Behind.antt).
use borrow.Author.Rules.{rules}
use native.Mathlib.Omega.{arith}
use mathlib.Core.Path.{◌≡◌, refl, sym, ◌∙◌}
use Prim.Native.Nat.{◌+◌, ◌≤◌}
use lib.ListN.{length, take}
use lib.Seq.{length-take-le}
use Rattle.key_book.specs.Book.{Book}
use Rattle.key_book.specs.Lent.{room_in}
use Rattle.card_pieces.specs.Pieces.{held}
use Rattle.card_pieces.proofs.Going.{reading_is}
use Rattle.card_pieces.proofs.Feeding.{on_both}
use Rattle.card_pieces.proofs.Behind.{window_of_fits, window_of_few, window_in, Told, told_is, cut_stopped, cut_short, cut_kept, cut_on}
use mathlib.Core.Path.{ap}
use mathlib.Core.Bool.{not}
use Rattle.card_pieces.proofs.pieces.read_cut.Goals as goal
use Rattle.card_pieces.proofs.pieces.read_cut.Goals.{After-form_after-formed, After-window_of-window, After-windowed-taken, Start}

-- the spare rows as they are lent
abbrev lent : Start → Book
lent s = room_in s.args.room.now 0

fits : (c : After-windowed-taken) → c.windowed-taken.result ≤ length c.args.piece.now
fits c = omega (arith, c.windowed-taken.ensures, window_of_fits (length c.args.piece.now))

few : (c : After-windowed-taken) → c.windowed-taken.result ≤ 89
few c = omega (arith, c.windowed-taken.ensures, window_of_few (length c.args.piece.now))

-- the bytes kept, with the piece's first behind them, lie in the window
in_window : (c : After-window_of-window) → c.args.state.kept + c.windowed-taken.result ≤ length c.window_of-window.result
in_window c =
    let l : length c.args.state.tail ≡ 88 = search (rules, c.well_formed.0) in
    window_in _ _ _ _ _ (omega arith) c.requires.within.kept_within c.windowed-taken.ensures c.window_of-window.ensures

used : (c : After-window_of-window)
    → c.args.state.kept + c.windowed-taken.result ≡ length (take (c.args.state.kept + c.windowed-taken.result) c.window_of-window.result)
used c = sym (length-take-le _ _ (in_window c))

-- what is known of the pass over the window
told : (c : After-form_after-formed)
    → let a = c.args in
    let n = c.read_rows-pass.new in
    Told c.form_by-form.result a.state.form c.form_after-formed.result (held a.state) a.piece.now
    (take (a.state.kept + c.windowed-taken.result) c.window_of-window.result) a.state.kept c.windowed-taken.result
    (room_in a.room.now 0) (room_in n.room 0) a.state.rows a.state.low c.read_rows-pass.result
told c =
    let l : length c.args.state.tail ≡ 88 = search (rules, c.well_formed.0) in
    told_is _ _ _ _ _ _ _ _ _ _ _ _ _ (omega arith) c.windowed-taken.ensures c.window_of-window.ensures
    c.requires.within.rows_within c.form_by-form.ensures c.form_after-formed.ensures
    c.read_rows-pass.ensures.inside c.read_rows-pass.ensures.counted c.read_rows-pass.ensures.stops c.read_rows-pass.ensures.goes

pub slice_bounds-window_of-end-2 : goal.slice_bounds-window_of-end-2
slice_bounds-window_of-end-2 c = sym (length-take-le _ _ (fits (goal.at.slice_bounds-window_of-end-2 c).After-windowed-taken))

pub window_of-window-requires : goal.window_of-window-requires
window_of-window-requires c =
    let taken = (goal.at.window_of-window-requires c).After-windowed-taken in
    let long = length-take-le c.windowed-taken.result c.args.piece.now (fits taken) in
    let l : length c.args.state.tail ≡ 88 = search (rules, c.well_formed.0) in
    let kept = length-take-le c.args.state.kept c.args.state.tail (omega (arith, c.requires.within.kept_within)) in
    record { kept_len_bound = omega (arith, c.requires.within.kept_within); s_len_bound = omega (arith, few taken) }

pub overflow_add-end : goal.overflow_add-end
overflow_add-end c =
    omega (arith, few (goal.at.overflow_add-end c).After-windowed-taken, c.requires.within.kept_within)

pub slice_bounds-window-end : goal.slice_bounds-window-end
slice_bounds-window-end c = in_window (goal.at.slice_bounds-window-end c).After-window_of-window

pub slice_bounds-form_by-end : goal.slice_bounds-form_by-end
slice_bounds-form_by-end c = used (goal.at.slice_bounds-form_by-end c).After-window_of-window

pub slice_bounds-window-end-2 : goal.slice_bounds-window-end-2
slice_bounds-window-end-2 c = in_window (goal.at.slice_bounds-window-end-2 c).After-window_of-window

pub slice_bounds-read_rows-end : goal.slice_bounds-read_rows-end
slice_bounds-read_rows-end c = used (goal.at.slice_bounds-read_rows-end c).After-window_of-window

pub returns-then-not-is_reading : goal.returns-then-not-is_reading
returns-then-not-is_reading c =
    let both = cut_stopped (told (goal.at.returns-then-not-is_reading c).After-form_after-formed) _ c.is_reading.ensures
    (ap not c.if-not-is_reading.true) _ refl _ c.stopped_in.ensures in
    let on = on_both (lent (goal.at.returns-then-not-is_reading c).Start) c.args.state c.args.piece.now c.requires.reading both in
    record { same = search rules; state = on.state; spare = on.spare }

pub slice_bounds-state_with-end : goal.slice_bounds-state_with-end
slice_bounds-state_with-end c = in_window (goal.at.slice_bounds-state_with-end c).After-window_of-window

pub state_with-requires : goal.state_with-requires
state_with-requires c =
    cut_short (told (goal.at.state_with-requires c).After-form_after-formed)
    (reading_is _ (sym c.is_reading.ensures ∙ c.if-not-is_reading.false)) c.if-at-kept.true _ refl

pub returns-then-at-kept : goal.returns-then-at-kept
returns-then-at-kept c =
    let both = cut_kept (told (goal.at.returns-then-at-kept c).After-form_after-formed) (reading_is _ (sym c.is_reading.ensures ∙ c.if-not-is_reading.false))
    c.if-at-kept.true _ refl _ c.state_with.ensures in
    let on = on_both (lent (goal.at.returns-then-at-kept c).Start) c.args.state c.args.piece.now c.requires.reading both in
    record { same = search rules; state = on.state; spare = on.spare }

pub slice_bounds-read_piece-count : goal.slice_bounds-read_piece-count
slice_bounds-read_piece-count c =
    let at = goal.at.slice_bounds-read_piece-count c in
    omega (arith, c.read_rows-pass.ensures.inside, used at.After-window_of-window, fits at.After-windowed-taken)

pub slice_bounds-read_piece-start : goal.slice_bounds-read_piece-start
slice_bounds-read_piece-start c =
    let at = goal.at.slice_bounds-read_piece-start c in
    omega (arith, c.read_rows-pass.ensures.inside, used at.After-window_of-window, fits at.After-windowed-taken)

pub returns : goal.returns
returns c =
    let both = cut_on (told (goal.at.returns c).After-form_after-formed) (reading_is _ (sym c.is_reading.ensures ∙ c.if-not-is_reading.false))
    c.if-at-kept.false _ c.read_piece.ensures.state _ c.read_piece.ensures.spare in
    let on = on_both (lent (goal.at.returns c).Start) c.args.state c.args.piece.now c.requires.reading both in
    record { same = search rules; state = on.state; spare = on.spare }
