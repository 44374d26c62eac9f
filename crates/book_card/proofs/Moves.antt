-- Moving a card: the pass that looks for a row not heard, the pass that writes, and each end of `card_move`.
use mathlib.Core.Path.{◌≡◌, refl, sym, ap, ◌∙◌}
use mathlib.Core.Logic.{◌≢◌}
use mathlib.Core.Bool.{Bool, true, false, not}
use mathlib.Core.List.{List}
use Prim.Native.Nat.{ℕ, ◌+◌, ◌-◌, ◌*◌, ◌≤◌, ◌<◌}
use native.Mathlib.Numerals.{add-one}
use native.Mathlib.Omega.{arith}
use borrow.Author.Tests.{eq-eqb, ne_eqb, not-true, not-false}
use lib.ListN.{length, get_or, drop, drop_of_length-le}
use lib.Seq.{drop-cons}
use Rattle.refusal.specs.declared.Refusal.TheVariants.{MalformedCard, NoRoomForCard, RowNotHeard}
use Rattle.octets.specs.Bytes.{written}
use Rattle.octets.proofs.Written.{written_front}
use Rattle.key_book.specs.Limits.{rows_most, slot_size, heard}
use Rattle.book_card.specs.declared.CardForm.{CardForm}
use Rattle.book_card.specs.declared.CardForm.TheVariants.{Old}
use Rattle.book_card.specs.Layout.{mark_size, key_at, close_size}
use Rattle.book_card.specs.Card.{Row, row_record, close, card_of, empty_row}
use Rattle.book_card.specs.Lent.{row_lent}
use Rattle.book_card.specs.Reader.{read_card, counted_from}
use Rattle.book_card.specs.Reading.{rows_in}
use Rattle.book_card.specs.Moving.{all_heard, holds, move_of, room_moved}
use Rattle.book_card.specs.Walk.{GivesRowHere, GivesNone}
use Rattle.book_card.specs.declared.LentRow.{LentRow}
use Rattle.book_card.specs.declared.Rows.{Rows}
use Rattle.book_card.proofs.Turns.{Along}
use Rattle.book_card.proofs.Ends.{no_card, no_space, unheard, moved, case_move, clauses}
use Rattle.book_card.proofs.Writes.{card_forms}
use Rattle.book_card.proofs.Forms.{marks_old, marks_few}
use Rattle.book_card.proofs.Walks.{CardRows, Placed, placed_start, here_row, all_came, turn}
use Rattle.book_card.proofs.Fills.{told_malformed}
use Rattle.book_card.proofs.Puts.{Rowing, rowing_start, rowing_room, rowing_turn, close_room, rowing_end}
use Rattle.std.specs.Prelude.{Err, None, Ok, Result}
use Rattle.refusal.specs.declared.Refusal.{Refusal}

-- ---- the size

-- the marks of the form that a card has are among its bytes, and those of any form are not more than there may be rows
module _ {form : CardForm} {card : List ℕ} {n : ℕ} (q : CardRows form card n) where
  pub marks_among : (a : ℕ) → a ≡ mark_size form * n → a ≤ length card
  marks_among a e =
      let m = ap (λ (k : ℕ). mark_size form * k) q.count in
      omega (arith, ap length q.bytes, card_forms form Old (rows_in card), marks_old (length (rows_in card)))

  pub marks_bound : (wanted : CardForm) (a : ℕ) → a ≡ mark_size wanted * n → a ≤ rows_most
  marks_bound wanted a e = omega (arith, marks_few wanted n, q.count, q.order.few)

-- ---- rows not heard

heard_more : (rows : List Row) (row : ℕ) → row < length rows → (get_or rows row empty_row).mark ≡ heard
    → all_heard (drop row rows) ≡ all_heard (drop (row + 1) rows)
unfolding all_heard
heard_more rows row h e = rw (drop-cons rows row empty_row h, eq-eqb _ heard e, add-one row)

heard_not : (rows : List Row) (row : ℕ) → row < length rows → (get_or rows row empty_row).mark ≢ heard → all_heard (drop row rows) ≡ false
unfolding all_heard
heard_not rows row h e = rw (drop-cons rows row empty_row h, ne_eqb _ heard e)

heard_none : (rows : List Row) (row : ℕ) → length rows ≤ row → all_heard (drop row rows) ≡ true
unfolding all_heard
heard_none rows row h = rw (drop_of_length-le rows h)

-- the rows that came are heard: those that are left decide
pub record Hearing (form : CardForm) (card : List ℕ) (n : ℕ) (s : Rows) : Type 0 where
  pub row : ℕ
  pub walk : Placed form card n s row
  pub left : all_heard (drop row (rows_in card)) ≡ all_heard (rows_in card)

pub hearing_start : (form : CardForm) (card : List ℕ) (n : ℕ) → CardRows form card n → (s : Rows) → Along form card s → s.at ≡ 0 → Hearing form card n s
hearing_start form card n q s a e = record { row = 0; walk = placed_start form card n q s a e; left = refl }

module _ {form : CardForm} {card : List ℕ} {n : ℕ} {s : Rows} (j : Hearing form card n s) where
  module _ (r : LentRow) (t : Rows) (g : GivesRowHere s r t) where
    here : j.row < length (rows_in card)
    here = here_row j.walk (turn j.walk r t g).counts

    is : r.mark ≡ (get_or (rows_in card) j.row empty_row).mark
    is = ap (λ (x : Row). x.mark) (turn j.walk r t g).is_row

    pub hearing_fails : r.mark ≢ heard → false ≡ all_heard (rows_in card)
    hearing_fails m = sym (heard_not (rows_in card) j.row here (λ z. m (is ∙ z))) ∙ j.left

    pub hearing_turn : r.mark ≡ heard → Hearing form card n t
    hearing_turn m =
        record {
          row = j.row + 1;
          walk = (turn j.walk r t g).next;
          left = sym (heard_more (rows_in card) j.row here (sym is ∙ m)) ∙ j.left;
        }

  pub hearing_end : (t : Rows) → GivesNone s t → true ≡ all_heard (rows_in card)
  hearing_end t g =
      let c = j.walk.holds.count in
      let h = all_came j.walk t g in
      sym (heard_none (rows_in card) j.row (omega arith)) ∙ j.left

-- ---- writing

-- the rows that came are written in the wanted form, up to `to`
pub record Copying (wanted form : CardForm) (card : List ℕ) (n : ℕ) (old new : List ℕ) (s : Rows) (to : ℕ) : Type 0 where
  pub row : ℕ
  pub walk : Placed form card n s row
  pub rowing : Rowing wanted (rows_in card) old new to row

pub copying_start : (wanted form : CardForm) (card : List ℕ) (n : ℕ) (old : List ℕ) → CardRows form card n
    → length (card_of wanted (rows_in card)) ≤ length old → (s : Rows) → Along form card s → s.at ≡ 0 → Copying wanted form card n old old s 0
copying_start wanted form card n old q h s a e =
    record { row = 0; walk = placed_start form card n q s a e; rowing = rowing_start wanted (rows_in card) old h }

module _ {wanted form : CardForm} {card : List ℕ} {n : ℕ} {old new : List ℕ} {s : Rows} {to : ℕ} (j : Copying wanted form card n old new s to) where
  module _ (r : LentRow) (t : Rows) (g : GivesRowHere s r t) where
    pub copying_small : length r.key.now ≤ slot_size
    copying_small = (turn j.walk r t g).small

    -- there is room for the row
    pub copying_room : to + (key_at wanted + length r.key.now) ≤ length new
    copying_room =
        let u = turn j.walk r t g in
        let k = ap (λ (x : Row). length x.key) u.is_row in
        let l = rowing_room wanted (rows_in card) old new to j.row j.rowing (here_row j.walk u.counts) in
        omega arith

    pub copying_turn : (new' : List ℕ) (m : ℕ) → m ≡ key_at wanted + length r.key.now → new' ≡ written to (row_record wanted (row_lent r)) new
        → Copying wanted form card n old new' t (to + m)
    copying_turn new' m em e =
        let u = turn j.walk r t g in
        let w = rowing_turn wanted (rows_in card) old new to j.row j.rowing (here_row j.walk u.counts) new' (row_lent r) m u.is_row em e in
        record { row = j.row + 1; walk = u.next; rowing = w }

  module _ (t : Rows) (g : GivesNone s t) where
    all_passed : length (rows_in card) ≤ j.row
    all_passed =
        let c = j.walk.holds.count in
        let h = all_came j.walk t g in
        omega arith

    pub copying_close : to + close_size ≤ length new
    copying_close = close_room wanted (rows_in card) old new to j.row j.rowing all_passed

    pub copying_end : (new' : List ℕ) → new' ≡ written to (close n) new → new' ≡ written 0 (card_of wanted (rows_in card)) old
    copying_end new' e = rowing_end wanted (rows_in card) old new to j.row j.rowing all_passed new' n (sym j.walk.holds.count) e

-- ---- the ends of `card_move`: the answer, and the room afterwards

module _ (wanted : CardForm) (card room : List ℕ) where
  abbrev Ends : Result ℕ Refusal → List ℕ → Type 0
  Ends a d = record { answer : a ≡ move_of wanted card (length room); after : d ≡ room_moved wanted card room }

  pub move_malformed : None ≡ counted_from 0 (read_card card) → Ends (Err MalformedCard) room
  move_malformed m = clauses (case_move wanted card room (no_card (told_malformed card m)))

  module _ {form : CardForm} {n : ℕ} (q : CardRows form card n) where
    module _ (a m : ℕ) (ea : a ≡ mark_size form * n) (em : m ≡ mark_size wanted * n) where
      pub moved_size : length (card_of wanted (rows_in card)) ≡ length card - a + m
      moved_size =
          let c = q.count in
          omega (
            arith,
            ap length q.bytes,
            card_forms form wanted (rows_in card),
            ap (λ (k : ℕ). mark_size form * k) c,
            ap (λ (k : ℕ). mark_size wanted * k) c,
            marks_among q a ea,
            ea,
            em,
          )

      pub move_no_room : length room < length card - a + m → Ends (Err NoRoomForCard) room
      move_no_room l = clauses (case_move wanted card room (no_space (rows_in card) q.reads (rw moved_size l)))

      module _ (l : length card - a + m ≤ length room) (t : Bool) (et : t ≡ holds wanted (rows_in card)) where
        pub move_unheard : not t ≡ true → Ends (Err RowNotHeard) room
        move_unheard u = clauses (case_move wanted card room (unheard (rows_in card) q.reads (rw moved_size l) (sym et ∙ not-true t u)))

        pub move_done : not t ≡ false → (after : List ℕ) → after ≡ written 0 (card_of wanted (rows_in card)) room → Ends (Ok (length card - a + m)) after
        move_done u after f =
            rw (f ∙ written_front (card_of wanted (rows_in card)) room, ← moved_size)
            (clauses (case_move wanted card room (moved (rows_in card) q.reads (rw moved_size l) (sym et ∙ not-false t u))))
