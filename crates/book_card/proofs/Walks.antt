-- Going over the rows of a card that was found good: where the next row stands, that it comes, and what it says, and that where none comes all rows did.
use mathlib.Core.Path.{◌≡◌, refl, sym, ap, ◌∙◌}
use mathlib.Core.Bool.{Bool, true, false}
use mathlib.Core.List.{List, [], ◌++◌, append-nil}
use Prim.Native.Nat.{ℕ, ◌+◌, ◌≤◌, ◌<◌}
use native.Mathlib.Omega.{arith}
use borrow.Author.Tests.{ltb-true, ltb-false}
use lib.Dec.{ltb}
use lib.ListN.{length, get_or, take, drop}
use lib.Seq.{drop-drop}
use Rattle.octets.specs.Bytes.{Bytes}
use Rattle.key_book.specs.Limits.{slot_size}
use Rattle.book_card.specs.declared.CardForm.{CardForm}
use Rattle.book_card.specs.Layout.{key_at}
use Rattle.book_card.specs.Card.{Row, row_with, row_record, close, card_of, empty_row, InOrder, RowFits}
use Rattle.book_card.specs.Reader.{form_in, front_of, rows_in_front, card_in, read_card, counted_from}
use Rattle.book_card.specs.Reading.{rows_in}
use Rattle.book_card.specs.Lent.{row_lent}
use Rattle.book_card.specs.Walk.{GivesRowHere, GivesNone}
use Rattle.book_card.specs.declared.Front.TheVariants.{Row as RowFront, Close}
use Rattle.book_card.specs.declared.LentRow.{LentRow}
use Rattle.book_card.specs.declared.Rows.{Rows}
use Rattle.book_card.proofs.Turns.{Along, along_on, no_row_stands, row_stands, row_key, row_behind}
use Rattle.book_card.proofs.Shape.{row_read, front_of_row, front_of_close}
use Rattle.book_card.proofs.Steps.{read_is}
use Rattle.book_card.proofs.Says.{front_card}
use Rattle.book_card.proofs.Ends.{rows_of_card}
use Rattle.book_card.proofs.Counting.{counted}
use Rattle.book_card.proofs.Writes.{rest_from, rest_all, rest_next, rest_last}
use Rattle.std.specs.Prelude.{None, Option, Some}

-- a card of so many rows, of the form that its first record shows
pub record CardRows (form : CardForm) (card : List ℕ) (n : ℕ) : Type 0 where
  pub reads : read_card card ≡ Some (rows_in card)
  pub order : InOrder form (rows_in card)
  pub bytes : card ≡ card_of form (rows_in card)
  pub count : length (rows_in card) ≡ n

-- what the first pass told
module _ (form : CardForm) (card : List ℕ) (is : form ≡ form_in card) where
  pub counted_is : counted form card ≡ counted_from 0 (read_card card)
  counted_is = ap (λ (f : CardForm). counted_from 0 (card_in (rows_in_front f card))) is ∙ ap (counted_from 0) (sym (read_is card))

  module _ (h : Bytes card) where
    card_rows : (o : Option (List Row)) → read_card card ≡ o → (n : ℕ) → Some n ≡ counted_from 0 o → CardRows form card n
    card_rows None e n c = absurd (let z : ◌≡◌ {A = ℕ} 0 1 = cc in omega arith)
    card_rows (Some rows) e n c =
        let i = rows_of_card card rows e in
        let s = rw (← is) at (front_card (form_in card) card h rows (sym (read_is card) ∙ e)) in
        let z : 0 + length rows ≡ n = cc in
        record { reads = e ∙ ap Some (sym i); order = rw i s.order; bytes = rw i s.bytes; count = rw i (omega arith) }

    pub counted_rows : (n : ℕ) → Some n ≡ counted_from 0 (read_card card) → CardRows form card n
    counted_rows n c = card_rows (read_card card) refl n c

-- the first `row` of a card's n rows came
pub record Placed (form : CardForm) (card : List ℕ) (n : ℕ) (s : Rows) (row : ℕ) : Type 0 where
  pub holds : CardRows form card n
  pub along : Along form card s
  pub within : row ≤ n
  pub place : drop s.at card ≡ rest_from form (rows_in card) row

pub placed_start : (form : CardForm) (card : List ℕ) (n : ℕ) → CardRows form card n → (s : Rows) → Along form card s → s.at ≡ 0 → Placed form card n s 0
placed_start form card n q s a e =
    record {
      holds = q;
      along = a;
      within = omega arith;
      place = ap (λ (m : ℕ). drop m card) e ∙ q.bytes ∙ rest_all form (rows_in card);
    }

-- what is known of a row that came, and of what follows
pub record Turn (form : CardForm) (card : List ℕ) (n : ℕ) (t : Rows) (row : ℕ) (r : LentRow) : Type 0 where
  pub counts : row < n
  pub is_row : row_lent r ≡ get_or (rows_in card) row empty_row
  pub small : length r.key.now ≤ slot_size
  pub next : Placed form card n t (row + 1)

module _ {form : CardForm} {card : List ℕ} {n : ℕ} {s : Rows} {row : ℕ} (p : Placed form card n s row) where
  abbrev rows : List Row
  rows = rows_in card

  -- behind the last row the close stands
  close_in_front : n ≤ row → front_of form (drop s.at card) ≡ Close (length rows)
  close_in_front h =
      let c = p.holds.count in
      let few = p.holds.order.few in
      ap (front_of form) (p.place ∙ rest_last form rows row (omega arith) ∙ sym (append-nil (close (length rows))))
      ∙ front_of_close form (length rows) [] (omega arith)

  module _ (h : row < n) where
    abbrev r : Row
    r = get_or rows row empty_row

    abbrev after : List ℕ
    after = rest_from form rows (row + 1)

    pub here_row : row < length rows
    here_row = let e = p.holds.count in omega arith

    pub fits : RowFits form r
    fits = p.holds.order.fit row here_row

    at_row : drop s.at card ≡ row_record form r ++ after
    at_row = p.place ∙ rest_next form rows row here_row

    -- a row stands in front, and nothing else does
    row_in_front : front_of form (drop s.at card) ≡ RowFront r.id r.mark r.received r.sent (length r.key)
    row_in_front = ap (front_of form) at_row ∙ front_of_row form r after fits

  -- where none came, all rows did before
  pub all_came : (t : Rows) → GivesNone s t → n ≤ row
  all_came t g = on (ltb row n) refl
    where
      on : (b : Bool) → ltb row n ≡ b → n ≤ row
      on true e = absurd (no_row_stands p.along t g _ _ _ _ _ (sym (row_in_front (ltb-true row n e))))
      on false e = ltb-false row n e

  module _ (x : LentRow) (t : Rows) (g : GivesRowHere s x t) where
    e : RowFront x.id x.mark x.received x.sent (length x.key.now) ≡ front_of form (drop s.at card)
    e = row_stands p.along x t g

    -- the close is no row
    came : row < n
    came = on (ltb row n) refl
      where
        on : (b : Bool) → ltb row n ≡ b → row < n
        on true q = ltb-true row n q
        on false q = absurd (let z = e ∙ close_in_front (ltb-false row n q) in cc)

    is_front : RowFront x.id x.mark x.received x.sent (length x.key.now)
        ≡ RowFront (r came).id (r came).mark (r came).received (r came).sent (length (r came).key)
    is_front = e ∙ row_in_front came

    is_size : length x.key.now ≡ length (r came).key
    is_size = let q = is_front in cc

    is_key : x.key.now ≡ (r came).key
    is_key =
        row_key p.along x t g
        ∙ ap (λ (k : ℕ). take k (drop (s.at + key_at form) card)) is_size
        ∙ ap (take (length (r came).key)) (sym (drop-drop (key_at form) s.at card) ∙ ap (drop (key_at form)) (at_row came))
        ∙ (row_read form (r came) (after came) (fits came)).key

    pub turn : Turn form card n t row x
    turn =
        let q = is_front in
        let i : x.id ≡ (r came).id = cc in
        let m : x.mark ≡ (r came).mark = cc in
        let v : x.received ≡ (r came).received = cc in
        let o : x.sent ≡ (r came).sent = cc in
        let k = is_key in
        let z = is_size in
        let to = (fits came).key_to in
        let b = row_behind p.along x t g in
        let c = came in
        let y : t.at ≡ s.at + (key_at form + length (r came).key) = omega arith in
        record {
          counts = c;
          is_row = λ j. row_with (i j) (m j) (v j) (o j) (k j);
          small = omega arith;
          next = record {
            holds = p.holds;
            along = along_on p.along g.goes;
            within = omega arith;
            place = ap (λ (m : ℕ). drop m card) y ∙ sym (drop-drop (key_at form + length (r came).key) s.at card)
                ∙ ap (drop (key_at form + length (r came).key)) (at_row came) ∙ (row_read form (r came) (after came) (fits came)).rest;
          };
        }
