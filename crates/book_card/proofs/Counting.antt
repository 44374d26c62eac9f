-- The first pass over a card: what each turn keeps, and each of its ends.
use mathlib.Core.Path.{◌≡◌, refl, sym, ap, ap₂, ◌∙◌}
use mathlib.Core.Logic.{◌≢◌}
use mathlib.Core.Bool.{Bool, true, false, cond}
use mathlib.Core.List.{List, ◌∷◌}
use Prim.Native.Nat.{ℕ, suc, ◌+◌, ◌-◌, ◌≤◌, ◌<◌}
use native.Mathlib.Nat.{add-zero}
use native.Mathlib.Omega.{arith}
use borrow.Author.Tests.{eq-eqb, ne_eqb, lt-ltb, le-ltb}
use lib.Dec.{ltb}
use lib.ListN.{length, drop, length-drop}
use lib.Seq.{drop-drop}
use Rattle.key_book.specs.Limits.{rows_most}
use Rattle.book_card.specs.Card.{Row}
use Rattle.book_card.specs.Layout.{key_at, close_size}
use Rattle.book_card.specs.Reader.{front_of, row_front, CardEnd, closed, fault, FrontRows}
use Rattle.book_card.specs.declared.CardForm.{CardForm}
use Rattle.book_card.specs.Reader.{ended, with_row, step_from, front_from, rows_by, rows_in_front, card_in, counted_from}
use Rattle.book_card.specs.declared.Front.{Front}
use Rattle.book_card.specs.declared.Front.TheVariants.{Broken, Row as RowFront, Close}
use Rattle.book_card.specs.Walk.{GivesRowHere, GivesNone}
use Rattle.book_card.specs.declared.LentRow.{LentRow}
use Rattle.book_card.specs.declared.Rows.{Rows}
use Rattle.book_card.proofs.Turns.{Along, along_on, no_row_stands, row_stands, row_behind, row_inside}
use Rattle.book_card.proofs.Steps.{go_on, on_none, on_more, front_step, in_front_lem}
use Rattle.std.specs.Prelude.{None, Option, Some}

-- what the first pass answers
abbrev pub counted : CardForm → List ℕ → Option ℕ
counted form card = counted_from 0 (card_in (rows_in_front form card))

-- so many rows came, and reading on from there gives the whole answer
pub record Counting (form : CardForm) (card : List ℕ) (s : Rows) (rows low : ℕ) : Type 0 where
  pub along : Along form card s
  pub within : s.at ≤ length card
  pub few : rows ≤ rows_most
  pub rest : counted_from rows (card_in (front_from form (rows_most - rows) low rows (drop s.at card))) ≡ counted form card

pub counting_start : (form : CardForm) (card : List ℕ) (s : Rows) → Along form card s → s.at ≡ 0 → Counting form card s 0 0
counting_start form card s a e =
    record {
      along = a;
      within = omega arith;
      few = omega arith;
      rest = ap (λ (n : ℕ). counted_from 0 (card_in (front_from form rows_most 0 0 (drop n card)))) e
          ∙ ap (λ (f : FrontRows). counted_from 0 (card_in f)) (sym (in_front_lem form card));
    }

-- no row more: what is counted is malformed
no_row_more : (n : ℕ) (s : List ℕ) (t : Bool) → None ≡ counted_from n (card_in (cond t (ended fault s) (ended fault s)))
no_row_more n s true = refl
no_row_more n s false = refl

counted_with_row : (n : ℕ) (r : Row) (f : FrontRows) → counted_from (n + 1) (card_in f) ≡ counted_from n (card_in (with_row r f))
counted_with_row n r f = on f.ends
  where
    on : (e : CardEnd) → counted_from (n + 1) (rows_by f.rows e) ≡ counted_from n (rows_by (r ∷ f.rows) e)
    on closed = let e : n + 1 + length f.rows ≡ n + suc (length f.rows) = omega arith in ap Some e
    on fault = refl

module _ {form : CardForm} {card : List ℕ} {s : Rows} {rows low : ℕ} (j : Counting form card s rows low) where
  abbrev rest : List ℕ
  rest = drop s.at card

  on_front : (f : Front) → f ≡ front_of form rest
      → counted_from rows (card_in (step_from form (go_on form (rows_most - rows) rest) low rows rest f)) ≡ counted form card
  on_front f e = ap (λ (x : Front). counted_from rows (card_in (step_from form (go_on form (rows_most - rows) rest) low rows rest x))) e
      ∙ ap (λ (f : FrontRows). counted_from rows (card_in f)) (sym (front_step form (rows_most - rows) low rows rest)) ∙ j.rest

  module _ (m : ℕ) (e : Close m ≡ front_of form rest) where
    pub count_longer : length card - s.at ≢ close_size → None ≡ counted form card
    count_longer h = rw (length-drop s.at card, ne_eqb (length card - s.at) close_size h) at (on_front (Close m) e)

    module _ (h : length card - s.at ≡ close_size) where
      pub count_number : m ≢ rows → None ≡ counted form card
      count_number k = rw (length-drop s.at card, eq-eqb (length card - s.at) close_size h, ne_eqb m rows k) at (on_front (Close m) e)

      pub count_closed : m ≡ rows → Some rows ≡ counted form card
      count_closed k =
          ap Some (sym (add-zero rows))
          ∙ (rw (length-drop s.at card, eq-eqb (length card - s.at) close_size h, eq-eqb m rows k) at (on_front (Close m) e))

  -- the same where no row came
  pub counting_stays : (t : Rows) → GivesNone s t → Counting form card t rows low
  counting_stays t g =
      record {
        along = along_on j.along g.stays;
        within = rw g.stays.place j.within;
        few = j.few;
        rest = rw g.stays.place j.rest;
      }

  -- nor does the close stand there
  pub count_ended : (t : Rows) → GivesNone s t → (f : Front) → f ≡ front_of form (drop t.at card) → ((m : ℕ) → f ≡ Close m → ⊥) → None ≡ counted form card
  count_ended t g f e n = on f (rw g.stays.place at e) n
    where
      on : (f : Front) → f ≡ front_of form rest → ((m : ℕ) → f ≡ Close m → ⊥) → None ≡ counted form card
      on Broken e n = on_front Broken e
      on (Close m) e n = absurd (n m refl)
      on (RowFront id mark received sent size) e n = absurd (no_row_stands j.along t g id mark received sent size e)

  module _ (r : LentRow) (t : Rows) (g : GivesRowHere s r t) where
    abbrev size : ℕ
    size = length r.key.now

    abbrev front : Front
    front = RowFront r.id r.mark r.received r.sent size

    e : front ≡ front_of form rest
    e = row_stands j.along r t g

    pub count_many : rows ≡ rows_most → None ≡ counted form card
    count_many h =
        let z : rows_most - rows ≡ 0 = omega arith in
        no_row_more rows rest (ltb r.id low) ∙ (rw (z, on_none form) at (on_front front e))

    module _ (h : rows ≢ rows_most) where
      pub count_low : r.id < low → None ≡ counted form card
      count_low l = rw (lt-ltb r.id low l) at (on_front front e)

      pub counting_turn : low ≤ r.id → Counting form card t (rows + 1) (r.id + 1)
      counting_turn l =
          let f = j.few in
          let z : rows_most - rows ≡ suc (rows_most - (rows + 1)) = omega arith in
          let p : t.at ≡ s.at + key_at form + size = row_behind j.along r t g in
          let w : s.at + key_at form + size ≤ length card = row_inside form card s.at r.id r.mark r.received r.sent size e in
          let p₁ : t.at ≡ s.at + (key_at form + size) = omega arith in
          let q : suc rows ≡ rows + 1 = omega arith in
          let i : suc r.id ≡ r.id + 1 = omega arith in
          let o = front_from form (rows_most - (rows + 1)) (suc r.id) (suc rows) (drop (key_at form + size) rest) in
          let x : counted_from rows (card_in (with_row (row_front form rest r.id r.mark r.received r.sent size) o)) ≡ counted form card =
          rw (le-ltb r.id low l, z, on_more form) at (on_front front e) in
          record {
            along = along_on j.along g.goes;
            within = omega arith;
            few = omega arith;
            rest = ap (λ (x : List ℕ). counted_from (rows + 1) (card_in (front_from form (rows_most - (rows + 1)) (r.id + 1) (rows + 1) x)))
                (ap (λ (n : ℕ). drop n card) p₁ ∙ sym (drop-drop (key_at form + size) s.at card))
                ∙ ap₂ (λ (x y : ℕ). counted_from (rows + 1) (card_in (front_from form (rows_most - (rows + 1)) x y (drop (key_at form + size) rest)))) (sym i)
                (sym q)
                ∙ counted_with_row rows (row_front form rest r.id r.mark r.received r.sent size) o ∙ x;
          }
