-- The reader agrees with the card: `rows_in_front` gives the rows of a form in front of bytes and how they end, and `read_card` gives rows exactly where the
-- bytes are the card of those rows in either form.
-- By induction on the rows one way, and on the rows still allowed the other way; each step is the record in front (proofs/Shape.antt).
use mathlib.Core.Path.{◌≡◌, refl, sym, ap, ap₂, ◌∙◌}
use mathlib.Core.Bool.{Bool, true, false, cond}
use mathlib.Core.List.{List, [], ◌∷◌, ◌++◌, append-nil}
use Prim.Native.Nat.{ℕ, zero, suc, ◌+◌, ◌-◌, ◌^◌, ◌≤◌, ◌<◌}
use native.Mathlib.Nat.{add-zero}
use native.Mathlib.Omega.{arith}
use borrow.Author.Tests.{eq-eqb, le-ltb, eqb-true, ltb-false}
use lib.Dec.{ltb, eqb}
use lib.ListN.{length, get_or, take, drop, drop_of_length-le}
use lib.Seq.{take-append_seam}
use Rattle.octets.specs.Bytes.{Bytes}
use Rattle.octets.proofs.Elements.{bytes_drop}
use Rattle.key_book.specs.Limits.{rows_most}
use Rattle.book_card.specs.declared.CardForm.{CardForm}
use Rattle.book_card.specs.Layout.{count_size, key_at, close_size}
use Rattle.book_card.specs.Card.{Row, row_record, row_records, close, card_of, RowFits, empty_row, InOrder, IsCard}
use Rattle.book_card.specs.Reader.{form_in, front_of, row_front, CardEnd, closed, fault, FrontRows}
use Rattle.book_card.specs.Reader.{ended, with_row, step_from, front_from, rows_in_front, low_after, rows_by, card_in, read_card}
use Rattle.book_card.specs.Laws.{FrontSays, CardSays, MalformedSays}
use Rattle.book_card.specs.declared.Front.{Front}
use Rattle.book_card.specs.declared.Front.TheVariants.{Broken, Row as RowFront, Close}
use Rattle.book_card.proofs.Forms.{form_kind}
use Rattle.book_card.proofs.Steps.{go_on, on_none, on_more, front_step, in_front_lem, read_is}
use Rattle.book_card.proofs.Shape.{close_size_lem, records_cons, records_none, card_is, row_read, front_of_row, row_of_front, front_of_close}
use Rattle.book_card.proofs.Shape.{GoodRow, GoodClose, FrontGood, front_good}
use Rattle.std.specs.Prelude.{None, Option, Some}

module _ (form : CardForm) where
  -- rows that fit, with ids that ascend strictly from `low` on
  unfoldable pub After : ℕ → List Row → Type 0
  After low [] = Unit {0}
  After low (r ∷ rows) = (low ≤ r.id) × (RowFits form r × After (suc r.id) rows)

  after_at : (low : ℕ) (rows : List Row) → After low rows → (k : ℕ) → k < length rows
      → (low ≤ (get_or rows k empty_row).id) × RowFits form (get_or rows k empty_row)
  unfolding After
  after_at low [] a k h = absurd (omega arith)
  after_at low (r ∷ rows) a zero h = (a.0, a.1.0)
  after_at low (r ∷ rows) a (suc k) h =
      let l = a.0 in
      let t = after_at (suc r.id) rows a.1.1 k (omega arith) in
      let m = t.0 in
      (omega arith, t.1)

  after_ascends : (low : ℕ) (rows : List Row) → After low rows → (j k : ℕ) → j < k → k < length rows
      → (get_or rows j empty_row).id < (get_or rows k empty_row).id
  unfolding After
  after_ascends low [] a j k l h = absurd (omega arith)
  after_ascends low (r ∷ rows) a j zero l h = absurd (omega arith)
  after_ascends low (r ∷ rows) a zero (suc k) l h = let t = (after_at (suc r.id) rows a.1.1 k (omega arith)).0 in omega arith
  after_ascends low (r ∷ rows) a (suc j) (suc k) l h = after_ascends (suc r.id) rows a.1.1 j k (omega arith) (omega arith)

  ascends_after : (low : ℕ) (rows : List Row) → ((k : ℕ) → k < length rows → low ≤ (get_or rows k empty_row).id)
      → ((k : ℕ) → k < length rows → RowFits form (get_or rows k empty_row))
      → ((j k : ℕ) → j < k → k < length rows → (get_or rows j empty_row).id < (get_or rows k empty_row).id) → After low rows
  unfolding After
  ascends_after low [] l f a = tt
  ascends_after low (r ∷ rows) l f a = (
    l 0 (omega arith),
    (
      f 0 (omega arith),
      ascends_after (suc r.id) rows (λ k h. a 0 (suc k) (omega arith) (omega arith)) (λ k h. f (suc k) (omega arith))
          (λ j k m h. a (suc j) (suc k) (omega arith) (omega arith)),
    ),
  )

  pub in_order_after : (rows : List Row) → InOrder form rows → After 0 rows
  in_order_after rows o = ascends_after 0 rows (λ k h. omega arith) o.fit o.ascend

  pub after_in_order : (rows : List Row) → After 0 rows → length rows ≤ rows_most → InOrder form rows
  after_in_order rows a l = record { few = l; fit = λ k h. (after_at 0 rows a k h).1; ascend = after_ascends 0 rows a }

  -- rows, and what is in front of the bytes that follow them
  abbrev ahead : List Row → FrontRows → FrontRows
  ahead rows f = record { rows = rows ++ f.rows; ends = f.ends; rest = f.rest }

  -- rows in order whose records stand in front are read, and reading goes on behind them
  reads : (rows : List Row) (left low n : ℕ) (t : List ℕ) → After low rows → length rows ≤ left
      → front_from form left low n (row_records form rows ++ t) ≡ ahead rows (front_from form (left - length rows) (low_after low rows) (n + length rows) t)
  unfolding After low_after
  reads [] left low n t a l =
      let z : left ≡ left - 0 = omega arith in
      ap (front_from form left low n) (records_none form t) ∙ ap₂ (λ (x y : ℕ). front_from form x low y t) z (sym (add-zero n))
  reads (r ∷ rows) zero low n t a l = absurd (omega arith)
  reads (r ∷ rows) (suc left) low n t a l =
      let u = row_records form rows ++ t in
      let s = row_record form r ++ u in
      let f = a.1.0 in
      let size = length r.key in
      let e : suc n + length rows ≡ n + suc (length rows) = omega arith in
      let d : left - length rows ≡ suc left - suc (length rows) = omega arith in
      ap (front_from form (suc left) low n) (records_cons form r rows t)
      ∙ front_step form (suc left) low n s ∙ ap (step_from form (go_on form (suc left) s) low n s) (front_of_row form r u f)
      ∙ ap (λ (b : Bool). cond b (ended fault s)
      (go_on form (suc left) s (row_front form s r.id r.mark r.received r.sent size) (suc r.id) (suc n) (drop (key_at form + size) s)))
      (le-ltb r.id low a.0)
      ∙ on_more form left s (row_front form s r.id r.mark r.received r.sent size) (suc r.id) (suc n) (drop (key_at form + size) s)
      ∙ ap₂ (λ (q : Row) (l : List ℕ). with_row q (front_from form left (suc r.id) (suc n) l)) (row_of_front form r u f) (row_read form r u f).rest
      ∙ ap (with_row r) (reads rows left (suc r.id) (suc n) t a.1.1 (omega arith))
      ∙ ap₂ (λ (x y : ℕ). ahead (r ∷ rows) (front_from form x (low_after (suc r.id) rows) y t)) d e

  reads_close : (left low n : ℕ) → n < 256 ^ count_size → front_from form left low n (close n) ≡ ended closed (close n)
  reads_close left low n h =
      let e : front_of form (close n) ≡ Close n = ap (front_of form) (sym (append-nil (close n))) ∙ front_of_close form n [] h in
      front_step form left low n (close n) ∙ ap (step_from form (go_on form left (close n)) low n (close n)) e
      ∙ rw (eq-eqb _ close_size (close_size_lem n), eq-eqb n n refl)

  -- the rows of a card stand in front of it and end closed
  reads_card : (rows : List Row) → InOrder form rows
      → rows_in_front form (card_of form rows) ≡ record { rows = rows; ends = closed; rest = close (length rows) }
  reads_card rows o =
      let f = o.few in
      let z : 0 + length rows ≡ length rows = omega arith in
      let left = rows_most - length rows in
      let low = low_after 0 rows in
      in_front_lem form (card_of form rows) ∙ ap (front_from form rows_most 0 0) (card_is form rows)
      ∙ reads rows rows_most 0 0 (close (length rows)) (in_order_after rows o) f
      ∙ ap (λ (n : ℕ). ahead rows (front_from form left low n (close (length rows)))) z ∙ ap (ahead rows) (reads_close left low (length rows) (omega arith))
      ∙ ap (λ (x : List Row). record { rows = x; ends = closed; rest = close (length rows) }) (append-nil rows)

  -- what the reader gives: at most `left` rows, in order, whose records the bytes begin with; behind them the close where they end closed
  record Good (left low n : ℕ) (s : List ℕ) (f : FrontRows) : Type 0 where
    pub ordered : After low f.rows
    pub few : length f.rows ≤ left
    pub bytes : s ≡ row_records form f.rows ++ f.rest
    pub closes : f.ends ≡ closed → f.rest ≡ close (n + length f.rows)

  good_fault : (left low n : ℕ) (s : List ℕ) → Good left low n s (ended fault s)
  unfolding After
  good_fault left low n s =
      record {
        ordered = tt;
        few = omega arith;
        bytes = sym (records_none form s);
        closes = λ e. absurd (let z : ◌≡◌ {A = ℕ} 0 1 = cc in omega arith);
      }

  good_closed : (left low n m : ℕ) (s : List ℕ) → GoodClose s m → length s ≡ close_size → m ≡ n → Good left low n s (ended closed s)
  unfolding After
  good_closed left low n m s g e q =
      let l : length s ≤ close_size = omega arith in
      record {
        ordered = tt;
        few = omega arith;
        bytes = sym (records_none form s);
        closes = λ _. g.bytes ∙ ap₂ (λ (x : ℕ) (r : List ℕ). close x ++ r) q (drop_of_length-le s l) ∙ append-nil (close n) ∙ ap close (sym (add-zero n));
      }

  good_onto : (left low n id mark received sent size : ℕ) (s : List ℕ) (f : FrontRows) → low ≤ id → GoodRow form s id mark received sent size
      → Good left (suc id) (suc n) (drop (key_at form + size) s) f
      → Good (suc left) low n s (with_row (row_front form s id mark received sent size) f)
  unfolding After
  good_onto left low n id mark received sent size s f l g a =
      let r = row_front form s id mark received sent size in
      let t = a.few in
      let e : suc n + length f.rows ≡ n + suc (length f.rows) = omega arith in
      record {
        ordered = (l, (g.fits, a.ordered));
        few = omega arith;
        bytes = g.bytes ∙ ap (λ (x : List ℕ). row_record form r ++ x) a.bytes ∙ sym (records_cons form r f.rows f.rest);
        closes = λ c. a.closes c ∙ ap close e;
      }

  module _ (left low n : ℕ) (s : List ℕ) where
    good_step : ((id mark received sent size : ℕ) → low ≤ id → GoodRow form s id mark received sent size
        → Good left low n s (go_on form left s (row_front form s id mark received sent size) (suc id) (suc n) (drop (key_at form + size) s)))
        → (f : Front) → FrontGood form s f → Good left low n s (step_from form (go_on form left s) low n s f)
    good_step ih Broken g = good_fault left low n s
    good_step ih (Close m) g = on (eqb (length s) close_size) refl (eqb m n) refl
      where
        on : (t : Bool) → eqb (length s) close_size ≡ t → (u : Bool) → eqb m n ≡ u
            → Good left low n s (cond t (cond u (ended closed s) (ended fault s)) (ended fault s))
        on false p u q = good_fault left low n s
        on true p false q = good_fault left low n s
        on true p true q = good_closed left low n m s g (eqb-true (length s) close_size p) (eqb-true m n q)
    good_step ih (RowFront id mark received sent size) g = on (ltb id low) refl
      where
        on : (t : Bool) → ltb id low ≡ t
            → Good left low n s
            (cond t (ended fault s) (go_on form left s (row_front form s id mark received sent size) (suc id) (suc n) (drop (key_at form + size) s)))
        on true p = good_fault left low n s
        on false p = ih id mark received sent size (ltb-false id low p) g

  good : (left low n : ℕ) (s : List ℕ) → Bytes s → Good left low n s (front_from form left low n s)
  good zero low n s h =
      rw (front_step form zero low n s)
      (good_step zero low n s (λ id mark received sent size l g. rw (on_none form) (good_fault zero low n s)) (front_of form s) (front_good form s h))
  good (suc left) low n s h =
      rw (front_step form (suc left) low n s)
      (good_step (suc left) low n s
      (λ id mark received sent size l g. rw (on_more form)
      (good_onto left low n id mark received sent size s _ l g
      (good left (suc id) (suc n) (drop (key_at form + size) s) (bytes_drop (key_at form + size) s h))))
      (front_of form s) (front_good form s h))

pub front_says : FrontSays
front_says form s h =
    let f = rows_in_front form s in
    let g : Good form rows_most 0 0 s f = rw (in_front_lem form s) (good form rows_most 0 0 s h) in
    let o = after_in_order form f.rows g.ordered g.few in
    let z : 0 + length f.rows ≡ length f.rows = omega arith in
    record {
      order = o;
      bytes = g.bytes;
      most = λ rows rest p e.
          let q = in_front_lem form (row_records form rows ++ rest) ∙ reads form rows rows_most 0 0 rest (in_order_after form rows p) p.few in
          sym (ap (λ (x : List ℕ). take (length rows) (rows_in_front form x).rows) e
          ∙ ap (λ (x : FrontRows). take (length rows) x.rows) q ∙ take-append_seam rows _);
      ends_closed = (
        λ c. g.bytes ∙ ap (λ (x : List ℕ). row_records form f.rows ++ x) (g.closes c ∙ ap close z) ∙ sym (card_is form f.rows),
        λ e. ap (λ (x : List ℕ). (rows_in_front form x).ends) e ∙ ap (λ (x : FrontRows). x.ends) (reads_card form f.rows o),
      );
    }

-- the rows of a card are those in front, ended closed
pub record Closed (f : FrontRows) (rows : List Row) : Type 0 where
  pub those : f.rows ≡ rows
  pub ended_closed : f.ends ≡ closed

card_closed : (f : FrontRows) (rows : List Row) → card_in f ≡ Some rows → Closed f rows
card_closed f rows e = on f.ends refl e
  where
    on : (x : CardEnd) → f.ends ≡ x → rows_by f.rows x ≡ Some rows → Closed f rows
    on closed p q = record { those = cc; ended_closed = p }
    on fault p q = absurd (let z : ◌≡◌ {A = ℕ} 0 1 = cc in omega arith)

-- what is read in a form is a card of that form
pub front_card : (form : CardForm) (s : List ℕ) → Bytes s → (rows : List Row) → card_in (rows_in_front form s) ≡ Some rows → IsCard form rows s
front_card form s h rows e =
    let c = card_closed (rows_in_front form s) rows e in
    let f = front_says form s h in
    record { order = rw (← c.those) f.order; bytes = f.ends_closed.0 c.ended_closed ∙ ap (card_of form) c.those }

-- a card of no rows is the same in both forms, and read alike
none_read_so : (form other : CardForm) → card_in (rows_in_front other (card_of form [])) ≡ Some []
none_read_so form other =
    ap (λ (s : List ℕ). card_in (rows_in_front other s))
    (card_is form [] ∙ records_none form (close 0) ∙ sym (card_is other [] ∙ records_none other (close 0)))
    ∙ ap card_in (reads_card other [] (record { few = omega arith; fit = λ k h. absurd (omega arith); ascend = λ j k l h. absurd (omega arith) }))

-- a card is read in the form that its first record shows
card_read : (form : CardForm) (rows : List Row) → InOrder form rows → card_in (rows_in_front (form_in (card_of form rows)) (card_of form rows)) ≡ Some rows
card_read form [] o = none_read_so form (form_in (card_of form []))
card_read form (r ∷ rows) o =
    let s = card_of form (r ∷ rows) in
    let more = row_records form rows ++ close (suc (length rows)) in
    let e : s ≡ row_record form r ++ more = card_is form (r ∷ rows) ∙ records_cons form r rows (close (suc (length rows))) in
    let q = row_read form r more (o.fit 0 (omega arith)) in
    let is : form ≡ form_in s = rw e (form_kind (row_record form r ++ more) (let l = q.long in omega arith) form q.kind) in
    ap (λ (f : CardForm). card_in (rows_in_front f s)) (sym is) ∙ ap card_in (reads_card form (r ∷ rows) o)

pub card_says : CardSays
card_says s h rows = (
  λ e. (form_in s, front_card (form_in s) s h rows (sym (read_is s) ∙ e)),
  λ c. read_is s ∙ ap (λ (x : List ℕ). card_in (rows_in_front (form_in x) x)) c.1.bytes ∙ card_read c.0 rows c.1.order,
)

-- bytes of which no rows are read read as none
none_read : (s : List ℕ) → ((rows : List Row) → read_card s ≡ Some rows → ⊥) → read_card s ≡ None
none_read s k = on (read_card s) refl
  where
    on : (o : Option (List Row)) → read_card s ≡ o → read_card s ≡ None
    on None e = e
    on (Some rows) e = absurd (k rows e)

pub malformed_says : MalformedSays
malformed_says s h = (
  λ e rows c. let q = (card_says s h rows).1 c in let z : ◌≡◌ {A = ℕ} 0 1 = cc in omega arith,
  λ f. none_read s (λ rows e. f rows ((card_says s h rows).0 e)),
)
