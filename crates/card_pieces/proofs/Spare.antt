-- Spare rows: setting rows one by one is setting the first of them at once, as many as have room; and copied over to a book they are loaded there.
use mathlib.Core.Path.{◌≡◌, refl, sym, ap, ◌∙◌}
use mathlib.Core.Bool.{Bool, true, false, cond, ◌&&◌, and-eq-true_iff}
use mathlib.Core.List.{List, [], ◌∷◌, ◌++◌, map}
use Prim.Native.Nat.{ℕ, zero, suc, ◌+◌, ◌-◌, ◌*◌, ◌≤◌, ◌<◌}
use native.Mathlib.Nat.{add-zero}
use native.Mathlib.Omega.{arith}
use borrow.Author.Tests.{ltb-true, ltb-false, leb-true}
use lib.Dec.{leb, ltb}
use lib.ListN.{length, take, length-map}
use lib.Seq.{take-nil}
use Rattle.octets.specs.Bytes.{written}
use Rattle.octets.proofs.Written.{take_written}
use Rattle.key_book.specs.Limits.{slot_size}
use Rattle.key_book.specs.Book.{Book, book_of, Sized, sized}
use Rattle.key_book.proofs.Says.{sized_says}
use Rattle.book_card.specs.Card.{Row}
use Rattle.book_card.specs.Reading.{slots_of, set_row, put_row, loaded}
use Rattle.book_card.proofs.Slots.{Fit, slots_length}
use Rattle.book_card.proofs.Loads.{row_set_long, row_set_sized, put_set, put_past, set_from, set_all, set_none, set_cons}
use Rattle.card_pieces.specs.Runs.{put_rows}
use Rattle.card_pieces.specs.Pieces.{copied}
use Rattle.card_pieces.specs.Laws.{overlaid}

-- some rows, then more behind them
pub put_append : (b : Book) (k : ℕ) (xs ys : List Row) → put_rows b k (xs ++ ys) ≡ put_rows (put_rows b k xs) (k + length xs) ys
unfolding put_rows
put_append b k [] ys = ap (λ (n : ℕ). put_rows b n ys) (sym (add-zero k))
put_append b k (x ∷ xs) ys =
    let e : suc k + length xs ≡ k + suc (length xs) = omega arith in
    put_append (put_row b k x) (suc k) xs ys ∙ ap (λ (n : ℕ). put_rows (put_rows (put_row b k x) (suc k) xs) n ys) e

-- ---- what stays: the room, that the sizes agree, and how many rows are in use

pub record Kept (b c : Book) : Type 0 where
  pub ids_kept : length c.ids ≡ length b.ids
  pub sizes_kept : Sized b → Sized c
  pub rows_kept_lem : c.rows ≡ b.rows

kept_same : (b : Book) → Kept b b
kept_same b = record { ids_kept = refl; sizes_kept = λ z. z; rows_kept_lem = refl }

pub put_kept : (b : Book) (k : ℕ) (r : Row) → Kept b (put_row b k r)
unfolding put_row set_row
put_kept b k r = on (sized b && ltb k (length b.ids) && leb (length r.key) slot_size) refl
  where
    on : (t : Bool) → (sized b && ltb k (length b.ids) && leb (length r.key) slot_size) ≡ t → Kept b (cond t (set_row b k r) b)
    on false e = kept_same b
    on true e =
        let t = simp (and-eq-true_iff) at e in
        let h = ltb-true k (length b.ids) t.0.1 in
        let m = leb-true (length r.key) slot_size t.1 in
        let z = (sized_says b).0 t.0.0 in
        record { ids_kept = row_set_long b z k r h m; sizes_kept = λ _. row_set_sized b z k r h m; rows_kept_lem = refl }

pub puts_kept : (b : Book) (k : ℕ) (rows : List Row) → Kept b (put_rows b k rows)
unfolding put_rows
puts_kept b k [] = kept_same b
puts_kept b k (r ∷ rows) =
    let p = put_kept b k r in
    let q = puts_kept (put_row b k r) (suc k) rows in
    record {
      ids_kept = q.ids_kept ∙ p.ids_kept;
      sizes_kept = λ z. q.sizes_kept (p.sizes_kept z);
      rows_kept_lem = q.rows_kept_lem ∙ p.rows_kept_lem;
    }

-- ---- rows set one by one, or at once

-- past the room nothing is changed
puts_past : (b : Book) (k : ℕ) (rows : List Row) → length b.ids ≤ k → put_rows b k rows ≡ b
unfolding put_rows
puts_past b k [] h = refl
puts_past b k (r ∷ rows) h = ap (λ (c : Book). put_rows c (suc k) rows) (put_past b k r h) ∙ puts_past b (suc k) rows (omega arith)

-- each key fits its slot
abbrev pub KeysFit : List Row → Type 0
KeysFit [] = Unit {0}
KeysFit (r ∷ rows) = (length r.key ≤ slot_size) × KeysFit rows

-- a book with so many rows in use
abbrev in_use : ℕ → Book → Book
in_use n b = book_of b.ids b.lengths b.store b.marks b.received b.sent n

-- the rows set at once from row k on, as many as have room
abbrev fitted : Book → ℕ → List Row → Book
fitted b k rows = in_use b.rows (set_from b k (take (length b.ids - k) rows))

fitted_none : (b : Book) (k : ℕ) → fitted b k [] ≡ b
fitted_none b k = ap (λ (rows : List Row). in_use b.rows (set_from b k rows)) (take-nil (length b.ids - k)) ∙ ap (in_use b.rows) (set_none b k k refl)

module _ (b : Book) (z : Sized b) (k : ℕ) (r : Row) (rows : List Row) where
  fitted_past : length b.ids ≤ k → fitted b k (r ∷ rows) ≡ b
  fitted_past h =
      let e : length b.ids - k ≡ 0 = omega arith in
      ap (λ (n : ℕ). in_use b.rows (set_from b k (take n (r ∷ rows)))) e ∙ ap (in_use b.rows) (set_none b k k refl)

  fitted_next : k < length b.ids → length r.key ≤ slot_size → fitted b k (r ∷ rows) ≡ fitted (put_row b k r) (suc k) rows
  fitted_next h t =
      let c = put_row b k r in
      let q = put_kept b k r in
      let i = q.ids_kept in
      let e : length b.ids - k ≡ suc (length c.ids - suc k) = omega arith in
      let n : k + 1 ≡ suc k = omega arith in
      let more = take (length c.ids - suc k) rows in
      ap (λ (m : ℕ). in_use b.rows (set_from b k (take m (r ∷ rows)))) e
      ∙ ap (in_use b.rows) (set_cons b z k r more h t)
      ∙ ap (λ (d : Book). in_use b.rows (set_from d (k + 1) more)) (sym (put_set b k r z h t))
      ∙ ap (λ (m : ℕ). in_use b.rows (set_from c m more)) n
      ∙ ap (λ (m : ℕ). in_use m (set_from c (suc k) more)) (sym q.rows_kept_lem)

put_fitted : (b : Book) → Sized b → (k : ℕ) (rows : List Row) → KeysFit rows → put_rows b k rows ≡ fitted b k rows
unfolding put_rows
put_fitted b z k [] f = sym (fitted_none b k)
put_fitted b z k (r ∷ rows) f =
    on (put_fitted (put_row b k r) ((put_kept b k r).sizes_kept z) (suc k) rows f.1) (ltb k (length b.ids)) refl
  where
    on : put_rows (put_row b k r) (suc k) rows ≡ fitted (put_row b k r) (suc k) rows → (t : Bool) → ltb k (length b.ids) ≡ t
        → put_rows (put_row b k r) (suc k) rows ≡ fitted b k (r ∷ rows)
    on ih true e = ih ∙ sym (fitted_next b z k r rows (ltb-true k (length b.ids) e) f.0)
    on ih false e =
        let h = ltb-false k (length b.ids) e in
        puts_past b k (r ∷ rows) h ∙ sym (fitted_past b z k r rows h)

in_use_loaded : (b : Book) (rows : List Row) → in_use b.rows (loaded b rows) ≡ overlaid b rows
unfolding loaded overlaid
in_use_loaded b rows = refl

pub put_overlaid : (b : Book) → Sized b → (rows : List Row) → KeysFit rows → put_rows b 0 rows ≡ overlaid b (take (length b.ids) rows)
put_overlaid b z rows f =
    let e : length b.ids - 0 ≡ length b.ids = omega arith in
    put_fitted b z 0 rows f
    ∙ ap (λ (n : ℕ). in_use b.rows (set_from b 0 (take n rows))) e
    ∙ ap (in_use b.rows) (set_all b (take (length b.ids) rows))
    ∙ in_use_loaded b (take (length b.ids) rows)

-- ---- copied over to a book

fit_all : (rows : List Row) → KeysFit rows → Fit rows
fit_all [] f k h = absurd (omega arith)
fit_all (r ∷ rows) f zero h = f.0
fit_all (r ∷ rows) f (suc k) h = fit_all rows f.1 k (omega arith)

-- the front of a list, copied over another list's
front_copied : (n : ℕ) (new old to : List ℕ) → length new ≡ n → written 0 (take n (written 0 new old)) to ≡ written 0 new to
front_copied n new old to e =
    let m : n ≡ 0 + length new = omega arith in
    ap (λ (k : ℕ). written 0 (take k (written 0 new old)) to) m ∙ ap (λ (l : List ℕ). written 0 l to) (take_written 0 new old (omega arith))

pub copied_front : (b c : Book) (rows : List Row) → KeysFit rows → copied (length rows) (overlaid b rows) c ≡ loaded c rows
unfolding copied overlaid loaded
copied_front b c rows f =
    let n = length rows in
    let field : (g : Row → ℕ) (old to : List ℕ) → written 0 (take n (written 0 (map g rows) old)) to ≡ written 0 (map g rows) to =
    λ g old to. front_copied n (map g rows) old to (length-map rows g) in
    let slots = front_copied (slot_size * n) (slots_of rows) b.store c.store (slots_length rows (fit_all rows f)) in
    λ i. book_of
    (field (λ (r : Row). r.id) b.ids c.ids i)
    (field (λ (r : Row). length r.key) b.lengths c.lengths i)
    (slots i)
    (field (λ (r : Row). r.mark) b.marks c.marks i)
    (field (λ (r : Row). r.received) b.received c.received i)
    (field (λ (r : Row). r.sent) b.sent c.sent i)
    n
