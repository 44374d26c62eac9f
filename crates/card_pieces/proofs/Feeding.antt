-- The ends of `read_on`, by how reading stood, and of `feed`, by what its tests told.
use mathlib.Core.Path.{◌≡◌, refl, sym, ap, ap₂, ◌∙◌}
use mathlib.Core.Bool.{Bool, true, false, not, ◌&&◌, true≢false}
use mathlib.Core.List.{List, [], ◌++◌}
use Prim.Native.Nat.{ℕ, ◌+◌, ◌≤◌}
use borrow.Author.Tests.{not-true, not-false}
use lib.Dec.{eqb}
use lib.ListN.{length, take, length-append}
use lib.Seq.{length-take-le}
use Rattle.std.specs.Prelude.{Option, Result, Ok, Err}
use Rattle.refusal.specs.declared.Refusal.{Refusal}
use Rattle.refusal.specs.declared.Refusal.TheVariants.{UnsoundBook}
use Rattle.key_book.specs.Book.{Book, Sized, sized}
use Rattle.key_book.proofs.Says.{sized_says}
use Rattle.book_card.specs.declared.CardForm.{CardForm}
use Rattle.card_pieces.specs.declared.Phase.{Phase}
use Rattle.card_pieces.specs.declared.Phase.TheVariants.{Reading, Closed, Fault}
use Rattle.card_pieces.specs.declared.Reader.{Reader}
use Rattle.card_pieces.specs.Runs.{stopped_run, run, run_from, Outcome, outcome, is_reading, behind_by}
use Rattle.card_pieces.specs.Pieces.{held, within, form_by, state_with, settled, reads_on, state_fed, spare_fed, taken, feed_of, feed_spare}
use Rattle.card_pieces.specs.Laws.{Within}
use Rattle.card_pieces.proofs.Limits.{within_says}
use Rattle.card_pieces.proofs.Going.{after_same, stopped_leaves}
use Rattle.card_pieces.proofs.Joins.{feed_taken, feed_refused, spare_taken, spare_refused}

module _ (b : Book) (st : Reader) (piece : List ℕ) where
  -- ---- read_on

  abbrev s : List ℕ
  s = held st ++ piece

  abbrev form : CardForm
  form = form_by s st.form

  abbrev Done : Reader → Book → Type 0
  Done r d = record { state : r ≡ state_fed b st piece; spare : d ≡ spare_fed b st piece }

  -- by what the run leaves
  done_by : (o : Outcome) → reads_on b st s ≡ o → (r : Reader) → r ≡ settled st.form form st.rows o → (d : Book) → d ≡ o.spare → Done r d
  unfolding state_fed spare_fed
  done_by o e r er d ed = record { state = er ∙ ap (settled st.form form st.rows) (sym e); spare = ed ∙ ap (λ (x : Outcome). x.spare) (sym e) }

  module _ (e : st.phase ≡ Reading) where
    reads : reads_on b st s ≡ outcome b st.rows (run form st.low st.rows s)
    unfolding reads_on run_from
    reads = ap (λ (x : Phase). outcome b st.rows (run_from form st.low st.rows s x)) e

    pub on_both : {r : Reader} {d : Book} → let o = outcome b st.rows (run form st.low st.rows s) in
        (r ≡ settled st.form form st.rows o) × (d ≡ o.spare) → Done r d
    on_both {r} {d} both = done_by _ reads r both.0 d both.1

    -- where no bytes are kept, the piece is what is read
    pub on_piece : st.kept ≡ 0 → (f : CardForm) → f ≡ form_by piece st.form → {r : Reader} {d : Book}
        → r ≡ settled st.form f st.rows (outcome b st.rows (run f st.low st.rows piece)) → d ≡ (outcome b st.rows (run f st.low st.rows piece)).spare → Done r d
    on_piece z f ef er ed =
        let p : piece ≡ s = ap (λ (n : ℕ). take n st.tail ++ piece) (sym z) in
        let q : f ≡ form = ef ∙ ap (λ (x : List ℕ). form_by x st.form) p in
        on_both (
          er ∙ ap₂ (λ (x : CardForm) (y : List ℕ). settled st.form x st.rows (outcome b st.rows (run x st.low st.rows y))) q p,
          ed ∙ ap₂ (λ (x : CardForm) (y : List ℕ). (outcome b st.rows (run x st.low st.rows y)).spare) q p,
        )

  -- nothing is read
  stopped : (phase : Phase) → reads_on b st s ≡ outcome b st.rows (stopped_run st.low phase [])
      → (r : Reader) → r ≡ state_with [] st.rows st.low st.form phase → Done r b
  unfolding settled
  stopped phase e r er =
      done_by (record { spare = b; rows = st.rows; low = st.low; phase = phase; rest = [] })
      (e ∙ stopped_leaves form b st.rows st.low phase []) r
      (er ∙ ap (λ (x : Option CardForm). state_with [] st.rows st.low x phase) (sym (after_same st.form form st.rows))) b refl

  -- as `stopped_in` has it: behind the close or a fault
  pub on_stopped : (x : Bool) → x ≡ is_reading st.phase → x ≡ false → st.kept ≤ length st.tail → (m : Bool) → m ≡ not (eqb (st.kept + length piece) 0)
      → (r : Reader) → r ≡ state_with [] st.rows st.low st.form (behind_by m st.phase) → Done r b
  unfolding reads_on run_from
  on_stopped x ex h k m em r er = on st.phase refl (eqb (length s) 0) refl
    where
      long : length s ≡ st.kept + length piece
      long = length-append (held st) piece ∙ ap (λ (n : ℕ). n + length piece) (length-take-le st.kept st.tail k)

      its : (y : Phase) → st.phase ≡ y → (u : Bool) → eqb (length s) 0 ≡ u → r ≡ state_with [] st.rows st.low st.form (behind_by (not u) y)
      its y e u q =
          er ∙ ap₂ (λ (v : Bool) (z : Phase). state_with [] st.rows st.low st.form (behind_by v z))
          (em ∙ ap not (ap (λ (n : ℕ). eqb n 0) (sym long) ∙ q)) e

      reads_in : (y : Phase) → st.phase ≡ y → reads_on b st s ≡ outcome b st.rows (run_from form st.low st.rows s y)
      reads_in y e = ap (λ (z : Phase). outcome b st.rows (run_from form st.low st.rows s z)) e

      on : (y : Phase) → st.phase ≡ y → (u : Bool) → eqb (length s) 0 ≡ u → Done r b
      on Reading e u q = absurd (true≢false (sym (ap is_reading e) ∙ sym ex ∙ h))
      on Closed e true q = stopped Closed (reads_in Closed e ∙ ap (outcome b st.rows) (rw q)) r (its Closed e true q)
      on Closed e false q = stopped Fault (reads_in Closed e ∙ ap (outcome b st.rows) (rw q)) r (its Closed e false q)
      on Fault e true q = stopped Fault (reads_in Fault e) r (its Fault e true q)
      on Fault e false q = stopped Fault (reads_in Fault e) r (its Fault e false q)

  -- ---- feed

  abbrev Ends : Result Reader Refusal → Book → Type 0
  Ends r d = record { answer : r ≡ feed_of b st piece; spare : d ≡ feed_spare b st piece }

  refused : taken b st ≡ false → Ends (Err UnsoundBook) b
  refused h = record { answer = sym (feed_refused b st piece h); spare = sym (spare_refused b st piece h) }

  module _ (t : Bool) (et : t ≡ sized b) (w : Bool) (ew : w ≡ within st.kept st.rows) where
    both : (x y : Bool) → t ≡ x → w ≡ y → taken b st ≡ (x && y)
    both x y p q = ap₂ (λ (u v : Bool). u && v) (sym et ∙ p) (sym ew ∙ q)

    pub feed_limits : not t ≡ false → not w ≡ true → Ends (Err UnsoundBook) b
    feed_limits h k = refused (both true false (not-false t h) (not-true w k))

    module _ (h : not t ≡ false) (k : not w ≡ false) where
      pub feed_on : Within st × Sized b
      feed_on = ((within_says st).0 (sym ew ∙ not-false w k), (sized_says b).0 (sym et ∙ not-false t h))

      pub feed_done : (r : Reader) → r ≡ state_fed b st piece → (d : Book) → d ≡ spare_fed b st piece → Ends (Ok r) d
      feed_done r er d ed =
          let e = both true true (not-false t h) (not-false w k) in
          record { answer = ap Ok er ∙ sym (feed_taken b st piece e); spare = ed ∙ sym (spare_taken b st piece e) }

  pub feed_sizes : (t : Bool) → t ≡ sized b → not t ≡ true → Ends (Err UnsoundBook) b
  feed_sizes t et h =
      refused (ap (λ (u : Bool). u && within st.kept st.rows) (sym et ∙ not-true t h))
