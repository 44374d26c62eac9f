-- Reading records one after the other: what comes next, what each turn of `read_rows` keeps, and each of its ends.
use mathlib.Core.Path.{◌≡◌, refl, sym, ap, ap₂, ◌∙◌}
use mathlib.Core.Logic.{◌≢◌}
use mathlib.Core.Bool.{Bool, true, false, cond}
use mathlib.Core.List.{List, []}
use Prim.Native.Nat.{ℕ, suc, ◌+◌, ◌-◌, ◌≤◌, ◌<◌}
use native.Mathlib.Omega.{arith}
use borrow.Author.Tests.{eq-eqb, ne_eqb, lt-ltb, le-ltb, le-leb, lt-leb, leb-false, leb-true}
use lib.Dec.{leb, ltb, eqb}
use lib.ListN.{length, take, drop, length-drop}
use lib.Seq.{drop-drop, drop-length}
use Rattle.key_book.specs.Limits.{rows_most}
use Rattle.key_book.specs.Book.{Book, Sized}
use Rattle.book_card.specs.declared.CardForm.{CardForm}
use Rattle.book_card.specs.declared.Front.{Front}
use Rattle.book_card.specs.declared.Front.TheVariants.{Broken, Row as RowFront, Close as CloseFront}
use Rattle.book_card.specs.Layout.{key_at, close_size}
use Rattle.book_card.specs.Card.{Row, row_with}
use Rattle.book_card.specs.Reader.{front_of, wants, row_front}
use Rattle.book_card.specs.Reading.{put_row}
use Rattle.book_card.proofs.Wants.{FrontFits, front_fits}
use Rattle.card_pieces.specs.declared.Phase.{Phase}
use Rattle.card_pieces.specs.declared.Phase.TheVariants.{Reading, Closed, Fault}
use Rattle.card_pieces.specs.declared.Next.{Next}
use Rattle.card_pieces.specs.declared.Next.TheVariants.{Cut, Close, Fault as NoRecord, Row as RowNext}
use Rattle.card_pieces.specs.declared.Pass.{Pass}
use Rattle.card_pieces.specs.Runs.{Run, stopped_run, run, put_rows, Outcome, outcome, next_by, next_of, stop_by, onward}
use Rattle.card_pieces.proofs.Runs.{fault_run, onto_run, run_to, run_is, go_run, step_run, run_on}
use Rattle.card_pieces.proofs.Spare.{put_kept}

-- ---- what comes next, as `next_at` tests it

module _ (form : CardForm) (low n : ℕ) (s : List ℕ) (w : Bool) (ew : w ≡ wants s) where
  pub next_cut : w ≡ true → Cut ≡ next_of form low n s
  unfolding next_of
  next_cut h = rw (sym ew ∙ h)

  module _ (h : w ≡ false) where
    by_front : (f : Front) → f ≡ front_of form s → next_by low n s f ≡ next_of form low n s
    unfolding next_of
    by_front f e = rw (sym ew ∙ h, ← e)

    pub next_broken : Broken ≡ front_of form s → NoRecord ≡ next_of form low n s
    next_broken e = by_front Broken e

    module _ (m : ℕ) (e : CloseFront m ≡ front_of form s) where
      pub next_long : length s ≢ close_size → NoRecord ≡ next_of form low n s
      next_long l = rw (ne_eqb (length s) close_size l) at (by_front (CloseFront m) e)

      module _ (l : length s ≡ close_size) where
        pub next_number : m ≢ n → NoRecord ≡ next_of form low n s
        next_number k = rw (eq-eqb (length s) close_size l, ne_eqb m n k) at (by_front (CloseFront m) e)

        pub next_close : m ≡ n → Close ≡ next_of form low n s
        next_close k = rw (eq-eqb (length s) close_size l, eq-eqb m n k) at (by_front (CloseFront m) e)

    module _ (id mark received sent size : ℕ) (e : RowFront id mark received sent size ≡ front_of form s) where
      pub next_many : rows_most ≤ n → NoRecord ≡ next_of form low n s
      next_many l = rw (le-leb rows_most n l) at (by_front (RowFront id mark received sent size) e)

      module _ (l : n < rows_most) where
        pub next_low : id < low → NoRecord ≡ next_of form low n s
        next_low k = rw (lt-leb rows_most n l, lt-ltb id low k) at (by_front (RowFront id mark received sent size) e)

        pub next_row : low ≤ id → RowNext id mark received sent size ≡ next_of form low n s
        next_row k = rw (lt-leb rows_most n l, le-ltb id low k) at (by_front (RowFront id mark received sent size) e)

-- ---- what that says of reading on

pub record NextRow (form : CardForm) (low n : ℕ) (s : List ℕ) (id mark received sent size : ℕ) : Type 0 where
  pub few : n < rows_most
  pub inside : key_at form + size ≤ length s
  pub goes : run form low n s ≡ onto_run (row_front form s id mark received sent size) (run form (suc id) (suc n) (drop (key_at form + size) s))

abbrev pub NextSays : CardForm → ℕ → ℕ → List ℕ → Next → Type 0
NextSays form low n s Cut = wants s ≡ true
NextSays form low n s Close = run form low n s ≡ stopped_run low Closed []
NextSays form low n s NoRecord = run form low n s ≡ fault_run low
NextSays form low n s (RowNext id mark received sent size) = NextRow form low n s id mark received sent size

module _ (form : CardForm) (low n : ℕ) (s : List ℕ) (few : n ≤ rows_most) where
  abbrev left : ℕ
  left = rows_most - n

  runs : wants s ≡ false → (f : Front) → front_of form s ≡ f → run form low n s ≡ step_run form left low n s f
  runs w f e = run_is form low n s ∙ run_on form left low n s w f e

  says_close : wants s ≡ false → (m : ℕ) → front_of form s ≡ CloseFront m → (t u : Bool) → eqb (length s) close_size ≡ t → eqb m n ≡ u
      → NextSays form low n s (cond t (cond u Close NoRecord) NoRecord)
  says_close w m e true true p q = runs w (CloseFront m) e ∙ rw (p, q)
  says_close w m e true false p q = runs w (CloseFront m) e ∙ rw (p, q)
  says_close w m e false u p q = runs w (CloseFront m) e ∙ rw p

  says_row : wants s ≡ false → (id mark received sent size : ℕ) → front_of form s ≡ RowFront id mark received sent size → key_at form + size ≤ length s
      → (t u : Bool) → leb rows_most n ≡ t → ltb id low ≡ u
      → NextSays form low n s (cond t NoRecord (cond u NoRecord (RowNext id mark received sent size)))
  unfolding go_run
  says_row w id mark received sent size e h true u p q =
      let l = leb-true rows_most n p in
      let z : left ≡ 0 = omega arith in
      runs w (RowFront id mark received sent size) e
      ∙ ap (λ (x : ℕ). step_run form x low n s (RowFront id mark received sent size)) z ∙ both (ltb id low)
    where
      both : (b : Bool) → cond b (fault_run low) (fault_run low) ≡ fault_run low
      both true = refl
      both false = refl
  says_row w id mark received sent size e h false true p q = runs w (RowFront id mark received sent size) e ∙ rw q
  says_row w id mark received sent size e h false false p q =
      let l = leb-false rows_most n p in
      let z : left ≡ suc (rows_most - suc n) = omega arith in
      record {
        few = omega arith;
        inside = h;
        goes = runs w (RowFront id mark received sent size) e
            ∙ ap (λ (x : ℕ). step_run form x low n s (RowFront id mark received sent size)) z
            ∙ ap (λ (b : Bool). cond b (fault_run low)
            (onto_run (row_front form s id mark received sent size) (run_to form (rows_most - suc n) (suc id) (suc n) (drop (key_at form + size) s)))) q
            ∙ ap (onto_run (row_front form s id mark received sent size)) (sym (run_is form (suc id) (suc n) (drop (key_at form + size) s)));
      }

  says_by : wants s ≡ false → (f : Front) → front_of form s ≡ f → FrontFits form s f → NextSays form low n s (next_by low n s f)
  unfolding FrontFits
  says_by w Broken e g = runs w Broken e
  says_by w (CloseFront m) e g = says_close w m e (eqb (length s) close_size) (eqb m n) refl refl
  says_by w (RowFront id mark received sent size) e g = says_row w id mark received sent size e g.0 (leb rows_most n) (ltb id low) refl refl

  pub next_says : NextSays form low n s (next_of form low n s)
  unfolding next_of
  next_says = on (wants s) refl
    where
      on : (t : Bool) → wants s ≡ t → NextSays form low n s (cond t Cut (next_by low n s (front_of form s)))
      on true w = w
      on false w = says_by w (front_of form s) refl (front_fits form s)

-- ---- turn after turn

-- up to `at` the records are read: reading on from there, with the spare rows c as they are now, leaves what the whole leaves
pub record Passing (form : CardForm) (s : List ℕ) (before least : ℕ) (b c : Book) (at rows low : ℕ) : Type 0 where
  pub inside : at ≤ length s
  pub risen : before ≤ rows
  pub few : rows ≤ rows_most
  pub sizes : Sized c
  pub goes : outcome c rows (run form low rows (drop at s)) ≡ outcome b before (run form least before s)

pub passing_start : (form : CardForm) (s : List ℕ) (before least : ℕ) (b : Book) → before ≤ rows_most → Sized b
    → Passing form s before least b b 0 before least
passing_start form s before least b h z = record { inside = omega arith; risen = omega arith; few = h; sizes = z; goes = refl }

outcome_onto : (c : Book) (n : ℕ) (r : Row) (q : Run) → outcome (put_row c n r) (suc n) q ≡ outcome c n (onto_run r q)
unfolding outcome put_rows
outcome_onto c n r q =
    let e : suc n + length q.rows ≡ n + suc (length q.rows) = omega arith in
    ap {B = Outcome} (λ (m : ℕ). record {
      spare = put_rows (put_row c n r) (suc n) q.rows;
      rows = m;
      low = q.low;
      phase = q.phase;
      rest = q.rest;
    }) e

module _ {form : CardForm} {s : List ℕ} {before least : ℕ} {b c : Book} {at rows low : ℕ} (p : Passing form s before least b c at rows low) where
  abbrev rest : List ℕ
  rest = drop at s

  abbrev whole : Outcome
  whole = outcome b before (run form least before s)

  abbrev passed : ℕ → Phase → Pass
  passed to phase = record { at = to; rows = rows; low = low; phase = phase }

  -- how `read_rows` ends: the place, the wish for more bytes, and what is left to be read
  abbrev Ends : ℕ → ℕ → Phase → Type 0
  Ends until to phase =
      (to ≤ length s)
      × (((before ≤ rows) × (rows ≤ rows_most)) × ((phase ≡ Reading → to < until → wants (drop to s) ≡ true) × (Sized c × (outcome c rows (onward form
      (passed to phase) s) ≡ whole))))

  pub ends_until : (until : ℕ) → until ≤ at → Ends until at Reading
  unfolding onward
  ends_until until h = (p.inside, ((p.risen, p.few), ((λ e l. absurd (omega arith)), (p.sizes, p.goes))))

  pub ends_cut : (until : ℕ) → Cut ≡ next_of form low rows rest → Ends until at Reading
  unfolding onward
  ends_cut until e = (p.inside, ((p.risen, p.few), ((λ r l. rw (← e) at (next_says form low rows rest p.few)), (p.sizes, p.goes))))

  -- behind the close or a fault nothing is left
  pub ends_close : (until : ℕ) → until ≤ length s → Close ≡ next_of form low rows rest → Ends until (length s) Closed
  unfolding onward
  ends_close until h e =
      let q : run form low rows rest ≡ stopped_run low Closed [] = rw (← e) at (next_says form low rows rest p.few) in
      let g = ap (λ (x : List ℕ). outcome c rows (stopped_run low Closed x)) (drop-length s) ∙ ap (outcome c rows) (sym q) ∙ p.goes in
      (omega arith, ((p.risen, p.few), ((λ r l. absurd (omega arith)), (p.sizes, g))))

  pub ends_fault : (until : ℕ) → until ≤ length s → NoRecord ≡ next_of form low rows rest → Ends until (length s) Fault
  unfolding onward
  ends_fault until h e =
      let q : run form low rows rest ≡ fault_run low = rw (← e) at (next_says form low rows rest p.few) in
      let g = ap (λ (x : List ℕ). outcome c rows (stopped_run low Fault x)) (drop-length s) ∙ ap (outcome c rows) (sym q) ∙ p.goes in
      (omega arith, ((p.risen, p.few), ((λ r l. absurd (omega arith)), (p.sizes, g))))

  -- a pass that stops where no row comes next
  abbrev EndsAs : ℕ → Pass → Type 0
  EndsAs until r =
      (r.at ≤ length s)
      × (((before ≤ r.rows) × (r.rows ≤ rows_most))
      × ((r.phase ≡ Reading → r.at < until → wants (drop r.at s) ≡ true) × (Sized c × (outcome c r.rows (onward form r s) ≡ whole))))

  pub ends_stop : (until : ℕ) → until ≤ length s → (x : Next) → x ≡ next_of form low rows rest
      → ((id mark received sent size : ℕ) → x ≡ RowNext id mark received sent size → ⊥) → (r : Pass) → r ≡ stop_by at (length s) rows low x → EndsAs until r
  ends_stop until h Cut e k r er = rw er (ends_cut until e)
  ends_stop until h Close e k r er = rw er (ends_close until h e)
  ends_stop until h NoRecord e k r er = rw er (ends_fault until h e)
  ends_stop until h (RowNext id mark received sent size) e k r er = absurd (k id mark received sent size refl)

  module _ (id mark received sent size : ℕ) (e : RowNext id mark received sent size ≡ next_of form low rows rest) where
    row_says : NextRow form low rows rest id mark received sent size
    row_says = rw (← e) at (next_says form low rows rest p.few)

    pub row_few : rows < rows_most
    row_few = row_says.few

    pub row_inside : at + (key_at form + size) ≤ length s
    row_inside =
        let i = row_says.inside in
        let l = length-drop at s in
        let n = p.inside in
        omega arith

    -- the row as the code hands it on: its key, from where it starts to where it ends
    pub passing_turn : (k : ℕ) → k ≡ key_at form → (d : Book)
        → d ≡ put_row c rows (row_with id mark received sent (take (at + k + size - (at + k)) (drop (at + k) s)))
        → Passing form s before least b d (at + k + size) (rows + 1) (id + 1)
    passing_turn k ek d g =
        let says = row_says in
        let few = says.few in
        let i = row_inside in
        let r = row_front form rest id mark received sent size in
        let key : take (at + k + size - (at + k)) (drop (at + k) s) ≡ take size (drop (key_at form) rest) =
        ap₂ (λ (x : ℕ) (y : List ℕ). take x y) (let z : at + k + size - (at + k) ≡ size = omega arith in z)
        (ap (λ (x : ℕ). drop (at + x) s) ek ∙ sym (drop-drop (key_at form) at s)) in
        let dr : d ≡ put_row c rows r = g ∙ ap (λ (x : List ℕ). put_row c rows (row_with id mark received sent x)) key in
        let kept = put_kept c rows r in
        let n₁ : at + k + size ≡ at + (key_at form + size) = omega arith in
        let n₂ : rows + 1 ≡ suc rows = omega arith in
        let n₃ : id + 1 ≡ suc id = omega arith in
        let q = run form (suc id) (suc rows) (drop (key_at form + size) rest) in
        let same_rest : drop (at + k + size) s ≡ drop (key_at form + size) rest =
        ap (λ (n : ℕ). drop n s) n₁ ∙ sym (drop-drop (key_at form + size) at s) in
        record {
          inside = omega arith;
          risen = omega (arith, p.risen);
          few = omega arith;
          sizes = rw dr (kept.sizes_kept p.sizes);
          goes = ap₂ (λ (x : Book) (y : List ℕ). outcome x (rows + 1) (run form (id + 1) (rows + 1) y)) dr same_rest
              ∙ ap₂ (λ (x y : ℕ). outcome (put_row c rows r) x (run form y x (drop (key_at form + size) rest))) n₂ n₃
              ∙ outcome_onto c rows r q ∙ ap (outcome c rows) (sym says.goes) ∙ p.goes;
        }
