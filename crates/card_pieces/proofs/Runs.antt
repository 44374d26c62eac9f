-- Reading on: the run of bytes that come one part after the other. Reading the first part, and then what it left with the second behind it, is reading
-- both as one. By induction on the rows that may still come; each step is the record in front (book_card, proofs/Wants.antt).
use mathlib.Core.Path.{◌≡◌, refl, sym, ap, ap₂, ◌∙◌}
use mathlib.Core.Logic.{◌≢◌}
use mathlib.Core.Bool.{Bool, true, false, cond}
use mathlib.Core.List.{List, [], ◌∷◌, ◌++◌, append-nil}
use Prim.Native.Nat.{ℕ, zero, suc, ◌+◌, ◌-◌, ◌≤◌}
use native.Mathlib.Nat.{add-zero}
use native.Mathlib.Omega.{arith}
use borrow.Author.Tests.{eq-eqb, ne_eqb, eqb-true, eqb-false}
use lib.Dec.{ltb, eqb}
use lib.ListN.{length, drop, length-append, length-take}
use lib.Seq.{drop-append-le}
use Rattle.key_book.specs.Limits.{rows_most, slot_size}
use Rattle.book_card.specs.declared.CardForm.{CardForm}
use Rattle.book_card.specs.declared.Front.{Front}
use Rattle.book_card.specs.declared.Front.TheVariants.{Broken, Row as RowFront, Close}
use Rattle.book_card.specs.Layout.{key_at, close_size}
use Rattle.book_card.specs.Card.{Row}
use Rattle.book_card.specs.Reader.{front_of, wants, row_front, closed, fault, ended, step_from, front_from, low_after}
use Rattle.book_card.proofs.Steps.{go_on, front_step, on_none, on_more}
use Rattle.book_card.proofs.Wants.{front_append, front_wants, wants_few, FrontFits, front_fits, key_append}
use Rattle.card_pieces.specs.declared.Phase.{Phase}
use Rattle.card_pieces.specs.declared.Phase.TheVariants.{Reading, Closed, Fault}
use Rattle.card_pieces.specs.Runs.{Run, stopped_run, run_of, run, run_from}
use Rattle.card_pieces.specs.Pieces.{tail_most}
use Rattle.card_pieces.proofs.Spare.{KeysFit}

abbrev pub fault_run : ℕ → Run
fault_run low = stopped_run low Fault []

abbrev pub onto_run : Row → Run → Run
onto_run r q = record { rows = r ∷ q.rows; low = q.low; phase = q.phase; rest = q.rest }

module _ (form : CardForm) where
  -- a run of at most `left` rows
  unfoldable pub run_to : ℕ → ℕ → ℕ → List ℕ → Run
  run_to left low n s = run_of low (front_from form left low n s)

  pub run_is : (low n : ℕ) (s : List ℕ) → run form low n s ≡ run_to (rows_most - n) low n s
  unfolding run run_to
  run_is low n s = refl

  -- what comes of a row, however many are still allowed
  unfoldable pub go_run : ℕ → ℕ → Row → ℕ → ℕ → List ℕ → Run
  go_run zero low r l m t = fault_run low
  go_run (suc left) low r l m t = onto_run r (run_to left l m t)

  -- what comes of the record in front, where it wants no more bytes
  abbrev pub step_run : ℕ → ℕ → ℕ → List ℕ → Front → Run
  step_run left low n s Broken = fault_run low
  step_run left low n s (Close m) = cond (eqb (length s) close_size) (cond (eqb m n) (stopped_run low Closed []) (fault_run low)) (fault_run low)
  step_run left low n s (RowFront id mark received sent size) =
      cond (ltb id low) (fault_run low)
      (go_run left low (row_front form s id mark received sent size) (suc id) (suc n) (drop (key_at form + size) s))

  module _ (left low n : ℕ) (s : List ℕ) where
    pub run_wants : wants s ≡ true → run_to left low n s ≡ stopped_run low Reading s
    unfolding run_to low_after
    run_wants w =
        ap (run_of low) (front_step form left low n s ∙ ap (step_from form (go_on form left s) low n s) (front_wants form s w)) ∙ rw w

    -- a fault at these bytes, which want no more
    ends_fault : wants s ≡ false → run_of low (ended fault s) ≡ fault_run low
    unfolding low_after
    ends_fault w = rw w

    go_step : (left : ℕ) (id mark received sent size : ℕ) (t : List ℕ) → wants s ≡ false
        → run_of low (go_on form left s (row_front form s id mark received sent size) (suc id) (suc n) t)
        ≡ go_run left low (row_front form s id mark received sent size) (suc id) (suc n) t
    unfolding go_run run_to low_after
    go_step zero id mark received sent size t w =
        ap (run_of low) (on_none form s (row_front form s id mark received sent size) (suc id) (suc n) t) ∙ ends_fault w
    go_step (suc left) id mark received sent size t w =
        ap (run_of low) (on_more form left s (row_front form s id mark received sent size) (suc id) (suc n) t)

    by_front : wants s ≡ false → (f : Front) → FrontFits form s f → run_of low (step_from form (go_on form left s) low n s f) ≡ step_run left low n s f
    unfolding low_after FrontFits
    by_front w Broken g = ends_fault w
    by_front w (Close m) g = on (eqb (length s) close_size) (eqb m n)
      where
        on : (t u : Bool)
            → run_of low (cond t (cond u (ended closed s) (ended fault s)) (ended fault s))
            ≡ cond t (cond u (stopped_run low Closed []) (fault_run low)) (fault_run low)
        on false u = ends_fault w
        on true false = ends_fault w
        on true true = rw w
    by_front w (RowFront id mark received sent size) g = on (ltb id low)
      where
        on : (t : Bool)
            → run_of low (cond t (ended fault s)
            (go_on form left s (row_front form s id mark received sent size) (suc id) (suc n) (drop (key_at form + size) s)))
            ≡ cond t (fault_run low)
            (go_run left low (row_front form s id mark received sent size) (suc id) (suc n) (drop (key_at form + size) s))
        on true = ends_fault w
        on false = go_step left id mark received sent size (drop (key_at form + size) s) w

    pub run_on : wants s ≡ false → (f : Front) → front_of form s ≡ f → run_to left low n s ≡ step_run left low n s f
    unfolding run_to
    run_on w f e =
        ap (run_of low) (front_step form left low n s) ∙ by_front w (front_of form s) (front_fits form s) ∙ ap (step_run left low n s) e

  -- ---- one part after the other

  -- rows read before, in front of what was read then
  abbrev pub ahead_run : List Row → Run → Run
  ahead_run rows q = record { rows = rows ++ q.rows; low = q.low; phase = q.phase; rest = q.rest }

  -- a run with n rows before it, gone on with the bytes t
  abbrev pub then_run : ℕ → Run → List ℕ → Run
  then_run n q t = ahead_run q.rows (run_from form q.low (n + length q.rows) (q.rest ++ t) q.phase)

  then_fault : (n low : ℕ) (t : List ℕ) → fault_run low ≡ then_run n (fault_run low) t
  unfolding run_from
  then_fault n low t = refl

  then_onto : (n : ℕ) (r : Row) (q : Run) (t : List ℕ) → onto_run r (then_run (suc n) q t) ≡ then_run n (onto_run r q) t
  then_onto n r q t =
      let e : suc n + length q.rows ≡ n + suc (length q.rows) = omega arith in
      ap (λ (m : ℕ). ahead_run (r ∷ q.rows) (run_from form q.low m (q.rest ++ t) q.phase)) e

  -- behind the close
  abbrev pub behind : ℕ → List ℕ → Run
  behind low s = cond (eqb (length s) 0) (stopped_run low Closed []) (fault_run low)

  pub behind_some : (low y : ℕ) (x : List ℕ) → behind low (y ∷ x) ≡ fault_run low
  behind_some low y x = let z : length (y ∷ x) ≡ suc (length x) = refl in rw (ne_eqb (length (y ∷ x)) 0 (λ e. omega arith))

  -- each step
  module _ (left low n : ℕ) (s t : List ℕ) where
    close_append : close_size ≤ length s → (u : Bool) → eqb (length s) close_size ≡ u → (v : Bool)
        → cond (eqb (length (s ++ t)) close_size) (cond v (stopped_run low Closed []) (fault_run low)) (fault_run low)
        ≡ then_run n (cond u (cond v (stopped_run low Closed []) (fault_run low)) (fault_run low)) t
    unfolding run_from
    close_append h true e false = both (eqb (length (s ++ t)) close_size)
      where
        both : (b : Bool) → cond b (fault_run low) (fault_run low) ≡ fault_run low
        both true = refl
        both false = refl
    close_append h true e true = on t refl
      where
        on : (x : List ℕ) → t ≡ x
            → cond (eqb (length (s ++ t)) close_size) (stopped_run low Closed []) (fault_run low) ≡ then_run n (stopped_run low Closed []) t
        on [] p =
            let l : length (s ++ t) ≡ close_size = ap length (ap (λ (x : List ℕ). s ++ x) p ∙ append-nil s) ∙ eqb-true _ _ e in
            ap (λ (b : Bool). cond b (stopped_run low Closed []) (fault_run low)) (eq-eqb (length (s ++ t)) close_size l)
            ∙ ap (λ (x : List ℕ). then_run n (stopped_run low Closed []) x) (sym p)
        on (y ∷ x) p =
            let l = length-append s t in
            let q : length t ≡ suc (length x) = ap length p in
            let z = eqb-true (length s) close_size e in
            ap (λ (b : Bool). cond b (stopped_run low Closed []) (fault_run low)) (ne_eqb (length (s ++ t)) close_size (λ w. omega arith))
            ∙ sym (ap (behind low) p ∙ behind_some low y x)
    close_append h false e v =
        let l = length-append s t in
        let o : length s ≡ close_size → ⊥ = eqb-false (length s) close_size e in
        ap (λ (b : Bool). cond b (cond v (stopped_run low Closed []) (fault_run low)) (fault_run low))
        (ne_eqb (length (s ++ t)) close_size (λ w. o (omega arith)))

    row_append : (id mark received sent size : ℕ) → key_at form + size ≤ length s
        → ((r : Row) → go_run left low r (suc id) (suc n) (drop (key_at form + size) s ++ t)
        ≡ then_run n (go_run left low r (suc id) (suc n) (drop (key_at form + size) s)) t)
        → (u : Bool)
        → cond u (fault_run low)
        (go_run left low (row_front form (s ++ t) id mark received sent size) (suc id) (suc n) (drop (key_at form + size) (s ++ t)))
        ≡ then_run n (cond u (fault_run low)
        (go_run left low (row_front form s id mark received sent size) (suc id) (suc n) (drop (key_at form + size) s))) t
    row_append id mark received sent size h ih true = then_fault n low t
    row_append id mark received sent size h ih false =
        ap₂ (λ (r : Row) (x : List ℕ). go_run left low r (suc id) (suc n) x) (key_append form s t id mark received sent size h)
        (drop-append-le (key_at form + size) s t h)
        ∙ ih (row_front form s id mark received sent size)

    step_append : ((r : Row) (id size : ℕ) → go_run left low r (suc id) (suc n) (drop (key_at form + size) s ++ t)
        ≡ then_run n (go_run left low r (suc id) (suc n) (drop (key_at form + size) s)) t)
        → (f : Front) → FrontFits form s f → step_run left low n (s ++ t) f ≡ then_run n (step_run left low n s f) t
    unfolding FrontFits
    step_append ih Broken g = then_fault n low t
    step_append ih (Close m) g = close_append g (eqb (length s) close_size) refl (eqb m n)
    step_append ih (RowFront id mark received sent size) g = row_append id mark received sent size g.0 (λ r. ih r id size) (ltb id low)

    whole_append : left + n ≡ rows_most
        → ((r : Row) (id size : ℕ) → go_run left low r (suc id) (suc n) (drop (key_at form + size) s ++ t)
        ≡ then_run n (go_run left low r (suc id) (suc n) (drop (key_at form + size) s)) t)
        → (w : Bool) → wants s ≡ w → run_to left low n (s ++ t) ≡ then_run n (run_to left low n s) t
    unfolding run_from
    whole_append e ih true w =
        let l : left ≡ rows_most - (n + 0) = omega arith in
        ap₂ (λ (x y : ℕ). run_to x low y (s ++ t)) l (sym (add-zero n)) ∙ sym (run_is low (n + 0) (s ++ t))
        ∙ ap (λ (q : Run). then_run n q t) (sym (run_wants left low n s w))
    whole_append e ih false w =
        let a = front_append form s t w in
        run_on left low n (s ++ t) a.wanted (front_of form s) a.read
        ∙ step_append ih (front_of form s) (front_fits form s)
        ∙ ap (λ (q : Run). then_run n q t) (sym (run_on left low n s w (front_of form s) refl))

  run_append : (left low n : ℕ) (s t : List ℕ) → left + n ≡ rows_most → run_to left low n (s ++ t) ≡ then_run n (run_to left low n s) t
  unfolding go_run
  run_append zero low n s t e = whole_append zero low n s t e (λ r id size. then_fault n low t) (wants s) refl
  run_append (suc left) low n s t e =
      whole_append (suc left) low n s t e
      (λ r id size. ap (onto_run r) (run_append left (suc id) (suc n) (drop (key_at form + size) s) t (omega arith))
      ∙ then_onto n r (run_to left (suc id) (suc n) (drop (key_at form + size) s)) t)
      (wants s) refl

  -- from however reading stands
  pub runs_append : (low n : ℕ) (s t : List ℕ) (phase : Phase) → n ≤ rows_most → run_from form low n (s ++ t) phase ≡ then_run n (run_from form low n s phase) t
  unfolding run_from
  runs_append low n s t Reading h =
      run_is low n (s ++ t) ∙ run_append (rows_most - n) low n s t (omega arith) ∙ ap (λ (q : Run). then_run n q t) (sym (run_is low n s))
  runs_append low n s t Closed h = stays s refl
    where
      stays : (x : List ℕ) → s ≡ x → behind low (s ++ t) ≡ then_run n (behind low s) t
      stays [] p = ap (λ (x : List ℕ). behind low (x ++ t)) p ∙ ap (λ (x : List ℕ). then_run n (behind low x) t) (sym p)
      stays (y ∷ x) p =
          ap (λ (x : List ℕ). behind low (x ++ t)) p ∙ behind_some low y (x ++ t) ∙ then_fault n low t
          ∙ ap (λ (q : Run). then_run n q t) (sym (ap (behind low) p ∙ behind_some low y x))
  runs_append low n s t Fault h = refl

  -- ---- what a run gives is within every limit

  -- at most so many rows, each with a key that fits its slot; nothing is left but of a record that wants more
  pub record RunFits (left : ℕ) (q : Run) : Type 0 where
    pub few : length q.rows ≤ left
    pub fit : KeysFit q.rows
    pub ended : q.phase ≢ Reading → q.rest ≡ []
    pub short : length q.rest ≤ tail_most

  fits_fault : (left low : ℕ) → RunFits left (fault_run low)
  fits_fault left low = record { few = omega arith; fit = tt; ended = λ h. refl; short = omega arith }

  fits_closed : (left low : ℕ) → RunFits left (stopped_run low Closed [])
  fits_closed left low = record { few = omega arith; fit = tt; ended = λ h. refl; short = omega arith }

  fits_onto : (left : ℕ) (r : Row) (q : Run) → length r.key ≤ slot_size → RunFits left q → RunFits (suc left) (onto_run r q)
  fits_onto left r q h f = let l = f.few in record { few = omega arith; fit = (h, f.fit); ended = f.ended; short = f.short }

  module _ (left low n : ℕ) (s : List ℕ) where
    fits_step : ((id mark received sent size : ℕ) → size ≤ slot_size
        → RunFits left (go_run left low (row_front form s id mark received sent size) (suc id) (suc n) (drop (key_at form + size) s)))
        → (f : Front) → FrontFits form s f → RunFits left (step_run left low n s f)
    unfolding FrontFits
    fits_step ih Broken g = fits_fault left low
    fits_step ih (Close m) g = on (eqb (length s) close_size) (eqb m n)
      where
        on : (t u : Bool) → RunFits left (cond t (cond u (stopped_run low Closed []) (fault_run low)) (fault_run low))
        on false u = fits_fault left low
        on true false = fits_fault left low
        on true true = fits_closed left low
    fits_step ih (RowFront id mark received sent size) g = on (ltb id low)
      where
        on : (t : Bool) → RunFits left (cond t (fault_run low)
            (go_run left low (row_front form s id mark received sent size) (suc id) (suc n) (drop (key_at form + size) s)))
        on true = fits_fault left low
        on false = ih id mark received sent size g.1

    fits_whole : ((id mark received sent size : ℕ) → size ≤ slot_size
        → RunFits left (go_run left low (row_front form s id mark received sent size) (suc id) (suc n) (drop (key_at form + size) s)))
        → (w : Bool) → wants s ≡ w → RunFits left (run_to left low n s)
    fits_whole ih true w =
        rw (run_wants left low n s w)
        record { few = omega arith; fit = tt; ended = λ h. absurd (h refl); short = wants_few s w }
    fits_whole ih false w = rw (run_on left low n s w (front_of form s) refl) (fits_step ih (front_of form s) (front_fits form s))

  run_to_fits : (left low n : ℕ) (s : List ℕ) → RunFits left (run_to left low n s)
  unfolding go_run
  run_to_fits zero low n s = fits_whole zero low n s (λ id mark received sent size h. fits_fault zero low) (wants s) refl
  run_to_fits (suc left) low n s =
      fits_whole (suc left) low n s
      (λ id mark received sent size h. fits_onto left (row_front form s id mark received sent size)
      (run_to left (suc id) (suc n) (drop (key_at form + size) s))
      (let l = length-take size (drop (key_at form) s) in omega arith) (run_to_fits left (suc id) (suc n) (drop (key_at form + size) s)))
      (wants s) refl

  pub run_fits : (low n : ℕ) (s : List ℕ) → RunFits (rows_most - n) (run form low n s)
  run_fits low n s = rw (run_is low n s) (run_to_fits (rows_most - n) low n s)

  pub runs_fit : (low n : ℕ) (s : List ℕ) (phase : Phase) → RunFits (rows_most - n) (run_from form low n s phase)
  unfolding run_from
  runs_fit low n s Reading = run_fits low n s
  runs_fit low n s Closed = on (eqb (length s) 0)
    where
      on : (t : Bool) → RunFits (rows_most - n) (cond t (stopped_run low Closed []) (fault_run low))
      on true = fits_closed (rows_most - n) low
      on false = fits_fault (rows_most - n) low
  runs_fit low n s Fault = fits_fault (rows_most - n) low
