-- Feeding: one piece and then another are the two as one, on any state; and what a state is after a piece.
use mathlib.Core.Path.{◌≡◌, refl, sym, ap, ap₂, ◌∙◌}
use mathlib.Core.Logic.{◌≢◌}
use mathlib.Core.Bool.{Bool, true, false, cond, and-eq-true_iff}
use mathlib.Core.List.{List, [], ◌++◌, append_assoc}
use Prim.Native.Nat.{ℕ, zero, suc, ◌+◌, ◌-◌, ◌≤◌, ◌<◌}
use native.Mathlib.Nat.{add-zero}
use native.Mathlib.Omega.{arith}
use borrow.Author.Tests.{ltb-true, ltb-false}
use lib.Dec.{ltb, eqb}
use lib.ListN.{length, drop}
use Rattle.std.specs.Prelude.{Option, Ok, Err}
use Rattle.refusal.specs.Number.{number_of, result_number, given_or}
use Rattle.refusal.specs.declared.Refusal.TheVariants.{UnsoundBook}
use Rattle.octets.proofs.Filled.{length_filled, take_filled, drop_filled}
use Rattle.key_book.specs.Limits.{rows_most}
use Rattle.key_book.specs.Book.{Book, Sized}
use Rattle.key_book.proofs.Says.{sized_says}
use Rattle.book_card.specs.declared.CardForm.{CardForm}
use Rattle.book_card.specs.declared.Front.{Front}
use Rattle.book_card.specs.declared.Front.TheVariants.{Broken, Row as RowFront, Close}
use Rattle.book_card.specs.Layout.{body_at, key_at, close_size}
use Rattle.book_card.specs.Card.{Row}
use Rattle.book_card.specs.Reader.{front_of, wants, row_front}
use Rattle.book_card.proofs.Fronts.{front_short}
use Rattle.card_pieces.specs.declared.Phase.{Phase}
use Rattle.card_pieces.specs.declared.Phase.TheVariants.{Reading, Closed, Fault}
use Rattle.card_pieces.specs.declared.Reader.{Reader}
use Rattle.card_pieces.specs.Runs.{Run, stopped_run, run, run_from, put_rows, Outcome, outcome}
use Rattle.card_pieces.specs.Pieces.{tail_most, held, form_by, form_after, state_with, settled, reads_on, state_fed, spare_fed, taken, feed_of, feed_spare}
use Rattle.card_pieces.specs.Laws.{Within, Takes, TailSays, TailZero, Joins, FeedJoins}
use Rattle.card_pieces.proofs.Limits.{within_says}
use Rattle.card_pieces.proofs.Runs.{fault_run, run_is, go_run, step_run, run_wants, run_on, RunFits, runs_fit}
use Rattle.card_pieces.proofs.Going.{after_same, after_more, after_twice, form_by_append, then_outcome, outcome_append}
use Rattle.card_pieces.proofs.Spare.{puts_kept}

-- ---- a call that is taken

module _ (b : Book) (st : Reader) where
  pub takes_taken : Takes b st → taken b st ≡ true
  takes_taken t = simp (and-eq-true_iff) ((sized_says b).1 t.sizes, (within_says st).1 t.limits)

  pub taken_takes : taken b st ≡ true → Takes b st
  taken_takes e = let t = simp (and-eq-true_iff) at e in record { sizes = (sized_says b).0 t.0; limits = (within_says st).0 t.1 }

  module _ (piece : List ℕ) where
    pub feed_taken : taken b st ≡ true → feed_of b st piece ≡ Ok (state_fed b st piece)
    unfolding feed_of
    feed_taken h = rw h

    pub feed_refused : taken b st ≡ false → feed_of b st piece ≡ Err UnsoundBook
    unfolding feed_of
    feed_refused h = rw h

    pub spare_taken : taken b st ≡ true → feed_spare b st piece ≡ spare_fed b st piece
    unfolding feed_spare
    spare_taken h = rw h

    pub spare_refused : taken b st ≡ false → feed_spare b st piece ≡ b
    unfolding feed_spare
    spare_refused h = rw h

-- ---- the state after reading

module _ (known : Option CardForm) (form : CardForm) (n : ℕ) (o : Outcome) where
  held_settled : held (settled known form n o) ≡ o.rest
  unfolding settled state_with
  held_settled = take_filled tail_most o.rest (length o.rest) refl

-- what reading leaves is within every limit
module _ (b : Book) (st : Reader) (w : Within st) (s : List ℕ) where
  abbrev formed : CardForm
  formed = form_by s st.form

  fits : RunFits formed (rows_most - st.rows) (run_from formed st.low st.rows s st.phase)
  fits = runs_fit formed st.low st.rows s st.phase

  tail_settled : (known : Option CardForm) (form : CardForm) → TailSays (settled known form st.rows (reads_on b st s))
  unfolding settled state_with reads_on outcome
  tail_settled known form =
      let f = fits in
      let few = f.few in
      let short = f.short in
      let r = w.rows_within in
      let rest = (run_from formed st.low st.rows s st.phase).rest in
      record {
        size = length_filled tail_most rest short;
        unused = drop_filled tail_most rest (length rest) refl;
        ended = λ e. ap length (f.ended e);
        limits = record { kept_within = short; rows_within = omega arith };
      }

  spare_sized : Sized b → Sized (reads_on b st s).spare
  unfolding reads_on outcome
  spare_sized z = (puts_kept b st.rows (run_from formed st.low st.rows s st.phase).rows).sizes_kept z

tail_fed : (b : Book) (st : Reader) (piece : List ℕ) → Within st → TailSays (state_fed b st piece)
unfolding state_fed
tail_fed b st piece w = tail_settled b st w (held st ++ piece) st.form (form_by (held st ++ piece) st.form)

-- a call that is taken leaves what is taken again
pub takes_again : (b : Book) (st : Reader) (piece : List ℕ) → Takes b st → Takes (spare_fed b st piece) (state_fed b st piece)
unfolding spare_fed
takes_again b st piece t =
    record { sizes = spare_sized b st t.limits (held st ++ piece) t.sizes; limits = (tail_fed b st piece t.limits).limits }

pub tail_zero : TailZero
tail_zero b st piece h = on (taken b st) refl
  where
    on : (t : Bool) → taken b st ≡ t → TailSays (given_or st (feed_of b st piece))
    on true e = rw (feed_taken b st piece e) (tail_fed b st piece (taken_takes b st e).limits)
    on false e =
        let r : result_number (feed_of b st piece) ≡ number_of UnsoundBook = ap result_number (feed_refused b st piece e) in
        absurd (omega arith)

-- ---- no row, in whatever form

pub closed_ended : Closed ≢ Reading
closed_ended e = let z : ◌≡◌ {A = ℕ} 0 1 = cc in omega arith

fault_ended : Fault ≢ Reading
fault_ended e = let z : ◌≡◌ {A = ℕ} 0 1 = cc in omega arith

-- behind the close and after a fault the form is not looked at, no row is read, and reading does not begin again
record Still (form other : CardForm) (low n : ℕ) (s : List ℕ) (phase : Phase) : Type 0 where
  pub alike : run_from form low n s phase ≡ run_from other low n s phase
  pub no_row : length (run_from form low n s phase).rows ≡ 0
  pub stays : (run_from form low n s phase).phase ≢ Reading

still : (form other : CardForm) (low n : ℕ) (s : List ℕ) (phase : Phase) → phase ≢ Reading → Still form other low n s phase
unfolding run_from
still form other low n s Reading h = absurd (h refl)
still form other low n s Closed h = record { alike = refl; no_row = (on (eqb (length s) 0)).0; stays = (on (eqb (length s) 0)).1 }
  where
    on : (t : Bool)
        → (length (cond t (stopped_run low Closed []) (fault_run low)).rows ≡ 0) × ((cond t (stopped_run low Closed []) (fault_run low)).phase ≢ Reading)
    on true = (refl, closed_ended)
    on false = (refl, fault_ended)
still form other low n s Fault h = record { alike = refl; no_row = refl; stays = fault_ended }

-- bytes that want no more: a row is read, or reading does not go on
data Halts (q : Run) : Type 0 where
  some_row : 0 < length q.rows → Halts q
  no_more : q.phase ≢ Reading → Halts q

module _ (form : CardForm) where
  halts_fault : (low : ℕ) → Halts (fault_run low)
  halts_fault low = no_more fault_ended

  halts_go : (left low : ℕ) (r : Row) (l m : ℕ) (t : List ℕ) → Halts (go_run form left low r l m t)
  unfolding go_run
  halts_go zero low r l m t = halts_fault low
  halts_go (suc left) low r l m t = some_row (omega arith)

  halts_step : (left low n : ℕ) (s : List ℕ) (f : Front) → Halts (step_run form left low n s f)
  halts_step left low n s Broken = halts_fault low
  halts_step left low n s (Close m) = on (eqb (length s) close_size) (eqb m n)
    where
      on : (t u : Bool) → Halts (cond t (cond u (stopped_run low Closed []) (fault_run low)) (fault_run low))
      on false u = halts_fault low
      on true false = halts_fault low
      on true true = no_more closed_ended
  halts_step left low n s (RowFront id mark received sent size) = on (ltb id low)
    where
      on : (t : Bool) → Halts (cond t (fault_run low)
          (go_run form left low (row_front form s id mark received sent size) (suc id) (suc n) (drop (key_at form + size) s)))
      on true = halts_fault low
      on false = halts_go left low (row_front form s id mark received sent size) (suc id) (suc n) (drop (key_at form + size) s)

  halts : (low n : ℕ) (s : List ℕ) → wants s ≡ false → Halts (run form low n s)
  halts low n s w =
      rw (run_is form low n s ∙ run_on form (rows_most - n) low n s w (front_of form s) refl) (halts_step (rows_most - n) low n s (front_of form s))

  -- too few bytes for a kind, that want no more: a fault
  short_fault : (low n : ℕ) (s : List ℕ) → wants s ≡ false → length s < body_at → run form low n s ≡ fault_run low
  short_fault low n s w h = run_is form low n s ∙ run_on form (rows_most - n) low n s w Broken (sym (front_short form s 0 (omega arith)))

-- ---- one part and then another

module _ (b : Book) (known : Option CardForm) (low n : ℕ) (s y : List ℕ) (phase : Phase) where
  -- the form of the first part, and of both
  abbrev first : CardForm
  first = form_by s known

  abbrev both : CardForm
  both = form_by (s ++ y) known

  -- what the first part leaves, and what both do
  abbrev before : Outcome
  before = outcome b n (run_from first low n s phase)

  abbrev whole : Outcome
  whole = outcome b n (run_from both low n (s ++ y) phase)

  -- what is known of the form then, the form of the second part, and what this leaves, where the first part left o
  abbrev known_at : Outcome → Option CardForm
  known_at o = form_after known first n o.rows

  abbrev second : Outcome → CardForm
  second o = form_by (o.rest ++ y) (known_at o)

  abbrev onward : Outcome → Outcome
  onward o = then_outcome (second o) o y

  -- that and both parts as one leave the same
  record Meets (o : Outcome) : Type 0 where
    pub left_alike : onward o ≡ whole
    pub form_alike : form_after (known_at o) (second o) o.rows (onward o).rows ≡ form_after known both n whole.rows

  -- the first part wants more, and is read again with the second behind it
  meets_wants : phase ≡ Reading → wants s ≡ true → Meets before
  unfolding outcome run_from put_rows
  meets_wants p w =
      rw p
      (rw (run_is first low n s ∙ run_wants first (rows_most - n) low n s w)
      (rw (add-zero n) record { left_alike = rw (after_same known first n) refl; form_alike = rw (after_same known first n) refl }))

  -- what both leave is what the first leaves, gone on with in its form
  abbrev Goes : Type 0
  Goes = then_outcome first before y ≡ whole

  goes_alike : both ≡ first → n ≤ rows_most → Goes
  goes_alike e h =
      sym (outcome_append first b low n s y phase h) ∙ ap (λ (f : CardForm). outcome b n (run_from f low n (s ++ y) phase)) (sym e)

  goes_stopped : run_from both low n s phase ≡ run_from first low n s phase → (run_from first low n s phase).phase ≢ Reading → n ≤ rows_most → Goes
  unfolding outcome
  goes_stopped e p h =
      ap (outcome before.spare before.rows) (still first both before.low before.rows (before.rest ++ y) before.phase p).alike
      ∙ ap (λ (q : Run). then_outcome both (outcome b n q) y) (sym e) ∙ sym (outcome_append both b low n s y phase h)

  -- some row was read: the form is known
  second_known : n < before.rows → second before ≡ first
  unfolding form_by
  second_known l = ap (form_by (before.rest ++ y)) (after_more known first n before.rows l)

  meets_row : both ≡ first → n ≤ rows_most → n < before.rows → Meets before
  unfolding outcome
  meets_row e h l =
      let f = second_known l in
      let a : onward before ≡ whole = ap (λ (x : CardForm). then_outcome x before y) f ∙ goes_alike e h in
      record {
        left_alike = a;
        form_alike = ap (λ (x : CardForm). form_after (known_at before) x before.rows (onward before).rows) f
            ∙ after_twice known first n before.rows (onward before).rows (omega arith) (omega arith)
            ∙ ap₂ (λ (x : CardForm) (m : ℕ). form_after known x n m) (sym e) (ap (λ (o : Outcome). o.rows) a);
      }

  -- reading has ended
  meets_ended : Goes → before.phase ≢ Reading → form_after known first n before.rows ≡ form_after known both n before.rows → Meets before
  unfolding outcome
  meets_ended g p a =
      let f = second before in
      let q = still f first before.low before.rows (before.rest ++ y) before.phase p in
      let e : onward before ≡ whole = ap (outcome before.spare before.rows) q.alike ∙ g in
      let r : (onward before).rows ≡ before.rows = ap (λ (m : ℕ). before.rows + m) q.no_row ∙ add-zero before.rows in
      record {
        left_alike = e;
        form_alike = ap (form_after (known_at before) f before.rows) r ∙ after_same (known_at before) f before.rows ∙ a
            ∙ ap (form_after known both n) (sym r ∙ ap (λ (o : Outcome). o.rows) e);
      }

  meets_stopped : ((form : CardForm) → Still form first low n s phase) → n ≤ rows_most → Meets before
  unfolding outcome
  meets_stopped t h =
      let q = t first in
      let e : before.rows ≡ n = ap (λ (m : ℕ). n + m) q.no_row ∙ add-zero n in
      meets_ended (goes_stopped (t both).alike q.stays h) q.stays
      (ap (form_after known first n) e ∙ after_same known first n ∙ sym (ap (form_after known both n) e ∙ after_same known both n))

  -- bytes that want no more
  meets_reads : phase ≡ Reading → wants s ≡ false → n ≤ rows_most → Meets before
  unfolding outcome run_from
  meets_reads p w h = on (ltb (length s) body_at) refl
    where
      by : both ≡ first → Halts (run_from first low n s phase) → Meets before
      by e (some_row l) = meets_row e h (omega arith)
      by e (no_more q) = meets_ended (goes_alike e h) q (ap (λ (f : CardForm). form_after known f n before.rows) (sym e))

      on : (t : Bool) → ltb (length s) body_at ≡ t → Meets before
      on true l =
          let f : (form : CardForm) → run_from form low n s phase ≡ fault_run low =
          λ form. ap (run_from form low n s) p ∙ short_fault form low n s w (ltb-true (length s) body_at l) in
          meets_stopped (λ form. record {
            alike = f form ∙ sym (f first);
            no_row = ap (λ (q : Run). length q.rows) (f form);
            stays = λ e. fault_ended (sym (ap (λ (q : Run). q.phase) (f form)) ∙ e);
          }) h
      on false l = by (form_by_append s y known (ltb-false (length s) body_at l)) (rw p (halts first low n s w))

  meets : n ≤ rows_most → Meets before
  meets h = on phase refl (wants s) refl
    where
      on : (x : Phase) → phase ≡ x → (w : Bool) → wants s ≡ w → Meets before
      on Reading p true w = meets_wants p w
      on Reading p false w = meets_reads p w h
      on Closed p w e = meets_stopped (λ form. still form first low n s phase (λ q. closed_ended (sym p ∙ q))) h
      on Fault p w e = meets_stopped (λ form. still form first low n s phase (λ q. fault_ended (sym p ∙ q))) h

-- ---- one piece and then another

module _ (b : Book) (st : Reader) (w : Within st) (x y : List ℕ) where
  abbrev bytes : List ℕ
  bytes = held st ++ x

  abbrev met : Meets b st.form st.low st.rows bytes y st.phase (before b st.form st.low st.rows bytes y st.phase)
  met = meets b st.form st.low st.rows bytes y st.phase w.rows_within

  assoc : bytes ++ y ≡ held st ++ (x ++ y)
  assoc = append_assoc (held st) x y

  -- the bytes that the second piece is read with
  rest_held : held (state_fed b st x) ≡ (reads_on b st bytes).rest
  unfolding state_fed
  rest_held = held_settled st.form (form_by bytes st.form) st.rows (reads_on b st bytes)

  spare_joined : spare_fed (spare_fed b st x) (state_fed b st x) y ≡ spare_fed b st (x ++ y)
  unfolding spare_fed state_fed settled state_with reads_on
  spare_joined =
      ap (λ (l : List ℕ). (reads_on (spare_fed b st x) (state_fed b st x) (l ++ y)).spare) rest_held
      ∙ ap (λ (o : Outcome). o.spare) met.left_alike
      ∙ ap (λ (l : List ℕ). (reads_on b st l).spare) assoc

  state_joined : state_fed (spare_fed b st x) (state_fed b st x) y ≡ state_fed b st (x ++ y)
  unfolding spare_fed state_fed settled state_with reads_on
  state_joined =
      ap (λ (l : List ℕ). settled (state_fed b st x).form (form_by (l ++ y) (state_fed b st x).form) (state_fed b st x).rows
      (reads_on (spare_fed b st x) (state_fed b st x) (l ++ y))) rest_held
      ∙ ap₂ (λ (o : Outcome) (f : Option CardForm). state_with o.rest o.rows o.low f o.phase) met.left_alike met.form_alike
      ∙ ap (λ (l : List ℕ). settled st.form (form_by l st.form) st.rows (reads_on b st l)) assoc

module _ (b : Book) (st : Reader) (x y : List ℕ) where
  joins_taken : taken b st ≡ true → Joins b st x y
  joins_taken h =
      let t = taken_takes b st h in
      let c = spare_fed b st x in
      let next = state_fed b st x in
      let e₁ : feed_spare b st x ≡ c = spare_taken b st x h in
      let e₂ : given_or st (feed_of b st x) ≡ next = ap (given_or st) (feed_taken b st x h) in
      let again : taken c next ≡ true = takes_taken c next (takes_again b st x t) in
      let e₃ : feed_of (feed_spare b st x) (given_or st (feed_of b st x)) y ≡ Ok (state_fed c next y) =
      ap₂ (λ (d : Book) (s : Reader). feed_of d s y) e₁ e₂ ∙ feed_taken c next y again in
      let e₄ = state_joined b st t.limits x y in
      let e₅ = feed_taken b st (x ++ y) h in
      record {
        fed = e₃ ∙ ap Ok e₄ ∙ sym e₅;
        state = ap (given_or (given_or st (feed_of b st x))) e₃ ∙ e₄ ∙ ap (given_or st) (sym e₅);
        spare = ap₂ (λ (d : Book) (s : Reader). feed_spare d s y) e₁ e₂ ∙ spare_taken c next y again
            ∙ spare_joined b st t.limits x y ∙ sym (spare_taken b st (x ++ y) h);
      }

  joins_refused : taken b st ≡ false → Joins b st x y
  joins_refused h =
      let e₁ : feed_spare b st x ≡ b = spare_refused b st x h in
      let e₂ : given_or st (feed_of b st x) ≡ st = ap (given_or st) (feed_refused b st x h) in
      let e₃ : feed_of (feed_spare b st x) (given_or st (feed_of b st x)) y ≡ Err UnsoundBook =
      ap₂ (λ (d : Book) (s : Reader). feed_of d s y) e₁ e₂ ∙ feed_refused b st y h in
      let e₄ = feed_refused b st (x ++ y) h in
      record {
        fed = e₃ ∙ sym e₄;
        state = ap (given_or (given_or st (feed_of b st x))) e₃ ∙ e₂ ∙ ap (given_or st) (sym e₄);
        spare = ap₂ (λ (d : Book) (s : Reader). feed_spare d s y) e₁ e₂ ∙ spare_refused b st y h ∙ sym (spare_refused b st (x ++ y) h);
      }

pub feed_joins : FeedJoins
feed_joins b st x y = on (taken b st) refl
  where
    on : (t : Bool) → taken b st ≡ t → Joins b st x y
    on true h = joins_taken b st x y h
    on false h = joins_refused b st x y h
