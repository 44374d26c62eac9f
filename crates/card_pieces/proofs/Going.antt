-- What a piece leaves: the tail and the window, the form, and a pass over the bytes, to their end or gone on with others behind them.
use mathlib.Core.Path.{◌≡◌, refl, sym, ap, ap₂, ◌∙◌}
use mathlib.Core.Bool.{Bool, true, false, true≢false}
use mathlib.Core.List.{List, ◌++◌}
use Prim.Native.Nat.{ℕ, ◌+◌, ◌-◌, ◌≤◌, ◌<◌}
use native.Mathlib.Nat.{add-zero}
use native.Mathlib.Omega.{arith}
use borrow.Author.Tests.{eq-eqb, ne_eqb, eqb-true, eqb-false, ltb-true, ltb-false}
use lib.Dec.{ltb, eqb}
use lib.ListN.{length, take, drop, length-append, length-drop, drop_of_length-le}
use lib.Seq.{take_all}
use lib.ListN.{length-replicate}
use Rattle.octets.specs.Bytes.{written, zeros, filled}
use Rattle.octets.proofs.Written.{written_join}
use Rattle.octets.proofs.Filled.{take_filled, written_zeros}
use Rattle.key_book.specs.Limits.{rows_most}
use Rattle.key_book.specs.Book.{Book}
use Rattle.book_card.specs.declared.CardForm.{CardForm}
use Rattle.book_card.specs.Layout.{record_most, body_at}
use Rattle.book_card.specs.Reader.{wants}
use Rattle.book_card.proofs.Forms.{form_append}
use Rattle.book_card.proofs.Wants.{wants_nothing}
use Rattle.card_pieces.specs.declared.Phase.{Phase}
use Rattle.card_pieces.specs.declared.Phase.TheVariants.{Reading, Closed, Fault}
use Rattle.card_pieces.specs.declared.Reader.{Reader}
use Rattle.card_pieces.specs.declared.Pass.{Pass}
use Rattle.card_pieces.specs.Runs.{Run, stopped_run, run, run_from, put_rows, Outcome, outcome, onward_by, onward, is_reading}
use Rattle.card_pieces.specs.Pieces.{tail_most, window_size, form_by, form_after, state_with, settled}
use Rattle.card_pieces.proofs.Runs.{run_is, run_wants, then_run, runs_append, run_fits}
use Rattle.card_pieces.proofs.Spare.{put_append}
use Rattle.std.specs.Prelude.{None, Option, Some}

-- ---- the tail and the window

pub state_is : (rest : List ℕ) (rows low : ℕ) (form : Option CardForm) (phase : Phase) (tail : List ℕ) → tail ≡ written 0 rest (zeros tail_most)
    → ◌≡◌ {A = Reader} (record { tail = tail; kept = length rest; rows = rows; low = low; form = form; phase = phase })
    (state_with rest rows low form phase)
unfolding state_with
state_is rest rows low form phase tail e =
    ap {B = Reader} (λ (x : List ℕ). record { tail = x; kept = length rest; rows = rows; low = low; form = form; phase = phase })
    (e ∙ written_zeros tail_most rest)

pub window_is : (kept s : List ℕ) → length kept ≤ tail_most → length s ≤ record_most → (w₁ w₂ : List ℕ)
    → w₁ ≡ written 0 kept (zeros window_size) → w₂ ≡ written (length kept) s w₁ → w₂ ≡ filled window_size (kept ++ s)
window_is kept s k l w₁ w₂ e₁ e₂ =
    let z : length (zeros window_size) ≡ window_size = length-replicate {A = ℕ} window_size 0 in
    e₂ ∙ ap (written (length kept) s) e₁
    ∙ written_join 0 (length kept) kept s (zeros window_size) (omega arith) (omega arith) ∙ written_zeros window_size (kept ++ s)

-- the bytes in use of the window
pub window_part : (held s : List ℕ) (end : ℕ) → end ≡ length held + length s → take end (filled window_size (held ++ s)) ≡ held ++ s
window_part held s end e = take_filled window_size (held ++ s) end (length-append held s ∙ sym e)

-- ---- the phase

pub reading_is : (phase : Phase) → is_reading phase ≡ true → phase ≡ Reading
reading_is Reading e = refl
reading_is Closed e = absurd (true≢false (sym e))
reading_is Fault e = absurd (true≢false (sym e))

-- ---- the form

pub after_same : (known : Option CardForm) (form : CardForm) (n : ℕ) → form_after known form n n ≡ known
unfolding form_after
after_same known form n = rw (eq-eqb n n refl)

pub after_more : (known : Option CardForm) (form : CardForm) (m n : ℕ) → m < n → form_after known form m n ≡ Some form
unfolding form_after
after_more known form m n h = rw (ne_eqb m n (λ e. omega arith))

-- rows read in two parts
pub after_twice : (known : Option CardForm) (form : CardForm) (a b c : ℕ) → a ≤ b → b ≤ c
    → form_after (form_after known form a b) form b c ≡ form_after known form a c
after_twice known form a b c h k = on (eqb a b) refl (eqb b c) refl
  where
    on : (t : Bool) → eqb a b ≡ t → (u : Bool) → eqb b c ≡ u → form_after (form_after known form a b) form b c ≡ form_after known form a c
    on true p u q =
        let e = eqb-true a b p in
        ap (λ (x : Option CardForm). form_after x form b c) (ap (λ (x : ℕ). form_after known form x b) e ∙ after_same known form b)
        ∙ ap (λ (x : ℕ). form_after known form x c) (sym e)
    on false p u q =
        let e = eqb-false a b p in
        let l : a < b = omega (arith, e) in
        ap (λ (x : Option CardForm). form_after x form b c) (after_more known form a b l) ∙ known_stays u q ∙ sym (after_more known form a c (omega arith))
      where
        known_stays : (u : Bool) → eqb b c ≡ u → form_after (Some form) form b c ≡ Some form
        known_stays true q = ap (λ (x : ℕ). form_after (Some form) form b x) (sym (eqb-true b c q)) ∙ after_same (Some form) form b
        known_stays false q = after_more (Some form) form b c (let e = eqb-false b c q in omega (arith, e))

-- the form by the first bytes
pub form_by_append : (s t : List ℕ) (known : Option CardForm) → body_at ≤ length s → form_by (s ++ t) known ≡ form_by s known
unfolding form_by
form_by_append s t None h = form_append s t h
form_by_append s t (Some form) h = refl

-- ---- going on

module _ (form : CardForm) where
  -- what reading left, gone on with the bytes t
  abbrev pub then_outcome : Outcome → List ℕ → Outcome
  then_outcome o t = outcome o.spare o.rows (run_from form o.low o.rows (o.rest ++ t) o.phase)

  pub outcome_then : (b : Book) (n : ℕ) (q : Run) (t : List ℕ) → outcome b n (then_run form n q t) ≡ then_outcome (outcome b n q) t
  unfolding outcome
  outcome_then b n q t =
      let m = n + length q.rows in
      let next = run_from form q.low m (q.rest ++ t) q.phase in
      let e : n + length (q.rows ++ next.rows) ≡ m + length next.rows = let l = length-append q.rows next.rows in omega arith in
      λ i. record {
        spare = put_append b n q.rows next.rows i;
        rows = e i;
        low = next.low;
        phase = next.phase;
        rest = next.rest;
      }

  pub outcome_append : (b : Book) (low n : ℕ) (s t : List ℕ) (phase : Phase) → n ≤ rows_most
      → outcome b n (run_from form low n (s ++ t) phase) ≡ then_outcome (outcome b n (run_from form low n s phase)) t
  outcome_append b low n s t phase h = ap (outcome b n) (runs_append form low n s t phase h) ∙ outcome_then b n (run_from form low n s phase) t

  run_from_is : (low n : ℕ) (s : List ℕ) → run form low n s ≡ run_from form low n s Reading
  unfolding run_from
  run_from_is low n s = refl

  -- a run that stopped leaves what was there
  pub stopped_leaves : (c : Book) (n low : ℕ) (phase : Phase) (rest : List ℕ)
      → outcome c n (stopped_run low phase rest) ≡ record { spare = c; rows = n; low = low; phase = phase; rest = rest }
  unfolding outcome put_rows
  stopped_leaves c n low phase rest =
      ap {B = Outcome} (λ (m : ℕ). record { spare = c; rows = m; low = low; phase = phase; rest = rest }) (add-zero n)

  -- what `read_rows` tells of a pass p over s with the spare rows c after it
  module _
      (s : List ℕ) (b c : Book) (before least : ℕ) (p : Pass)
      (goes : outcome c p.rows (onward form p s) ≡ outcome b before (run form least before s))
    where
      abbrev left : List ℕ
      left = drop p.at s

      abbrev whole : Outcome
      whole = outcome b before (run form least before s)

      -- a pass to the end of the bytes, or to a record that wants more of them
      pub passed : (p.phase ≡ Reading → wants left ≡ true) → whole ≡ record { spare = c; rows = p.rows; low = p.low; phase = p.phase; rest = left }
      unfolding onward
      passed w = sym goes ∙ on p.phase refl
        where
          on : (x : Phase) → p.phase ≡ x
              → outcome c p.rows (onward_by form p s p.phase) ≡ record { spare = c; rows = p.rows; low = p.low; phase = p.phase; rest = left }
          on Reading e =
              ap (λ (y : Phase). outcome c p.rows (onward_by form p s y)) e
              ∙ ap (outcome c p.rows) (run_is form p.low p.rows left ∙ run_wants form _ p.low p.rows left (w e))
              ∙ stopped_leaves c p.rows p.low Reading left
              ∙ ap {B = Outcome} (λ (y : Phase). record { spare = c; rows = p.rows; low = p.low; phase = y; rest = left }) (sym e)
          on Closed e =
              ap (λ (y : Phase). outcome c p.rows (onward_by form p s y)) e ∙ stopped_leaves c p.rows p.low Closed left
              ∙ ap {B = Outcome} (λ (y : Phase). record { spare = c; rows = p.rows; low = p.low; phase = y; rest = left }) (sym e)
          on Fault e =
              ap (λ (y : Phase). outcome c p.rows (onward_by form p s y)) e ∙ stopped_leaves c p.rows p.low Fault left
              ∙ ap {B = Outcome} (λ (y : Phase). record { spare = c; rows = p.rows; low = p.low; phase = y; rest = left }) (sym e)

      -- gone on with bytes t behind s
      pub goes_on : (t : List ℕ) → before ≤ rows_most
          → outcome b before (run form least before (s ++ t)) ≡ outcome c p.rows (then_run form p.rows (onward form p s) t)
      goes_on t h =
          ap (outcome b before) (run_from_is least before (s ++ t)) ∙ outcome_append b least before s t Reading h
          ∙ ap (λ (q : Run). then_outcome (outcome b before q) t) (sym (run_from_is least before s))
          ∙ ap (λ (o : Outcome). then_outcome o t) (sym goes) ∙ sym (outcome_then c p.rows (onward form p s) t)

      -- ---- a pass to the end of the bytes, as `read_piece` makes it

      abbrev Inside : Type 0
      Inside = p.at ≤ length s

      abbrev Stops : ℕ → Type 0
      Stops until = p.phase ≡ Reading → p.at < until → wants left ≡ true

      wants_left : Inside → Stops (length s) → p.phase ≡ Reading → wants left ≡ true
      wants_left i h e = on (ltb p.at (length s)) refl
        where
          on : (t : Bool) → ltb p.at (length s) ≡ t → wants left ≡ true
          on true q = h e (ltb-true _ _ q)
          on false q = let l = ltb-false p.at (length s) q in ap wants (drop_of_length-le s l) ∙ wants_nothing

      abbrev part : List ℕ
      part = take (length s - p.at) left

      part_is : part ≡ left
      part_is = take_all (length s - p.at) left (omega (arith, length-drop p.at s))

      short : whole ≡ record { spare = c; rows = p.rows; low = p.low; phase = p.phase; rest = left } → length left ≤ tail_most
      unfolding outcome
      short e = let l = (run_fits form least before s).short in let q = ap (λ (o : Outcome). length o.rest) e in omega arith

      pub piece_short : Inside → Stops (length s) → length part ≤ tail_most
      piece_short i h = rw part_is (short (passed (wants_left i h)))

      pub piece_ends : Inside → Stops (length s) → (known formed : Option CardForm) → formed ≡ form_after known form before p.rows
          → (r : Reader) → r ≡ state_with part p.rows p.low formed p.phase → record { state : r ≡ settled known form before whole; spare : c ≡ whole.spare }
      unfolding settled
      piece_ends i h known formed ef r er =
          let o = passed (wants_left i h) in
          record {
            state = er ∙ ap₂ (λ (x : List ℕ) (y : Option CardForm). state_with x p.rows p.low y p.phase) part_is ef ∙ sym (ap (settled known form before) o);
            spare = sym (ap (λ (x : Outcome). x.spare) o);
          }
