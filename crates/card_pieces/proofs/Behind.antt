-- Bytes kept, and a piece behind them: the ends of `read_cut`. The window holds the bytes kept and the piece's first ones; the pass over it stops at a record
-- that is cut, at the close or a fault, or behind the last record that begins among the bytes kept.
use mathlib.Core.Path.{◌≡◌, refl, sym, ap, ap₂, ◌∙◌}
use mathlib.Core.Logic.{◌≢◌}
use mathlib.Core.Bool.{Bool, true, false, not, cond, true≢false}
use mathlib.Core.List.{List, [], ◌++◌, append-nil, append_assoc}
use Prim.Native.Nat.{ℕ, ◌+◌, ◌-◌, ◌≤◌, ◌<◌}
use native.Mathlib.Omega.{arith}
use borrow.Author.Tests.{ne_eqb, ltb-true, ltb-false, not-true}
use lib.Dec.{ltb}
use lib.ListN.{length, take, drop, length-append, length-drop, length-take, drop_of_length-le, take-append-drop}
use lib.Seq.{drop-append-le, drop-append-add, length-take-le, take_all, take-add, drop_at}
use Rattle.octets.specs.Bytes.{filled}
use Rattle.octets.proofs.Filled.{length_filled}
use Rattle.key_book.specs.Limits.{rows_most}
use Rattle.key_book.specs.Book.{Book}
use Rattle.book_card.specs.declared.CardForm.{CardForm}
use Rattle.book_card.specs.Layout.{record_most}
use Rattle.book_card.specs.Reader.{wants}
use Rattle.book_card.proofs.Wants.{wants_few}
use Rattle.card_pieces.specs.declared.Phase.{Phase}
use Rattle.card_pieces.specs.declared.Phase.TheVariants.{Reading, Closed, Fault}
use Rattle.card_pieces.specs.declared.Reader.{Reader}
use Rattle.card_pieces.specs.declared.Pass.{Pass}
use Rattle.card_pieces.specs.Runs.{stopped_run, run, run_from, Outcome, outcome, onward_by, onward, is_reading, behind_by}
use Rattle.card_pieces.specs.Pieces.{tail_most, window_size, window_of, form_by, form_after, state_with, settled}
use Rattle.card_pieces.proofs.Runs.{run_is, run_wants, then_run, behind, runs_append, run_fits}
use Rattle.card_pieces.proofs.Going.{window_part, after_twice, form_by_append, stopped_leaves, goes_on}
use Rattle.std.specs.Prelude.{Option}

pub window_of_fits : (size : ℕ) → window_of size ≤ size
unfolding window_of
window_of_fits size = on (ltb record_most size) refl
  where
    on : (t : Bool) → ltb record_most size ≡ t → cond t record_most size ≤ size
    on true p = let l = ltb-true record_most size p in omega arith
    on false p = omega arith

pub window_of_few : (size : ℕ) → window_of size ≤ record_most
unfolding window_of
window_of_few size = on (ltb record_most size) refl
  where
    on : (t : Bool) → ltb record_most size ≡ t → cond t record_most size ≤ record_most
    on true p = omega arith
    on false p = let l = ltb-false record_most size p in omega arith

-- where the window does not hold all of the piece, it holds as much as the largest record has
window_of_cut : (size : ℕ) → window_of size < size → window_of size ≡ record_most
unfolding window_of
window_of_cut size h = on (ltb record_most size) refl h
  where
    on : (t : Bool) → ltb record_most size ≡ t → cond t record_most size < size → cond t record_most size ≡ record_most
    on true p h = refl
    on false p h = absurd (omega arith)

-- the bytes in use of the window
pub window_in : (kept taken : ℕ) (tail piece window : List ℕ) → kept ≤ length tail → kept ≤ tail_most → taken ≡ window_of (length piece)
    → window ≡ filled window_size (take kept tail ++ take taken piece) → kept + taken ≤ length window
window_in kept taken tail piece window h k et ew =
    let l = window_of_few (length piece) in
    let m = window_of_fits (length piece) in
    let n : length (take kept tail ++ take taken piece) ≡ kept + taken =
    length-append (take kept tail) (take taken piece)
    ∙ ap₂ (λ (x y : ℕ). x + y) (length-take-le kept tail h) (length-take-le taken piece (omega arith)) in
    let z = ap length ew ∙ length_filled window_size (take kept tail ++ take taken piece) (omega arith) in
    omega arith

-- what is known of the pass p over the window s₁: the bytes `held`, of which there are `kept`, and the first `taken` of the piece
pub record Told
    (form : CardForm) (known formed : Option CardForm) (held piece s₁ : List ℕ) (kept taken : ℕ) (b c : Book) (before least : ℕ) (p : Pass)
    : Type 0 where
  pub ek : length held ≡ kept
  pub et : taken ≡ window_of (length piece)
  pub es : s₁ ≡ held ++ take taken piece
  pub few : before ≤ rows_most
  pub eform : form ≡ form_by s₁ known
  pub eformed : formed ≡ form_after known form before p.rows
  pub inside : p.at ≤ length s₁
  pub risen : before ≤ p.rows
  pub counted : p.rows ≤ rows_most
  pub stops : p.phase ≡ Reading → p.at < kept → wants (drop p.at s₁) ≡ true
  pub goes : outcome c p.rows (onward form p s₁) ≡ outcome b before (run form least before s₁)

pub told_is : (form : CardForm) (known formed : Option CardForm) (tail piece window : List ℕ) (kept taken : ℕ) (b c : Book) (before least : ℕ) (p : Pass)
    → kept ≤ length tail → taken ≡ window_of (length piece) → window ≡ filled window_size (take kept tail ++ take taken piece)
    → before ≤ rows_most → form ≡ form_by (take (kept + taken) window) known → formed ≡ form_after known form before p.rows
    → p.at ≤ length (take (kept + taken) window) → (before ≤ p.rows) × (p.rows ≤ rows_most)
    → (p.phase ≡ Reading → p.at < kept → wants (drop p.at (take (kept + taken) window)) ≡ true)
    → outcome c p.rows (onward form p (take (kept + taken) window)) ≡ outcome b before (run form least before (take (kept + taken) window))
    → Told form known formed (take kept tail) piece (take (kept + taken) window) kept taken b c before least p
told_is form known formed tail piece window kept taken b c before least p h et ew few eform eformed inside rows stops goes =
    let k : length (take kept tail) ≡ kept = length-take-le kept tail h in
    let l = window_of_fits (length piece) in
    let n : length (take taken piece) ≡ taken = length-take-le taken piece (omega arith) in
    record {
      ek = k;
      et = et;
      es = ap (take (kept + taken)) ew ∙ window_part (take kept tail) (take taken piece) (kept + taken) (omega arith);
      few = few;
      eform = eform;
      eformed = eformed;
      inside = inside;
      risen = rows.0;
      counted = rows.1;
      stops = stops;
      goes = goes;
    }

module _
    {form : CardForm} {known formed : Option CardForm} {held piece s₁ : List ℕ} {kept taken : ℕ} {b c : Book} {before least : ℕ} {p : Pass}
    (told : Told form known formed held piece s₁ kept taken b c before least p)
  where
    abbrev t : List ℕ
    t = drop taken piece

    abbrev s : List ℕ
    s = held ++ piece

    fits : taken ≤ length piece
    fits = let l = window_of_fits (length piece) in omega arith

    long : length s₁ ≡ kept + taken
    long = ap length told.es ∙ length-append held (take taken piece) ∙ ap₂ (λ (m n : ℕ). m + n) told.ek (length-take-le taken piece fits)

    both : s₁ ++ t ≡ s
    both = ap (λ (x : List ℕ). x ++ t) told.es ∙ append_assoc held (take taken piece) t ∙ ap (λ (x : List ℕ). held ++ x) (take-append-drop taken piece)

    -- all of the piece stands in the window
    all : length piece ≤ taken → t ≡ []
    all h = drop_of_length-le piece h

    same_form : form_by s known ≡ form
    same_form = ap (λ (x : List ℕ). form_by x known) (sym both) ∙ on (ltb taken (length piece)) refl ∙ sym told.eform
      where
        on : (u : Bool) → ltb taken (length piece) ≡ u → form_by (s₁ ++ t) known ≡ form_by s₁ known
        on true q =
            let l = ltb-true taken (length piece) q in
            let m = window_of_cut (length piece) (omega arith) in
            form_by_append s₁ t known (omega (arith, long))
        on false q = ap (λ (x : List ℕ). form_by x known) (ap (λ (x : List ℕ). s₁ ++ x) (all (ltb-false taken (length piece) q)) ∙ append-nil s₁)

    abbrev whole : Outcome
    whole = outcome b before (run (form_by s known) least before s)

    abbrev Done : Reader → Book → Type 0
    Done r d = (r ≡ settled known (form_by s known) before whole) × (d ≡ whole.spare)

    -- from what reading on leaves in this form
    done : (o : Outcome) → outcome b before (run form least before (s₁ ++ t)) ≡ o → (r : Reader) → r ≡ settled known form before o
        → (d : Book) → d ≡ o.spare → Done r d
    done o e r er d ed =
        let q : o ≡ whole = sym e ∙ ap₂ (λ (x : CardForm) (y : List ℕ). outcome b before (run x least before y)) (sym same_form) both in
        (er ∙ ap₂ (λ (x : CardForm) (y : Outcome). settled known x before y) (sym same_form) q, ed ∙ ap (λ (x : Outcome). x.spare) q)

    on_goes : outcome b before (run form least before (s₁ ++ t)) ≡ outcome c p.rows (then_run form p.rows (onward form p s₁) t)
    on_goes = goes_on form s₁ b c before least p told.goes t told.few

    -- what is left of these, with nothing behind them
    leaves : (phase : Phase) (rest : List ℕ) → outcome b before (run form least before (s₁ ++ t)) ≡ outcome c p.rows (stopped_run p.low phase rest)
        → (r : Reader) → r ≡ state_with rest p.rows p.low formed phase → Done r c
    unfolding settled
    leaves phase rest e r er =
        let o = stopped_leaves form c p.rows p.low phase rest in
        done (record { spare = c; rows = p.rows; low = p.low; phase = phase; rest = rest }) (e ∙ o) r
        (er ∙ ap (λ (x : Option CardForm). state_with rest p.rows p.low x phase) told.eformed) c refl

    -- ---- a fault

    -- nothing is left behind the close or a fault
    none_left : (phase : Phase) → p.phase ≡ phase → phase ≢ Reading → onward form p s₁ ≡ stopped_run p.low phase (drop p.at s₁) → drop p.at s₁ ≡ []
    unfolding outcome
    none_left phase e h o =
        let q : (run form least before s₁).rest ≡ drop p.at s₁ = ap (λ (x : Outcome). x.rest) (sym told.goes ∙ ap (outcome c p.rows) o) in
        let f : (run form least before s₁).phase ≡ phase = ap (λ (x : Outcome). x.phase) (sym told.goes ∙ ap (outcome c p.rows) o) in
        sym q ∙ (run_fits form least before s₁).ended (λ r. h (sym f ∙ r))

    cut_fault : p.phase ≡ Fault → (r : Reader) → r ≡ state_with [] p.rows p.low formed Fault → Done r c
    unfolding onward run_from
    cut_fault e r er =
        leaves Fault [] (on_goes ∙ ap (λ (x : Phase). outcome c p.rows (then_run form p.rows (onward_by form p s₁ x) t)) e) r er

    closed_on : p.phase ≡ Closed → outcome b before (run form least before (s₁ ++ t)) ≡ outcome c p.rows (behind form p.low t)
    unfolding onward run_from
    closed_on e =
        let n = none_left Closed e (λ q. absurd (phases q)) (ap (onward_by form p s₁) e) in
        on_goes ∙ ap (λ (x : Phase). outcome c p.rows (then_run form p.rows (onward_by form p s₁ x) t)) e
        ∙ ap (λ (x : List ℕ). outcome c p.rows (behind form p.low (x ++ t))) n
      where
        phases : Closed ≡ Reading → ⊥
        phases q = let z : ◌≡◌ {A = ℕ} 0 1 = cc in omega arith

    cut_closed : p.phase ≡ Closed → length piece ≤ taken → (r : Reader) → r ≡ state_with [] p.rows p.low formed Closed → Done r c
    cut_closed e h r er = leaves Closed [] (closed_on e ∙ ap (λ (x : List ℕ). outcome c p.rows (behind form p.low x)) (all h)) r er

    cut_behind : p.phase ≡ Closed → taken < length piece → (r : Reader) → r ≡ state_with [] p.rows p.low formed Fault → Done r c
    cut_behind e h r er =
        leaves Fault []
        (closed_on e ∙ ap (outcome c p.rows) (let l = length-drop taken piece in rw (ne_eqb (length t) 0 (λ q. omega arith)))) r er

    -- as `stopped_in` has it
    pub cut_stopped : (x : Bool) → x ≡ is_reading p.phase → not x ≡ true → (m : Bool) → m ≡ ltb taken (length piece)
        → (r : Reader) → r ≡ state_with [] p.rows p.low formed (behind_by m p.phase) → Done r c
    cut_stopped x ex h m em r er = on p.phase refl (ltb taken (length piece)) refl
      where
        its : (y : Phase) → p.phase ≡ y → (u : Bool) → ltb taken (length piece) ≡ u → r ≡ state_with [] p.rows p.low formed (behind_by u y)
        its y e u q = er ∙ ap₂ (λ (v : Bool) (z : Phase). state_with [] p.rows p.low formed (behind_by v z)) (em ∙ q) e

        on : (y : Phase) → p.phase ≡ y → (u : Bool) → ltb taken (length piece) ≡ u → Done r c
        on Reading e u q = absurd (true≢false (sym (ap is_reading e) ∙ sym ex ∙ not-true x h))
        on Closed e true q = cut_behind e (ltb-true _ _ q) r (its Closed e true q)
        on Closed e false q = cut_closed e (ltb-false _ _ q) r (its Closed e false q)
        on Fault e true q = cut_fault e r (its Fault e true q)
        on Fault e false q = cut_fault e r (its Fault e false q)

    -- ---- reading on

    module _ (e : p.phase ≡ Reading) where
      abbrev rest : List ℕ
      rest = drop p.at s₁

      reads : outcome b before (run form least before (s₁ ++ t)) ≡ outcome c p.rows (run form p.low p.rows (rest ++ t))
      unfolding onward run_from
      reads =
          on_goes ∙ ap (λ (x : Phase). outcome c p.rows (then_run form p.rows (onward_by form p s₁ x) t)) e
          ∙ ap (outcome c p.rows) (sym (runs_append form p.low p.rows rest t Reading told.counted))

      module _ (h : p.at < kept) where
        wanted : wants rest ≡ true
        wanted = told.stops e h

        -- so all of the piece stands in the window
        nothing : t ≡ []
        nothing = on (ltb taken (length piece)) refl
          where
            on : (u : Bool) → ltb taken (length piece) ≡ u → t ≡ []
            on true q =
                absurd (let l = ltb-true taken (length piece) q in
                let m = window_of_cut (length piece) (omega arith) in
                let f = wants_few rest wanted in
                let d = length-drop p.at s₁ in
                omega (arith, long))
            on false q = all (ltb-false taken (length piece) q)

        -- what the code keeps: the window from there to the end of the bytes in use
        module _ (w : List ℕ) (ew : s₁ ≡ take (kept + taken) w) where
          abbrev part : List ℕ
          part = take (kept + taken - p.at) (drop p.at w)

          part_is : part ≡ rest
          part_is =
              let n = length-take (kept + taken) w in
              let l = ap length ew in
              let i = told.inside in
              sym (ap (drop p.at) ew ∙ ap (λ (m : ℕ). drop p.at (take m w)) (let m : kept + taken ≡ p.at + (kept + taken - p.at) = omega
              (arith, long) in m)
              ∙ ap (drop p.at) (take-add p.at (kept + taken - p.at) w)
              ∙ drop_at (take p.at w) part p.at (length-take-le p.at w (omega arith)))

          pub cut_short : length part ≤ tail_most
          cut_short = rw part_is (wants_few rest wanted)

          pub cut_kept : (r : Reader) → r ≡ state_with part p.rows p.low formed p.phase → Done r c
          cut_kept r er =
              leaves Reading rest
              (reads ∙ ap (λ (x : List ℕ). outcome c p.rows (run form p.low p.rows x)) (ap (λ (x : List ℕ). rest ++ x) nothing ∙ append-nil rest)
              ∙ ap (outcome c p.rows) (run_is form p.low p.rows rest ∙ run_wants form (rows_most - p.rows) p.low p.rows rest wanted))
              r (er ∙ ap₂ (λ (x : List ℕ) (y : Phase). state_with x p.rows p.low formed y) part_is e)

      module _ (h : kept ≤ p.at) where
        abbrev more : List ℕ
        more = take (length piece - (p.at - kept)) (drop (p.at - kept) piece)

        more_is : rest ++ t ≡ more
        more_is =
            sym (drop-append-le p.at s₁ t told.inside) ∙ ap (drop p.at) both
            ∙ ap (λ (n : ℕ). drop n s) (let n : p.at ≡ length held + (p.at - kept) = omega (arith, told.ek) in n)
            ∙ drop-append-add held piece (p.at - kept)
            ∙ sym (take_all (length piece - (p.at - kept)) (drop (p.at - kept) piece) (omega (arith, length-drop (p.at - kept) piece)))

        pub cut_on : (r : Reader) → r ≡ settled formed form p.rows (outcome c p.rows (run form p.low p.rows more))
            → (d : Book) → d ≡ (outcome c p.rows (run form p.low p.rows more)).spare → Done r d
        unfolding settled outcome
        cut_on r er d ed =
            let o = outcome c p.rows (run form p.low p.rows more) in
            let f : form_after formed form p.rows o.rows ≡ form_after known form before o.rows =
            ap (λ (x : Option CardForm). form_after x form p.rows o.rows) told.eformed ∙ after_twice known form before p.rows o.rows told.risen (omega arith) in
            done o (reads ∙ ap (λ (x : List ℕ). outcome c p.rows (run form p.low p.rows x)) more_is) r
            (er ∙ ap (λ (x : Option CardForm). state_with o.rest o.rows o.low x o.phase) f) d ed
