-- From a fresh state any cutting gives what reading the whole gives: a run of pieces is one piece, and its end is reading's.
use mathlib.Core.Path.{◌≡◌, refl, sym, ap, ap₂, ◌∙◌}
use mathlib.Core.Bool.{Bool, true, false}
use mathlib.Core.List.{List, [], ◌∷◌, ◌++◌, append_assoc, append-nil}
use Prim.Native.Nat.{ℕ, ◌+◌, ◌≤◌}
use native.Mathlib.Nat.{zero-add}
use native.Mathlib.Omega.{arith}
use borrow.Author.Tests.{ltb-true, ltb-false}
use lib.Dec.{ltb}
use lib.ListN.{length, take}
use lib.Seq.{take_all}
use Rattle.std.specs.Prelude.{Ok, Some}
use Rattle.refusal.specs.Number.{result_number, given_or}
use Rattle.octets.specs.Bytes.{filled}
use Rattle.key_book.specs.Limits.{rows_most}
use Rattle.key_book.specs.Book.{Book, Sized}
use Rattle.book_card.specs.Reader.{wants, CardEnd, closed, fault, FrontRows, form_in, rows_in_front, rows_by, read_card}
use Rattle.book_card.specs.Reading.{loaded, read_of, read_book}
use Rattle.book_card.proofs.Steps.{read_is}
use Rattle.book_card.proofs.Wants.{wants_nothing}
use Rattle.book_card.proofs.Ends.{malformed, no_room_lem as no-room-read, read, case_read}
use Rattle.card_pieces.specs.declared.Phase.TheVariants.{Reading, Closed}
use Rattle.card_pieces.specs.declared.Reader.{Reader}
use Rattle.card_pieces.specs.Runs.{Run, phase_by, run_of, run, run_from, put_rows, Outcome, outcome}
use Rattle.card_pieces.specs.Pieces.{fresh, form_by, form_after, state_with, settled, reads_on, state_fed, spare_fed, taken, feed_of, feed_spare}
use Rattle.card_pieces.specs.Pieces.{has_ended, copied, finish_of, finish_book}
use Rattle.card_pieces.specs.Laws.{Takes, Usable, fed_all, spare_all, joined, overlaid, good_rows, AnyCutting, PiecesTaken}
use Rattle.card_pieces.proofs.Runs.{run_is, run_wants, RunFits, run_fits}
use Rattle.card_pieces.proofs.Spare.{puts_kept, put_overlaid, copied_front}
use Rattle.card_pieces.proofs.Finishes.{unended, no_room_lem, finished, case_finish}
use Rattle.card_pieces.proofs.Joins.{takes_taken, feed_taken, spare_taken, takes_again, feed_joins, closed_ended}

-- ---- pieces, one after another

-- after a piece x, the pieces ps are one piece more
module _ (b : Book) (st : Reader) where
  fed_all_lem : (ps : List (List ℕ)) (x : List ℕ) → fed_all (feed_spare b st x) (given_or st (feed_of b st x)) ps ≡ given_or st (feed_of b st (x ++ joined ps))
  unfolding fed_all joined
  fed_all_lem [] x = ap (λ (l : List ℕ). given_or st (feed_of b st l)) (sym (append-nil x))
  fed_all_lem (p ∷ ps) x =
      let j = feed_joins b st x p in
      ap₂ (λ (c : Book) (s : Reader). fed_all c s ps) j.spare j.state
      ∙ fed_all_lem ps (x ++ p) ∙ ap (λ (l : List ℕ). given_or st (feed_of b st l)) (append_assoc x p (joined ps))

  spare_all_lem : (ps : List (List ℕ)) (x : List ℕ) → spare_all (feed_spare b st x) (given_or st (feed_of b st x)) ps ≡ feed_spare b st (x ++ joined ps)
  unfolding spare_all joined
  spare_all_lem [] x = ap (feed_spare b st) (sym (append-nil x))
  spare_all_lem (p ∷ ps) x =
      let j = feed_joins b st x p in
      ap₂ (λ (c : Book) (s : Reader). spare_all c s ps) j.spare j.state
      ∙ spare_all_lem ps (x ++ p) ∙ ap (feed_spare b st) (append_assoc x p (joined ps))

-- ---- a fresh state

fresh_takes : (b : Book) → Sized b → Takes b fresh
unfolding fresh
fresh_takes b z = record { sizes = z; limits = record { kept_within = omega arith; rows_within = omega arith } }

-- the rows in front of the whole, and what reading it leaves
module _ (s : List ℕ) where
  abbrev front : FrontRows
  front = rows_in_front (form_in s) s

  abbrev card : Run
  card = run_of 0 front

  fresh_run : run (form_in s) 0 0 s ≡ card
  unfolding run rows_in_front
  fresh_run = refl

  card_fits : RunFits (form_in s) rows_most card
  card_fits = rw (← fresh_run) (run_fits (form_in s) 0 0 s)

  module _ (b : Book) where
    spare_fresh : spare_fed b fresh s ≡ put_rows b 0 front.rows
    unfolding spare_fed reads_on outcome fresh form_by run_from
    spare_fresh = ap (λ (q : Run). put_rows b 0 q.rows) fresh_run

    -- what the end looks at
    record Left : Type 0 where
      pub kept : (state_fed b fresh s).kept ≡ length card.rest
      pub rows : (state_fed b fresh s).rows ≡ length front.rows
      pub phase : (state_fed b fresh s).phase ≡ card.phase

    left_fresh : Left
    unfolding state_fed settled state_with reads_on outcome fresh form_by run_from
    left_fresh =
        record {
          kept = ap (λ (q : Run). length q.rest) fresh_run;
          rows = ap (λ (q : Run). 0 + length q.rows) fresh_run ∙ zero-add (length front.rows);
          phase = ap (λ (q : Run). q.phase) fresh_run;
        }

module _ (b : Book) (z : Sized b) where
  -- a piece without a byte changes nothing
  reads_nothing : reads_on b fresh [] ≡ record { spare = b; rows = 0; low = 0; phase = Reading; rest = [] }
  unfolding reads_on outcome fresh run_from put_rows
  reads_nothing = ap (outcome b 0) (run_is _ 0 0 [] ∙ run_wants _ rows_most 0 0 [] wants_nothing)

  state_nothing : state_fed b fresh [] ≡ fresh
  unfolding state_fed settled state_with fresh form_after filled
  state_nothing = ap (settled fresh.form (form_by [] fresh.form) 0) reads_nothing

  spare_nothing : spare_fed b fresh [] ≡ b
  unfolding spare_fed fresh
  spare_nothing = ap (λ (o : Outcome). o.spare) reads_nothing

  abbrev is_taken : taken b fresh ≡ true
  is_taken = takes_taken b fresh (fresh_takes b z)

  state_is : (s : List ℕ) → given_or fresh (feed_of b fresh s) ≡ state_fed b fresh s
  state_is s = ap (given_or fresh) (feed_taken b fresh s is_taken)

  spare_is : (s : List ℕ) → feed_spare b fresh s ≡ spare_fed b fresh s
  spare_is s = spare_taken b fresh s is_taken

  module _ (ps : List (List ℕ)) where
    all_fed : fed_all b fresh ps ≡ state_fed b fresh (joined ps)
    all_fed =
        sym (ap₂ (λ (c : Book) (st : Reader). fed_all c st ps) (spare_is [] ∙ spare_nothing) (state_is [] ∙ state_nothing))
        ∙ fed_all_lem b fresh ps [] ∙ state_is (joined ps)

    all_spare : spare_all b fresh ps ≡ spare_fed b fresh (joined ps)
    all_spare =
        sym (ap₂ (λ (c : Book) (st : Reader). spare_all c st ps) (spare_is [] ∙ spare_nothing) (state_is [] ∙ state_nothing))
        ∙ spare_all_lem b fresh ps [] ∙ spare_is (joined ps)

    all_takes : Takes (spare_all b fresh ps) (fed_all b fresh ps)
    all_takes = rw (all_spare, all_fed) (takes_again b fresh (joined ps) (fresh_takes b z))

pub pieces_taken : PiecesTaken
pieces_taken b z pieces piece =
    let c = spare_all b fresh pieces in
    let st = fed_all b fresh pieces in
    ap result_number (feed_taken c st piece (takes_taken c st (all_takes b z pieces)))

-- ---- the end

module _ (b c : Book) (zb : Sized b) (zc : Sized c) (same : length b.ids ≡ length c.ids) (s : List ℕ) where
  abbrev spare : Book
  spare = spare_fed b fresh s

  abbrev state : Reader
  state = state_fed b fresh s

  -- the same answer, and the same book
  abbrev Alike : Type 0
  Alike = (finish_of spare state c ≡ read_of c s) × (finish_book spare state c ≡ read_book c s)

  usable : Usable spare state c
  usable =
      let t = takes_again b fresh s (fresh_takes b zb) in
      record {
        spare_sized = t.sizes;
        book_sized = zc;
        same_room = ap (λ (x : Book). length x.ids) (spare_fresh s b) ∙ (puts_kept b 0 (front s).rows).ids_kept ∙ same;
        limits = t.limits;
      }

  spare_overlaid : spare ≡ overlaid b (take (length b.ids) (good_rows s))
  spare_overlaid = spare_fresh s b ∙ put_overlaid b zb (front s).rows (card_fits s).fit

  -- no card
  not_ended : (w : Bool) (e : CardEnd) → e ≡ fault → (kept : ℕ) → has_ended kept (phase_by w e) ≡ false
  unfolding has_ended
  not_ended true fault p kept = refl
  not_ended false fault p kept = refl
  not_ended w closed p kept = absurd (let z : ◌≡◌ {A = ℕ} 0 1 = cc in omega arith)

  as_fault : (front s).ends ≡ fault → Alike
  as_fault e =
      let l = left_fresh s b in
      let h : has_ended state.kept state.phase ≡ false =
      ap (has_ended state.kept) l.phase ∙ not_ended (wants (front s).rest) (front s).ends e state.kept in
      let f = case_finish spare state c (unended usable h) in
      let r = case_read c s (malformed zc (read_is s ∙ ap (rows_by (front s).rows) e)) in
      (sym f.answer ∙ r.0, sym f.after ∙ r.1)

  -- a card
  module _ (e : (front s).ends ≡ closed) where
    phase_closed : (card s).phase ≡ Closed
    phase_closed = ap (phase_by (wants (front s).rest)) e

    kept_none : (card s).rest ≡ []
    kept_none = (card_fits s).ended (λ q. closed_ended (sym phase_closed ∙ q))

    has_ended_lem : has_ended state.kept state.phase ≡ true
    unfolding has_ended
    has_ended_lem = let l = left_fresh s b in ap₂ has_ended (l.kept ∙ ap length kept_none) (l.phase ∙ phase_closed)

    card_read : read_card s ≡ Some (front s).rows
    card_read = read_is s ∙ ap (rows_by (front s).rows) e

    copied_loaded : length (front s).rows ≤ length c.ids → copied (length (front s).rows) spare c ≡ loaded c (front s).rows
    copied_loaded h =
        let rows = (front s).rows in
        ap (λ (x : Book). copied (length rows) x c)
        (spare_overlaid ∙ ap (overlaid b) (take_all (length b.ids) rows (omega arith)))
        ∙ copied_front b c rows (card_fits s).fit

    as_closed : Alike
    as_closed = on (ltb (length c.ids) (length (front s).rows)) refl
      where
        on : (t : Bool) → ltb (length c.ids) (length (front s).rows) ≡ t → Alike
        on true q =
            let m = (left_fresh s b).rows in
            let h = ltb-true (length c.ids) (length (front s).rows) q in
            let f = case_finish spare state c (no_room_lem usable has_ended_lem (omega arith)) in
            let r = case_read c s (no-room-read zc (front s).rows card_read h) in
            (sym f.answer ∙ r.0, sym f.after ∙ r.1)
        on false q =
            let m = (left_fresh s b).rows in
            let h = ltb-false (length c.ids) (length (front s).rows) q in
            let f = case_finish spare state c (finished usable has_ended_lem (omega arith)) in
            let r = case_read c s (read zc (front s).rows card_read h) in (
              sym f.answer ∙ ap Ok m ∙ r.0,
              sym f.after ∙ ap (λ (n : ℕ). copied n spare c) m ∙ copied_loaded h ∙ r.1,
            )

  alike : Alike
  alike = on (front s).ends refl
    where
      on : (x : CardEnd) → (front s).ends ≡ x → Alike
      on closed e = as_closed e
      on fault e = as_fault e

pub any_cutting : AnyCutting
any_cutting b c zb zc same pieces =
    let s = joined pieces in
    let e₁ = all_spare b zb pieces in
    let e₂ = all_fed b zb pieces in
    let a = alike b c zb zc same s in
    record {
      answer = ap₂ (λ (x : Book) (st : Reader). finish_of x st c) e₁ e₂ ∙ a.0;
      book = ap₂ (λ (x : Book) (st : Reader). finish_book x st c) e₁ e₂ ∙ a.1;
      spare = e₁ ∙ spare_overlaid b c zb zc same s;
    }
