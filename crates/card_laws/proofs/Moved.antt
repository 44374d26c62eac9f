-- Moving a card. A move that answers 0 leaves the card of the same rows in the wanted form, so a card in that form is copied, and there and back gives the
-- same bytes; and a book that was read and is written is its card moved to the new form.
use mathlib.Core.Path.{◌≡◌, refl, sym, ap, ◌∙◌}
use mathlib.Core.Logic.{◌⊎◌, ⊎_elim}
use mathlib.Core.Bool.{Bool, true, false, ◌&&◌, and-eq-true_iff, true≢false}
use Rattle.std.proofs.lemmas.Option.{same_Some}
use mathlib.Core.List.{List, [], ◌∷◌}
use Prim.Native.Nat.{ℕ, zero, suc, ◌<◌}
use native.Mathlib.Omega.{arith}
use borrow.Author.Tests.{eq-eqb, eqb-true}
use lib.Dec.{eqb}
use lib.ListN.{length, get_or, take, drop}
use lib.Seq.{take_at, drop_at}
use Rattle.key_book.specs.Limits.{not_heard, heard}
use Rattle.book_card.specs.declared.CardForm.{CardForm}
use Rattle.book_card.specs.declared.CardForm.TheVariants.{Old, New}
use Rattle.book_card.specs.Card.{Row, card_of, empty_row, Held, InOrder, IsCard}
use Rattle.book_card.specs.Reading.{read_book}
use Rattle.book_card.specs.Moving.{all_heard, holds, room_moved}
use Rattle.book_card.proofs.Says.{card_says}
use Rattle.book_card.proofs.Ends.{WriteCase, unsound, small, wrote, write_case, MoveCase, no_space, moved, move_case, case_move}
use Rattle.card_laws.specs.Laws.{Moved, MoveKeepsRows, MoveCopies, ThereAndBack, ReadThenWriteMoves}
use Rattle.card_laws.proofs.Largest.{is_bytes}
use Rattle.card_laws.proofs.Trips.{LoadedCard, card_loaded}
use Rattle.std.specs.Prelude.{Ok, Result}
use Rattle.refusal.specs.declared.Refusal.{Refusal}

-- ---- which rows a form holds

heard_each : (rows : List Row) → all_heard rows ≡ true → (k : ℕ) → k < length rows → (get_or rows k empty_row).mark ≡ heard
unfolding all_heard
heard_each [] e k h = absurd (omega arith)
heard_each (r ∷ rows) e zero h = eqb-true r.mark heard ((and-eq-true_iff (eqb r.mark heard) (all_heard rows)).0 e).0
heard_each (r ∷ rows) e (suc k) h = heard_each rows ((and-eq-true_iff (eqb r.mark heard) (all_heard rows)).0 e).1 k (omega arith)

each_heard : (rows : List Row) → ((k : ℕ) → k < length rows → (get_or rows k empty_row).mark ≡ heard) → all_heard rows ≡ true
unfolding all_heard
each_heard [] h = refl
each_heard (r ∷ rows) h =
    (and-eq-true_iff (eqb r.mark heard) (all_heard rows)).1 (eq-eqb r.mark heard (h 0 (omega arith)), each_heard rows (λ k l. h (suc k) (omega arith)))

-- a row that is not heard, where they are not all heard
unheard_row : (rows : List Row) → ((k : ℕ) → k < length rows → ((get_or rows k empty_row).mark ≡ not_heard) ⊎ ((get_or rows k empty_row).mark ≡ heard))
    → all_heard rows ≡ false → (k : ℕ) × (k < length rows) × ((get_or rows k empty_row).mark ≡ not_heard)
unfolding all_heard
unheard_row [] h e = absurd (true≢false e)
unheard_row (r ∷ rows) h e =
    ⊎_elim
    (λ (z : r.mark ≡ not_heard). (0, omega arith, z))
    (λ (o : r.mark ≡ heard).
    let w = unheard_row rows (λ k l. h (suc k) (omega arith)) (sym (ap (λ (t : Bool). t && all_heard rows) (eq-eqb r.mark heard o)) ∙ e) in
    let l = w.1 in
    (suc w.0, omega arith, w.2))
    (h 0 (omega arith))

-- what a form holds, and what it does not
pub holds_heard : (wanted : CardForm) (rows : List Row) → holds wanted rows ≡ true → wanted ≡ Old → (k : ℕ) → k < length rows
    → (get_or rows k empty_row).mark ≡ heard
unfolding holds
holds_heard Old rows e o = heard_each rows e
holds_heard New rows e o = absurd (let z : ◌≡◌ {A = ℕ} 0 1 = cc in omega arith)

pub not_held : {form : CardForm} (wanted : CardForm) (rows : List Row) → InOrder form rows → holds wanted rows ≡ false
    → (wanted ≡ Old) × ((k : ℕ) × (k < length rows) × ((get_or rows k empty_row).mark ≡ not_heard))
unfolding holds
not_held Old rows o e = (refl, unheard_row rows (λ k h. (o.fit k h).mark_fits_lem.known) e)
not_held New rows o e = absurd (true≢false e)

-- rows in order for one form are so for another that holds them
module _ {form : CardForm} (rows : List Row) (o : InOrder form rows) where
  with_marks : (wanted : CardForm) → ((k : ℕ) → k < length rows → Held wanted (get_or rows k empty_row).mark) → InOrder wanted rows
  with_marks wanted held = record {
    few = o.few;
    fit = λ k h.
        let f = o.fit k h in
        record {
          id_fits = f.id_fits;
          mark_fits_lem = f.mark_fits_lem;
          mark_held = held k h;
          received_fits = f.received_fits;
          sent_fits = f.sent_fits;
          key_from = f.key_from;
          key_to = f.key_to;
          key_bytes_lem = f.key_bytes_lem;
        };
    ascend = o.ascend;
  }

  pub held_in_order : (wanted : CardForm) → holds wanted rows ≡ true → InOrder wanted rows
  unfolding holds
  held_in_order Old e = with_marks Old (heard_each rows e)
  held_in_order New e = with_marks New (λ k h. tt)

pub in_order_held : (form : CardForm) (rows : List Row) → InOrder form rows → holds form rows ≡ true
unfolding holds
in_order_held Old rows o = each_heard rows (λ k h. (o.fit k h).mark_held)
in_order_held New rows o = refl

-- ---- what a move leaves

pub move_keeps_rows : MoveKeepsRows
move_keeps_rows wanted card room n h e = on (rw e at (move_case wanted card room)) refl
  where
    on : {m : ℕ} {after : List ℕ} → MoveCase wanted card room (Ok m) after → room_moved wanted card room ≡ after
        → (rows : List Row) × Moved wanted card room m rows
    on (moved rows reads fits held) is =
        let before = (card_says card h rows).0 reads in
        let whole = card_of wanted rows in (
          rows,
          record {
            before = before;
            after = record {
              order = held_in_order rows before.1.order wanted held;
              bytes = ap (take (length whole)) is ∙ take_at whole (drop (length whole) room) (length whole) refl;
            };
            size = refl;
            fits = fits;
            left = ap (drop (length whole)) is ∙ drop_at whole (drop (length whole) room) (length whole) refl;
          },
        )

pub move_copies : MoveCopies
move_copies form rows card room w l =
    let reads = (card_says card (is_bytes form rows card w) rows).1 (form, w) in
    let e = w.bytes in
    let done = case_move form card room (moved rows reads (rw (← e) l) (in_order_held form rows w.order)) in
    record { size = sym (rw (← e) at done.0); bytes = sym (rw (← e) at done.1) }

pub there_and_back : ThereAndBack
there_and_back form wanted rows card room n w e second l =
    let h = is_bytes form rows card w in
    let m = move_keeps_rows wanted card room n h e in
    let there = take n (room_moved wanted card room) in
    let same : m.0 ≡ rows = same_Some _ _ (sym ((card_says card h m.0).1 m.1.before) ∙ (card_says card h rows).1 (form, w)) in
    let a : IsCard wanted rows there = rw same at m.1.after in
    let reads = (card_says there (is_bytes wanted rows there a) rows).1 (wanted, a) in
    let done = case_move form there second (moved rows reads (rw (← w.bytes) l) (in_order_held form rows w.order)) in
    (sym (rw (← w.bytes) at done.0), sym (rw (← w.bytes) at done.1))

-- ---- read and then written

pub read_then_write_moves : ReadThenWriteMoves
unfolding holds
read_then_write_moves card h into n g room =
    let c = card_loaded card h into n g in
    let b = read_book into card in
    let done = case_move New card room (on c (write_case b room)) in
    record { loaded_sound = c.is_sound; answer = done.0; bytes = done.1 }
  where
    on : (c : LoadedCard card into) {a : Result ℕ Refusal} {after : List ℕ} → WriteCase (read_book into card) room a after → MoveCase New card room a after
    on c (unsound f) = absurd (f c.is_sound)
    on c (small s l) = no_space c.rows c.reads (rw c.its_rows at l)
    on c (wrote s l) = rw c.its_rows (moved c.rows c.reads (rw c.its_rows at l) refl)
