-- Reading a card row by row (specs/Laws.antt, `ReadSays`): each list of the book read is the card's elements written over the old ones, and a row's
-- slot stands in the slots written over the key store.
use mathlib.Core.Path.{◌≡◌, refl, sym, ap, ◌∙◌}
use Rattle.std.proofs.lemmas.Option.{same_Some}
use mathlib.Core.List.{List, ◌++◌, map}
use Prim.Native.Nat.{ℕ, suc, ◌+◌, ◌-◌, ◌*◌, ◌≤◌, ◌<◌}
use native.Mathlib.Omega.{arith}
use lib.ListN.{length, get_or, drop, length-map, get_or-append, get_or-map}
use lib.Seq.{get_or-drop, get_or-append-add}
use Rattle.key_book.specs.Limits.{slot_size}
use Rattle.key_book.specs.Book.{Book, Sized}
use Rattle.book_card.specs.declared.CardForm.{CardForm}
use Rattle.book_card.specs.Card.{Row, empty_row, InOrder}
use Rattle.book_card.specs.Reader.{read_card}
use Rattle.book_card.specs.Reading.{slots_of, loaded}
use Rattle.card_laws.specs.Laws.{RowSet, LeftFrom, RowsLeft, RowsRead, ReadSays}
use Rattle.book_card.proofs.Says.{card_says}
use Rattle.book_card.proofs.Loads.{loaded_is}
use Rattle.book_card.proofs.Ends.{ReadCase, read, read_case}
use Rattle.book_card.proofs.Slots.{Fit, slots_length, slots_at}
use Rattle.octets.specs.Bytes.{written, filled}
use Rattle.octets.proofs.Written.{length_written, written_front}
use Rattle.octets.proofs.Filled.{length_filled, filled_in, filled_behind}
use Rattle.card_laws.proofs.Largest.{is_bytes}
use Rattle.std.specs.Prelude.{Ok, Some}

-- elements written at the front of a list, and the old ones behind them
front_new : (new old : List ℕ) (k : ℕ) → k < length new → get_or (written 0 new old) k 0 ≡ get_or new k 0
front_new new old k h = ap (λ (l : List ℕ). get_or l k 0) (written_front new old) ∙ get_or-append new (drop (length new) old) 0 k h

front_left : (new old : List ℕ) (n : ℕ) → length new ≡ n → length new ≤ length old → LeftFrom n old (written 0 new old)
front_left new old n e h =
    record {
      same = λ k l.
          let d : length new + (k - length new) ≡ k = omega arith in
          ap (λ (l : List ℕ). get_or l k 0) (written_front new old)
          ∙ ap (λ (m : ℕ). get_or (new ++ drop (length new) old) m 0) (sym d)
          ∙ get_or-append-add new (drop (length new) old) (k - length new) 0
          ∙ get_or-drop (length new) old (k - length new) 0
          ∙ ap (λ (m : ℕ). get_or old m 0) d;
      long = length_written 0 new old (omega arith);
    }

-- a field of each row, written so
field_at : (f : Row → ℕ) → f empty_row ≡ 0 → (rows : List Row) (old : List ℕ) (k : ℕ) → k < length rows
    → get_or (written 0 (map f rows) old) k 0 ≡ f (get_or rows k empty_row)
field_at f z rows old k h =
    front_new (map f rows) old k (rw (length-map rows f) h) ∙ ap (get_or (map f rows) k) (sym z) ∙ get_or-map f rows k empty_row

-- byte i of row k's slot, in the slots written over a key store
slot_at : (rows : List Row) (old : List ℕ) (k i : ℕ) → Fit rows → k < length rows → i < slot_size
    → get_or (written 0 (slots_of rows) old) (slot_size * k + i) 0 ≡ get_or (filled slot_size (get_or rows k empty_row).key) i 0
slot_at rows old k i f h l =
    let slot = filled slot_size (get_or rows k empty_row).key in
    let z = length_filled slot_size (get_or rows k empty_row).key (f k h) in
    let s = slots_length rows f in
    front_new (slots_of rows) old (slot_size * k + i) (omega arith)
    ∙ sym (get_or-drop (slot_size * k) (slots_of rows) i 0)
    ∙ ap (λ (x : List ℕ). get_or x i 0) (slots_at rows k f h)
    ∙ get_or-append slot (drop (slot_size * suc k) (slots_of rows)) 0 i (omega arith)

module _ {form : CardForm} (b : Book) (z : Sized b) (rows : List Row) (o : InOrder form rows) (room : length rows ≤ length b.ids) where
  fit : Fit rows
  fit k h = (o.fit k h).key_to

  row_set : (k : ℕ) → k < length rows → RowSet (loaded b rows) k (get_or rows k empty_row)
  row_set k h =
      let key = (get_or rows k empty_row).key in
      let t = fit k h in
      rw (loaded_is b rows) (record {
        id = field_at (λ (r : Row). r.id) refl rows b.ids k h;
        key_size_lem = field_at (λ (r : Row). length r.key) refl rows b.lengths k h;
        mark = field_at (λ (r : Row). r.mark) refl rows b.marks k h;
        received = field_at (λ (r : Row). r.received) refl rows b.received k h;
        sent = field_at (λ (r : Row). r.sent) refl rows b.sent k h;
        key = λ i l. slot_at rows b.store k i fit h (omega arith) ∙ filled_in slot_size key t i l;
        zero_behind = λ i l m. slot_at rows b.store k i fit h m ∙ filled_behind slot_size key t i l m;
      })

  rows_left : RowsLeft (length rows) b (loaded b rows)
  rows_left =
      let one : (f : Row → ℕ) (old : List ℕ) → length old ≡ length b.ids → LeftFrom (length rows) old (written 0 (map f rows) old) =
      λ f old e. let m = length-map rows f in front_left (map f rows) old (length rows) m (omega arith) in
      let s = slots_length rows fit in
      rw (loaded_is b rows) (record {
        ids = one (λ (r : Row). r.id) b.ids refl;
        lengths = one (λ (r : Row). length r.key) b.lengths z.lengths_agree;
        store = front_left (slots_of rows) b.store (slot_size * length rows) s (omega (arith, z.store_agrees));
        marks = one (λ (r : Row). r.mark) b.marks z.marks_agree;
        received = one (λ (r : Row). r.received) b.received z.received_agree;
        sent = one (λ (r : Row). r.sent) b.sent z.sent_agree;
      })

  pub rows_read : RowsRead b rows (length rows) (loaded b rows)
  rows_read = record { count = refl; in_use_lem = ap (λ (c : Book). c.rows) (loaded_is b rows); row = row_set; left = rows_left }

pub read_says : ReadSays
read_says b card n g form rows w = on (rw g at (read_case b card))
  where
    reads : read_card card ≡ Some rows
    reads = (card_says card (is_bytes form rows card w) rows).1 (form, w)

    on : {m : ℕ} {c : Book} → ReadCase b card (Ok m) c → RowsRead b rows m c
    on (read z others f l) =
        let s : others ≡ rows = same_Some _ _ (sym f ∙ reads) in
        rw s (rows_read b z rows w.order (rw (← s) l))
