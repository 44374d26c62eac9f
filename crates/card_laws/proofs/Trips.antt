-- Both round trips. A loaded book is sound and its rows are the card's, row by row (proofs/ByRow.antt); a sound book's rows are in order, so that their
-- card reads as they.
use mathlib.Core.Path.{◌≡◌, refl, sym, ap, ◌∙◌}
use Rattle.std.proofs.lemmas.Option.{same_Some}
use mathlib.Core.List.{List}
use Prim.Native.Nat.{ℕ, ◌≤◌, ◌<◌}
use native.Mathlib.Omega.{arith}
use lib.ListN.{length, get_or, take, drop}
use lib.Seq.{take_at, ext_get_or}
use Rattle.octets.specs.Bytes.{Bytes}
use Rattle.key_book.specs.Book.{Book, Sized, Sound, key_of}
use Rattle.key_book.proofs.Says.{key_says}
use Rattle.book_card.specs.declared.CardForm.{CardForm}
use Rattle.book_card.specs.declared.CardForm.TheVariants.{New}
use Rattle.book_card.specs.Card.{Row, row_with, card_of, empty_row, InOrder}
use Rattle.book_card.specs.Reader.{read_card}
use Rattle.book_card.specs.Reading.{loaded, read_of, read_book}
use Rattle.book_card.specs.Writing.{row_at, rows_of, room_after}
use Rattle.book_card.proofs.Says.{card_says}
use Rattle.book_card.proofs.Writes.{rows_count, rows_are}
use Rattle.book_card.proofs.Ends.{ReadCase, read, read_case, case_read, wrote, case_write}
use Rattle.card_laws.specs.Laws.{WriteThenRead, ReadThenWrite}
use Rattle.card_laws.proofs.Rows.{rows_in_order}
use Rattle.card_laws.proofs.Largest.{card_bytes, is_bytes}
use Rattle.card_laws.proofs.ByRow.{rows_read}
use Rattle.std.specs.Prelude.{Ok, Some}

module _ {form : CardForm} (b : Book) (z : Sized b) (rows : List Row) (o : InOrder form rows) (room : length rows ≤ length b.ids) where
  abbrev now : Book
  now = loaded b rows

  pub loaded_sound : Sound now
  loaded_sound =
      let r = rows_read b z rows o room in
      let l = r.left in
      let u = r.in_use_lem in
      let f = o.few in
      record {
        sizes = record {
          room = omega (arith, l.ids.long);
          lengths_agree = omega (arith, l.ids.long, l.lengths.long);
          store_agrees = omega (arith, l.ids.long, l.store.long);
          marks_agree = omega (arith, l.ids.long, l.marks.long);
          received_agree = omega (arith, l.ids.long, l.received.long);
          sent_agree = omega (arith, l.ids.long, l.sent.long);
        };
        rows_fit = omega (arith, l.ids.long);
        rows_few = omega arith;
        ids_ascend = λ j k m h. rw ((r.row j (omega arith)).id, (r.row k (omega arith)).id) (o.ascend j k m (omega arith));
        keys_from = λ k h. rw (r.row k (omega arith)).key_size_lem (o.fit k (omega arith)).key_from;
        keys_to = λ k h. rw (r.row k (omega arith)).key_size_lem (o.fit k (omega arith)).key_to;
        marks_fit_lem = λ k h. rw ((r.row k (omega arith)).mark, (r.row k (omega arith)).received) (o.fit k (omega arith)).mark_fits_lem;
      }

  loaded_row : (k : ℕ) → k < now.rows → row_at now k ≡ get_or rows k empty_row
  loaded_row k h =
      let r = rows_read b z rows o room in
      let u = r.in_use_lem in
      let s = r.row k (omega arith) in
      let q = key_says now loaded_sound k h in
      let e : key_of now k ≡ (get_or rows k empty_row).key =
      ext_get_or 0 (key_of now k) (get_or rows k empty_row).key (q.size ∙ s.key_size_lem)
      (λ i l. q.bytes i l ∙ s.key i (let c = q.size in let d = s.key_size_lem in omega arith)) in
      let i = s.id in
      let m = s.mark in
      let v = s.received in
      let n = s.sent in
      λ j. row_with (i j) (m j) (v j) (n j) (e j)

  pub loaded_rows : rows_of now ≡ rows
  loaded_rows = let u = (rows_read b z rows o room).in_use_lem in rows_are now rows (omega arith) loaded_row

pub write_then_read : WriteThenRead
write_then_read b l s room h into z r =
    let o = rows_in_order b l s in
    let card = card_of New (rows_of b) in
    let w = case_write b room (wrote s h) in
    let e : take (length card) (room_after b room) ≡ card =
    ap (take (length card)) (sym w.1) ∙ take_at card (drop (length card) room) (length card) refl in
    let n = rows_count b in
    let q : length (rows_of b) ≤ length into.ids = omega arith in
    let g = case_read into card (read z (rows_of b)
    ((card_says card (card_bytes New (rows_of b) o) (rows_of b)).1 (New, record { order = o; bytes = refl })) q) in
    record {
      size = sym w.0;
      answer = ap (read_of into) e ∙ sym g.0 ∙ ap Ok n;
      rows = ap (λ (c : List ℕ). rows_of (read_book into c)) e ∙ ap rows_of (sym g.1) ∙ loaded_rows into z (rows_of b) o q;
    }

-- what reading a card leaves: a sound book whose rows are those of the card
pub record LoadedCard (card : List ℕ) (into : Book) : Type 0 where
  pub rows : List Row
  pub reads : read_card card ≡ Some rows
  pub is_sound : Sound (read_book into card)
  pub its_rows : rows_of (read_book into card) ≡ rows

pub card_loaded : (card : List ℕ) → Bytes card → (into : Book) (n : ℕ) → read_of into card ≡ Ok n → LoadedCard card into
card_loaded card h into n g = on (rw g at (read_case into card)) refl
  where
    on : {m : ℕ} {c : Book} → ReadCase into card (Ok m) c → read_book into card ≡ c → LoadedCard card into
    on (read z rows reads fits) book =
        let o = ((card_says card h rows).0 reads).1.order in
        record {
          rows = rows;
          reads = reads;
          is_sound = rw book (loaded_sound into z rows o fits);
          its_rows = ap rows_of book ∙ loaded_rows into z rows o fits;
        }

pub read_then_write : ReadThenWrite
read_then_write card rows w into n g room l =
    let h = is_bytes New rows card w in
    let c = card_loaded card h into n g in
    let those : c.rows ≡ rows = same_Some _ _ (sym c.reads ∙ (card_says card h rows).1 (New, w)) in
    let e : card_of New (rows_of (read_book into card)) ≡ card = ap (card_of New) (c.its_rows ∙ those) ∙ sym w.bytes in
    let done = case_write (read_book into card) room (wrote c.is_sound (rw e l)) in
    record { loaded_sound = c.is_sound; size = sym (rw e at done.0); bytes = sym (rw e at done.1) }
