-- A sound book's rows are in order, so that they have a card of the new form.
use Prim.Native.Nat.{ℕ, ◌*◌, ◌<◌}
use native.Mathlib.Omega.{arith}
use lib.ListN.{get_or}
use Rattle.key_book.specs.Limits.{slot_size}
use Rattle.key_book.specs.Book.{Book, Lent, Sound}
use Rattle.key_book.proofs.Says.{rows_within, key_says, key_is}
use Rattle.book_card.specs.declared.CardForm.TheVariants.{New}
use Rattle.book_card.specs.Card.{RowFits, InOrder}
use Rattle.book_card.specs.Writing.{row_at, rows_of}
use Rattle.octets.proofs.Elements.{bytes_of, bytes_take, bytes_drop}
use Rattle.book_card.proofs.Writes.{row_is, rows_count}

pub rows_in_order : (b : Book) → Lent b → Sound b → InOrder New (rows_of b)
rows_in_order b l s =
    let c = rows_count b in
    let f = s.rows_few in
    record {
      few = omega arith;
      fit = λ k h. rw (row_is b k (omega arith)) (row_fits k (omega arith));
      ascend = λ j k m h. rw (row_is b j (omega arith), row_is b k (omega arith)) (s.ids_ascend j k m (omega arith));
    }
  where
    row_fits : (k : ℕ) → k < b.rows → RowFits New (row_at b k)
    row_fits k h =
        let q = key_says b s k h in
        let bytes = bytes_take (get_or b.lengths k 0) _ (bytes_drop (slot_size * k) b.store (bytes_of b.store l.byte_fits)) in
        record {
          id_fits = l.id_fits k;
          mark_fits_lem = s.marks_fit_lem k h;
          mark_held = tt;
          received_fits = l.received_fits k;
          sent_fits = l.sent_fits k;
          key_from = q.from_one;
          key_to = q.to_slot;
          key_bytes_lem = rw (key_is b k (rows_within b s k h) (s.keys_to k h)) bytes;
        }
