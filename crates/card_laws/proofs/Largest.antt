-- The bytes of a card: that they are bytes, how many there are, and the largest card. By the laws of book_card/proofs/Shape.
use mathlib.Core.Path.{◌≡◌, refl, sym, ap, ◌∙◌}
use mathlib.Core.Logic.{inr}
use mathlib.Core.List.{List, [], ◌∷◌, ◌++◌}
use Prim.Native.Nat.{ℕ, zero, suc, ◌+◌, ◌*◌, ◌≤◌, ◌<◌}
use native.Mathlib.Nat.{add-zero, mul-suc}
use native.Mathlib.Omega.{arith}
use lib.ListN.{length, get_or, length-append, length-replicate}
use Rattle.octets.specs.Bytes.{Bytes, zeros}
use Rattle.octets.proofs.Elements.{bytes_append, bytes_left, bytes_zeros}
use Rattle.octets.proofs.LowFirst.{bytes_le}
use Rattle.key_book.specs.Limits.{rows_most, slot_size, heard}
use Rattle.book_card.specs.declared.CardForm.{CardForm}
use Rattle.book_card.specs.declared.CardForm.TheVariants.{Old, New}
use Rattle.book_card.specs.Layout.{key_at, mark_size}
use Rattle.book_card.specs.Card.{Row, row_with, row_record, row_records, close, card_of, empty_row, Held, InOrder, IsCard}
use Rattle.book_card.proofs.Shape.{row_fields_lem, close_fields_lem, row_size, close_size_lem, records_cons, records_none, card_is}
use Rattle.book_card.proofs.Slots.{Fit}
use Rattle.card_laws.specs.Laws.{full_rows, LargestCard}

module _ (form : CardForm) where
  -- ---- they are bytes

  row_bytes : (r : Row) (t : List ℕ) → Bytes r.key → Bytes t → Bytes (row_record form r ++ t)
  row_bytes r t h k = rw (row_fields_lem form r t) (search (bytes_append, bytes_le) depth 14)

  close_bytes : (n : ℕ) → Bytes (close n)
  close_bytes n = let e : Bytes [] = tt in bytes_left (close n) [] (rw (close_fields_lem n []) (search (bytes_append, bytes_le) depth 12))

  records_bytes : (rows : List Row) (t : List ℕ) → ((k : ℕ) → k < length rows → Bytes (get_or rows k empty_row).key) → Bytes t
      → Bytes (row_records form rows ++ t)
  records_bytes [] t h b = rw (records_none form t) b
  records_bytes (r ∷ rows) t h b =
      rw (records_cons form r rows t)
      (row_bytes r (row_records form rows ++ t) (h 0 (omega arith)) (records_bytes rows t (λ k l. h (suc k) (omega arith)) b))

  pub card_bytes : (rows : List Row) → InOrder form rows → Bytes (card_of form rows)
  card_bytes rows o = rw (card_is form rows) (records_bytes rows (close (length rows)) (λ k h. (o.fit k h).key_bytes_lem) (close_bytes (length rows)))

  pub is_bytes : (rows : List Row) (s : List ℕ) → IsCard form rows s → Bytes s
  is_bytes rows s w = rw w.bytes (card_bytes rows w.order)

  -- ---- how many

  -- a row's record where the key is the longest
  abbrev most : ℕ
  most = key_at form + slot_size

  records_most : (rows : List Row) (t : List ℕ) → Fit rows → length (row_records form rows ++ t) ≤ most * length rows + length t
  records_most [] t h = omega (arith, ap length (records_none form t))
  records_most (r ∷ rows) t h =
      let e = ap length (records_cons form r rows t) ∙ length-append (row_record form r) (row_records form rows ++ t) in
      let f = h 0 (omega arith) in
      omega (arith, row_size form r, mul-suc most (length rows), records_most rows t (λ k l. h (suc k) (omega arith)))

  card_length : (rows : List Row) → length (card_of form rows) ≡ length (row_records form rows ++ close (length rows))
  card_length rows = ap length (card_is form rows)

-- a row of the largest card, and where it stands
abbrev full_row : ℕ → Row
full_row id = row_with id heard 0 0 (zeros slot_size)

full_length_lem : (id n : ℕ) → length (full_rows id n) ≡ n
unfolding full_rows
full_length_lem id zero = refl
full_length_lem id (suc n) = ap suc (full_length_lem (suc id) n)

full_at : (id n k : ℕ) → k < n → get_or (full_rows id n) k empty_row ≡ full_row (id + k)
unfolding full_rows
full_at id zero k h = absurd (omega arith)
full_at id (suc n) zero h = ap full_row (sym (add-zero id))
full_at id (suc n) (suc k) h = let e : suc id + k ≡ id + suc k = omega arith in full_at (suc id) n k (omega arith) ∙ ap full_row e

full_records : (form : CardForm) (id n : ℕ) (t : List ℕ) → length (row_records form (full_rows id n) ++ t) ≡ most form * n + length t
unfolding full_rows
full_records form id zero t = ap length (records_none form t) ∙ omega arith
full_records form id (suc n) t =
    let e = ap length (records_cons form (full_row id) (full_rows (suc id) n) t)
    ∙ length-append (row_record form (full_row id)) (row_records form (full_rows (suc id) n) ++ t) in
    let k = length-replicate {A = ℕ} slot_size 0 in
    omega (arith, row_size form (full_row id), mul-suc (most form) n, full_records form (suc id) n t)

-- heard rows are held by either form
heard_held : (form : CardForm) → Held form heard
heard_held Old = refl
heard_held New = tt

full_in_order : (form : CardForm) → InOrder form (full_rows 0 rows_most)
full_in_order form =
    let l = full_length_lem 0 rows_most in
    let z = length-replicate {A = ℕ} slot_size 0 in
    record {
      few = omega arith;
      fit = λ k h.
          rw (full_at 0 rows_most k (omega arith)) (record {
            id_fits = omega arith;
            mark_fits_lem = record { known = inr refl; fresh = λ e. absurd (omega arith) };
            mark_held = heard_held form;
            received_fits = omega arith;
            sent_fits = omega arith;
            key_from = omega arith;
            key_to = omega arith;
            key_bytes_lem = bytes_zeros slot_size;
          });
      ascend = λ j k m h. rw (full_at 0 rows_most j (omega arith), full_at 0 rows_most k (omega arith)) (omega arith);
    }

-- no more rows, no more bytes
rows_most_lem : (form : CardForm) (n : ℕ) → n ≤ rows_most → most form * n ≤ rows_most * most form
unfolding mark_size
rows_most_lem Old n h = omega arith
rows_most_lem New n h = omega arith

pub largest_card : LargestCard
unfolding mark_size
largest_card =
    record {
      most = λ form rows o.
          let f = rows_most_lem form (length rows) o.few in
          omega (arith, card_length form rows, close_size_lem (length rows), records_most form rows (close (length rows)) (λ k h. (o.fit k h).key_to));
      reached = λ form.
          let rows = full_rows 0 rows_most in
          omega (arith, card_length form rows, close_size_lem (length rows), full_records form 0 rows_most (close (length rows)));
      reached_in_order = full_in_order;
      old_bytes = refl;
      new_bytes = refl;
    }
