-- The ids of a good card, loaded into the empty book: they ascend, so that the search by halving finds an id in the card's row that has it, and misses it
-- where none has.
use Prim.Native.Nat.{ℕ, ◌≤◌, ◌<◌}
use mathlib.Core.Path.{◌≡◌, sym, ap, ◌∙◌}
use mathlib.Core.Logic.{◌≢◌}
use mathlib.Core.List.{List, map}
use native.Mathlib.Omega.{arith}
use lib.ListN.{length, get_or, length-map}
use Rattle.octets.proofs.Written.{length_written}
use Rattle.key_book.specs.Book.{Book, Sound}
use Rattle.key_book.specs.Halving.{Taken, known_of}
use Rattle.key_book.specs.Known.{Ascends}
use Rattle.key_book.proofs.Says.{row_says}
use Rattle.key_book.proofs.Halves.{ascending_finds}
use Rattle.book_card.specs.Card.{Row, empty_row, CardFor}
use Rattle.book_card.specs.Reading.{loaded}
use Rattle.book_card.proofs.Loads.{loaded_is}
use Rattle.card_laws.specs.Laws.{RowsRead}
use Rattle.card_laws.proofs.ByRow.{rows_read}
use Rattle.card_laws.proofs.Trips.{loaded_sound}
use Rattle.verdict_line.specs.declared.Line.TheVariants.{Known, Unknown}
use Rattle.file_verdict.specs.Files.{empty_book}
use Rattle.file_verdict.proofs.Cards.{empty_sized, rows_room}
use Rattle.known_verdict.specs.Asked.{sought_line}

-- no more ids than are searched, whatever the rows
pub ids_taken : (rows : List Row) → length rows ≤ length empty_book.ids → Taken (loaded empty_book rows).ids (length rows)
ids_taken rows h =
    let ids = map (λ (r : Row). r.id) rows in
    let m = length-map rows (λ (r : Row). r.id) in
    let w = length_written 0 ids empty_book.ids (omega arith) in
    rw (loaded_is empty_book rows) (record { room = omega (arith, empty_sized.room); counted = omega arith })

module _ (card : List ℕ) (rows : List Row) (c : CardFor rows card) where
  abbrev book : Book
  book = loaded empty_book rows

  abbrev ids : List ℕ
  ids = book.ids

  by_row : RowsRead empty_book rows (length rows) book
  by_row = rows_read empty_book empty_sized rows c.1.order (rows_room card rows c)

  is_sound : Sound book
  is_sound = loaded_sound empty_book empty_sized rows c.1.order (rows_room card rows c)

  id_at : (k : ℕ) → k < length rows → get_or ids k 0 ≡ (get_or rows k empty_row).id
  id_at k h = (by_row.row k h).id

  taken : Taken ids (length rows)
  taken = ids_taken rows (rows_room card rows c)

  ids_ascend : Ascends ids (length rows)
  ids_ascend j k l h = let u = by_row.in_use_lem in is_sound.ids_ascend j k l (omega arith)

  -- row k has the id
  pub row_known : (id k : ℕ) → k < length rows → (get_or rows k empty_row).id ≡ id → sought_line (known_of ids (length rows) id) ≡ Known k
  row_known id k h e =
      let u = by_row.in_use_lem in
      let n : get_or ids k 0 ≡ id = id_at k h ∙ e in
      let f = (row_says.row book id k).1 (record {
        used = omega arith;
        lent = omega (arith, is_sound.rows_fit);
        named = n;
        first = λ j l s. omega (arith, ids_ascend j k l h);
      }) in
      let s = (ascending_finds.row ids (length rows) id k taken ids_ascend).1 (rw u at f) in
      ap sought_line s.1

  -- no row has it
  pub row_unknown : (id : ℕ) → ((k : ℕ) → k < length rows → (get_or rows k empty_row).id ≢ id) → sought_line (known_of ids (length rows) id) ≡ Unknown
  row_unknown id none_has =
      let u = by_row.in_use_lem in
      let f = (row_says.no_row book id).1 (λ k h l e. none_has k (omega arith) (sym (id_at k (omega arith)) ∙ e)) in
      let s = (ascending_finds.no_row ids (length rows) id taken ids_ascend).1 (rw u at f) in
      ap sought_line s.1
