-- What a card gives, by what its file holds: one that can't be judged stops, and so does a malformed one; the rows of a good one are loaded into the
-- empty book.
use Prim.Native.Nat.{ℕ, ◌*◌, ◌≤◌, ◌<◌}
use mathlib.Core.Path.{◌≡◌, refl, sym, ap, ◌∙◌}
use mathlib.Core.List.{List}
use native.Mathlib.Omega.{arith}
use lib.ListN.{length, length-replicate}
use Rattle.octets.specs.Bytes.{Bytes}
use Rattle.refusal.specs.declared.Refusal.TheVariants.{MalformedCard}
use Rattle.key_book.specs.Limits.{rows_most, slot_size}
use Rattle.key_book.specs.Book.{Sized}
use Rattle.book_card.specs.Card.{Row, CardFor, NoCard}
use Rattle.book_card.specs.Reader.{read_card}
use Rattle.book_card.specs.Reading.{loaded}
use Rattle.book_card.proofs.Forms.{mark_small}
use Rattle.book_card.proofs.Says.{card_says, malformed_says}
use Rattle.book_card.proofs.Ends.{malformed, read, case_read}
use Rattle.card_laws.proofs.Largest.{is_bytes, largest_card}
use Rattle.verdict_line.specs.declared.Line.TheVariants.{Refused, Unreadable}
use Rattle.file_verdict.specs.Files.{file_most, readable, loaded_of, book_loaded, empty_book}
use Rattle.file_verdict.proofs.Contents.{readable_none, readable_fits, readable_too_large}
use Rattle.file_verdict.proofs.Stages.{card_none, card_read, book_read}
use Rattle.std.specs.Prelude.{Err, None, Ok, Some}

-- the empty book's sizes agree
empty_long : length empty_book.ids ≡ rows_most
empty_long = length-replicate {A = ℕ} rows_most 0

pub empty_sized : Sized empty_book
empty_sized =
    let l = empty_long in
    let s = length-replicate {A = ℕ} (rows_most * slot_size) 0 in
    record { room = omega arith; lengths_agree = refl; store_agrees = omega arith; marks_agree = refl; received_agree = refl; sent_agree = refl }

pub card_missing : Err Unreadable ≡ loaded_of empty_book None
card_missing = (card_none empty_book None readable_none).0

pub card_too_large : (card : List ℕ) → file_most < length card → Err Unreadable ≡ loaded_of empty_book (Some card)
card_too_large card h = (card_none empty_book (Some card) (readable_too_large card h)).0

pub card_malformed : (card : List ℕ) → length card ≤ file_most → Bytes card → NoCard card
    → Err (Refused MalformedCard) ≡ loaded_of empty_book (Some card)
card_malformed card h b f =
    card_read empty_book (Some card) (readable_fits card h) refl (case_read empty_book card (malformed empty_sized ((malformed_says card b).1 f))).0

module _ (card : List ℕ) (rows : List Row) (c : CardFor rows card) where
  card_rows : read_card card ≡ Some rows
  card_rows = (card_says card (is_bytes c.0 rows card c.1) rows).1 c

  pub rows_room : length rows ≤ length empty_book.ids
  rows_room = let f = c.1.order.few in let l = empty_long in omega arith

  card_small : readable (Some card) ≡ Some card
  card_small =
      let m = largest_card.most c.0 rows c.1.order in
      let k = mark_small c.0 in
      let l = ap length c.1.bytes in
      readable_fits card (omega arith)

  pub card_loaded : (Ok (length rows) ≡ loaded_of empty_book (Some card)) × (book_loaded empty_book (Some card) ≡ loaded empty_book rows)
  card_loaded =
      let r = case_read empty_book card (read empty_sized rows card_rows rows_room) in
      (card_read empty_book (Some card) card_small refl r.0, sym (book_read empty_book (Some card) card_small refl) ∙ sym r.1)
