-- What a card depends on (specs/Laws.antt, `WriteDepends`): two books with the same rows have the same card, and write it alike.
use mathlib.Core.Path.{◌≡◌, sym, ◌∙◌}
use Prim.Native.Nat.{ℕ, ◌<◌}
use native.Mathlib.Omega.{arith}
use Rattle.key_book.specs.Book.{Book, Sound}
use Rattle.key_book.proofs.Says.{key_depends}
use Rattle.book_card.specs.Card.{row_with}
use Rattle.book_card.specs.Writing.{row_at, rows_of}
use Rattle.book_card.proofs.Writes.{row_is, rows_count, rows_are}
use Rattle.book_card.proofs.Ends.{written_alike}
use Rattle.card_laws.specs.Laws.{SameRows, WriteDepends}

module _ (b c : Book) (s : Sound b) (t : Sound c) (a : SameRows b c) where
  same_row : (k : ℕ) → k < b.rows → row_at b k ≡ row_at c k
  same_row k h =
      let i = a.same_id k h in
      let m = a.same_mark k h in
      let r = a.same_received k h in
      let n = a.same_sent k h in
      let q = key_depends b c s t k (a.same_key k h) in
      λ j. row_with (i j) (m j) (r j) (n j) (q j)

  same_rows : rows_of b ≡ rows_of c
  same_rows =
      let e = a.same_count in
      let n = rows_count c in
      rows_are b (rows_of c) (omega arith) (λ k h. same_row k h ∙ sym (row_is c k (omega arith)))

pub write_depends : WriteDepends
write_depends b c s t a room = written_alike b c s t (same_rows b c s t a) room
