-- What the answers of a piece and of the end depend on.
use mathlib.Core.Path.{◌≡◌, ap, ap₂}
use mathlib.Core.Bool.{Bool, cond}
use mathlib.Core.List.{List, ◌++◌}
use Prim.Native.Nat.{ℕ}
use Rattle.std.specs.Prelude.{Ok, Err}
use Rattle.refusal.specs.declared.Refusal.TheVariants.{UnsoundBook}
use Rattle.key_book.specs.Book.{Book}
use Rattle.card_pieces.specs.declared.Reader.{Reader}
use Rattle.card_pieces.specs.Runs.{Outcome}
use Rattle.card_pieces.specs.Pieces.{held, reads_on, state_fed, spare_fed, taken, feed_of, feed_spare, finish_of}
use Rattle.card_pieces.specs.Laws.{SameRead, PiecesDepend}

module _ (b : Book) (st other : Reader) (h : SameRead st other) (piece : List ℕ) where
  same_taken : taken b st ≡ taken b other
  same_taken = rw (h.kept, h.rows)

  same_reads : reads_on b st (held st ++ piece) ≡ reads_on b other (held other ++ piece)
  unfolding reads_on
  same_reads = rw (h.bytes, h.rows, h.low, h.form, h.phase)

  same_left : spare_fed b st piece ≡ spare_fed b other piece
  unfolding spare_fed
  same_left = ap (λ (x : Outcome). x.spare) same_reads

  same_spare : feed_spare b st piece ≡ feed_spare b other piece
  unfolding feed_spare
  same_spare = ap₂ (λ (t : Bool) (x : Book). cond t x b) same_taken same_left

  same_fed : state_fed b st piece ≡ state_fed b other piece
  unfolding state_fed reads_on
  same_fed = rw (h.bytes, h.rows, h.low, h.form, h.phase)

  same_state : feed_of b st piece ≡ feed_of b other piece
  unfolding feed_of
  same_state = ap₂ (λ (t : Bool) (x : Reader). cond t (Ok x) (Err UnsoundBook)) same_taken same_fed

pub pieces_depend : PiecesDepend
unfolding finish_of
pieces_depend = record {
  piece_spare = same_spare;
  piece_state = same_state;
  end_answer = λ a b c e l st other k r p. rw (e, l, k, r, p);
}
