-- Putting a card in a room: the fields of a record one after another, what each turn over the rows keeps, and each end of `card_write`.
use mathlib.Core.Path.{◌≡◌, refl, sym, ap, ◌∙◌}
use mathlib.Core.Bool.{Bool, true, false, not, true≢false}
use mathlib.Core.List.{List, [], ◌++◌, append-nil}
use Prim.Native.Nat.{ℕ, ◌+◌, ◌-◌, ◌≤◌, ◌<◌}
use native.Mathlib.Omega.{arith}
use borrow.Author.Tests.{le-leb, lt-leb, not-true, not-false}
use lib.ListN.{length, get_or}
use Rattle.refusal.specs.declared.Refusal.TheVariants.{UnsoundBook, NoRoomForCard}
use Rattle.octets.specs.Bytes.{written}
use Rattle.octets.specs.Numbers.{le}
use Rattle.octets.proofs.Written.{written_front}
use Rattle.octets.proofs.LowFirst.{le_length}
use Rattle.octets.proofs.Loops.{Writing, writing_run, writing_end}
use Rattle.key_book.specs.Limits.{rows_most, slot_size}
use Rattle.key_book.specs.Book.{Book, Sound, sound, key_of}
use Rattle.key_book.proofs.Says.{sound_says, key_says}
use Rattle.book_card.specs.declared.CardForm.{CardForm}
use Rattle.book_card.specs.declared.CardForm.TheVariants.{New}
use Rattle.book_card.specs.Layout.{length_size, kind_size, id_size, mark_size, counter_size, count_size, row_kind, close_kind}
use Rattle.book_card.specs.Layout.{kind_at, body_at, mark_at, received_at, sent_at, key_at, close_size}
use Rattle.book_card.specs.Card.{Row, row_with, empty_row, row_record, close, card_of}
use Rattle.book_card.specs.Writing.{rows_of, size_to, record_put, close_put, write_of, room_after}
use Rattle.book_card.proofs.Shape.{row_fields, row_fields_lem, row_size, close_fields, close_fields_lem, close_size_lem}
use Rattle.book_card.proofs.Writes.{row_is, rows_count, rest_from, rest_all, rest_next, rest_last, rest_length, card_size}
use Rattle.book_card.proofs.Ends.{unsound, small, wrote, case_write, clauses}
use Rattle.std.specs.Prelude.{Err, Ok, Result}
use Rattle.refusal.specs.declared.Refusal.{Refusal}

-- ---- a record

-- one field more, at its place
module _ (old target : List ℕ) where
  field : (new new' : List ℕ) (p q width x : ℕ) (more : List ℕ) → p + width ≡ q → q ≤ length old → Writing old target new p (le width x ++ more)
      → new' ≡ written p (le width x) new → Writing old target new' q more
  field new new' p q width x more e h w f =
      writing_run old target new p (le width x) more q (ap (λ (n : ℕ). p + n) (le_length width x) ∙ e) h w new' f

-- the fields of a row, written one after another, each behind the last, are its record; the places are the code's
module _ (form : CardForm) (r : Row) where
  pub row_written : (d d₁ d₂ d₃ d₄ d₅ d₆ d₇ : List ℕ) (at counts received sent key : ℕ) → at + (key_at form + length r.key) ≤ length d
      → counts ≡ key_at form - length_size + length r.key → received ≡ at + received_at form → sent ≡ at + sent_at form → key ≡ at + key_at form
      → d₁ ≡ written at (le length_size counts) d
      → d₂ ≡ written (at + kind_at) (le kind_size (row_kind form)) d₁
      → d₃ ≡ written (at + body_at) (le id_size r.id) d₂
      → d₄ ≡ written (at + mark_at) (le (mark_size form) r.mark) d₃
      → d₅ ≡ written received (le counter_size r.received) d₄
      → d₆ ≡ written sent (le counter_size r.sent) d₅
      → d₇ ≡ written key r.key d₆
      → d₇ ≡ written at (row_record form r) d
  row_written d d₁ d₂ d₃ d₄ d₅ d₆ d₇ at counts received sent key fits ec er es ek e₁ e₂ e₃ e₄ e₅ e₆ e₇ =
      let target = written at (row_record form r) d in
      let w₀ : Writing d target d at (row_fields form r []) =
      record { long = refl; rest = ap (λ (x : List ℕ). written at x d) (sym (row_fields_lem form r []) ∙ append-nil (row_record form r)) } in
      let w₁ = field d target d d₁ at (at + kind_at) length_size _ _ refl (omega arith) w₀ (e₁ ∙ ap (λ (n : ℕ). written at (le length_size n) d) ec) in
      let w₂ = field d target d₁ d₂ (at + kind_at) (at + body_at) kind_size _ _ (omega arith) (omega arith) w₁ e₂ in
      let w₃ = field d target d₂ d₃ (at + body_at) (at + mark_at) id_size _ _ (omega arith) (omega arith) w₂ e₃ in
      let w₄ = field d target d₃ d₄ (at + mark_at) received (mark_size form) _ _ (omega arith) (omega arith) w₃ e₄ in
      let w₅ = field d target d₄ d₅ received sent counter_size _ _ (omega arith) (omega arith) w₄ e₅ in
      let w₆ = field d target d₅ d₆ sent key counter_size _ _ (omega arith) (omega arith) w₅ e₆ in
      e₇ ∙ ap (λ (x : List ℕ). written key x d₆) (sym (append-nil r.key)) ∙ w₆.rest

-- so are those of the close
pub close_written : (d d₁ d₂ d₃ : List ℕ) (at rows : ℕ) → at + close_size ≤ length d
    → d₁ ≡ written at (le length_size (close_size - length_size)) d
    → d₂ ≡ written (at + kind_at) (le kind_size close_kind) d₁
    → d₃ ≡ written (at + body_at) (le count_size rows) d₂
    → d₃ ≡ written at (close rows) d
close_written d d₁ d₂ d₃ at rows fits e₁ e₂ e₃ =
    let target = written at (close rows) d in
    let w₀ : Writing d target d at (close_fields rows []) =
    record { long = refl; rest = ap (λ (x : List ℕ). written at x d) (sym (close_fields_lem rows []) ∙ append-nil (close rows)) } in
    let w₁ = field d target d d₁ at (at + kind_at) length_size _ _ refl (omega arith) w₀ e₁ in
    let w₂ = field d target d₁ d₂ (at + kind_at) (at + body_at) kind_size _ _ (omega arith) (omega arith) w₁ e₂ in
    let w₃ = field d target d₂ d₃ (at + body_at) (at + close_size) count_size _ _ (omega arith) (omega arith) w₂ e₃ in
    writing_end d target d₃ (at + close_size) w₃

-- ---- the rows

-- the rows before `row` are written, up to `at`; with what is left written from there on, the whole card is
pub record Rowing (form : CardForm) (rows : List Row) (old new : List ℕ) (at row : ℕ) : Type 0 where
  pub within : row ≤ length rows
  pub room : at + length (rest_from form rows row) ≤ length old
  pub writing : Writing old (written 0 (card_of form rows) old) new at (rest_from form rows row)

module _ (form : CardForm) (rows : List Row) (old : List ℕ) where
  abbrev target : List ℕ
  target = written 0 (card_of form rows) old

  pub rowing_start : length (card_of form rows) ≤ length old → Rowing form rows old old 0 0
  rowing_start h =
      let q = rest_all form rows in
      let l = ap length q in
      record { within = omega arith; room = omega arith; writing = record { long = refl; rest = ap (λ (x : List ℕ). written 0 x old) (sym q) } }

  module _ (new : List ℕ) (at row : ℕ) (w : Rowing form rows old new at row) where
    module _ (h : row < length rows) where
      abbrev r : Row
      r = get_or rows row empty_row

      -- there is room for the next record
      pub rowing_room : at + (key_at form + length r.key) ≤ length new
      rowing_room =
          let l = rest_length form rows row h in
          let m = w.room in
          let q = w.writing.long in
          omega arith

      -- the row that was written is the next one
      pub rowing_turn : (new' : List ℕ) (x : Row) (n : ℕ) → x ≡ r → n ≡ key_at form + length x.key → new' ≡ written at (row_record form x) new
          → Rowing form rows old new' (at + n) (row + 1)
      rowing_turn new' x n ex en e =
          let l = rest_length form rows row h in
          let m = w.room in
          let k = ap (λ (y : Row). length y.key) ex in
          let z = row_size form r in
          record {
            within = omega arith;
            room = omega arith;
            writing = writing_run old target new at (row_record form r) (rest_from form rows (row + 1)) (at + n) (omega arith) (omega arith)
                (rw (rest_next form rows row h) at w.writing) new' (e ∙ ap (λ (y : Row). written at (row_record form y) new) ex);
          }

    module _ (h : length rows ≤ row) where
      -- there is room for the close
      pub close_room : at + close_size ≤ length new
      close_room =
          let l = ap length (rest_last form rows row h) ∙ close_size_lem (length rows) in
          let m = w.room in
          let q = w.writing.long in
          omega arith

      pub rowing_end : (new' : List ℕ) (n : ℕ) → n ≡ length rows → new' ≡ written at (close n) new → new' ≡ target
      rowing_end new' n en e =
          e ∙ ap (λ (x : ℕ). written at (close x) new) en ∙ ap (λ (x : List ℕ). written at x new) (sym (rest_last form rows row h)) ∙ w.writing.rest

-- ---- the rows of a sound book

-- what the code reads of row k, with this key, is the k-th of the rows, and there is room for its record
pub record Next (b : Book) (k at : ℕ) (new key : List ℕ) : Type 0 where
  pub used : k < length (rows_of b)
  pub short : length key ≤ slot_size
  pub row : row_with (get_or b.ids k 0) (get_or b.marks k 0) (get_or b.received k 0) (get_or b.sent k 0) key ≡ get_or (rows_of b) k empty_row
  pub room : at + (key_at New + length key) ≤ length new

pub row_next : (b : Book) → Sound b → (k : ℕ) → k < b.rows → (key : List ℕ) → key ≡ key_of b k → (old new : List ℕ) (at : ℕ)
    → Rowing New (rows_of b) old new at k → Next b k at new key
row_next b s k h key e old new at w =
    let used : k < length (rows_of b) = let c = rows_count b in omega arith in
    let row = ap (row_with (get_or b.ids k 0) (get_or b.marks k 0) (get_or b.received k 0) (get_or b.sent k 0)) e ∙ sym (row_is b k h) in
    let long = ap (λ (r : Row). length r.key) row in
    let fits = rowing_room New (rows_of b) old new at k w used in
    record { used = used; short = let l = ap length e in omega (arith, (key_says b s k h).to_slot); row = row; room = omega arith }

-- ---- the ends of `card_write`: the answer, and the room afterwards

-- what `is_sound` told
pub told_sound : (b : Book) (t : Bool) → t ≡ sound b → not t ≡ false → Sound b
told_sound b t e h = (sound_says b).0 (sym e ∙ not-false t h)

pub rows_in_lem : (b : Book) → Sound b → (b.rows ≤ length b.lengths) × (b.rows ≤ rows_most)
rows_in_lem b s =
    let z = s.sizes in
    let f = s.rows_fit in
    (omega arith, s.rows_few)

module _ (b : Book) (room : List ℕ) where
  abbrev Ends : Result ℕ Refusal → List ℕ → Type 0
  Ends a d = record { answer : a ≡ write_of b (length room); after : d ≡ room_after b room }

  module _ (t : Bool) (e : t ≡ sound b) where
    pub write_unsound : not t ≡ true → Ends (Err UnsoundBook) room
    write_unsound h = clauses (case_write b room (unsound (λ s. true≢false (sym ((sound_says b).1 s) ∙ sym e ∙ not-true t h))))

    module _ (h : not t ≡ false) (size : ℕ) (z : size ≡ size_to b.lengths b.rows) where
      pub size_is : length (card_of New (rows_of b)) ≡ size
      size_is = card_size b (told_sound b t e h) ∙ sym z

      pub write_no_room : length room < size → Ends (Err NoRoomForCard) room
      write_no_room l = clauses (case_write b room (small (told_sound b t e h) (rw size_is l)))

      pub write_done : size ≤ length room → (after : List ℕ) → after ≡ written 0 (card_of New (rows_of b)) room → Ends (Ok size) after
      write_done l after f =
          rw (f ∙ written_front (card_of New (rows_of b)) room, ← size_is) (clauses (case_write b room (wrote (told_sound b t e h) (rw size_is l))))

-- ---- a record where it has its place

module _ (form : CardForm) (r : Row) (at : ℕ) (room : List ℕ) where
  pub record_long : slot_size < length r.key → room ≡ record_put form r at room
  unfolding record_put
  record_long h = rw (lt-leb (length r.key) slot_size h)

  pub record_past : length r.key ≤ slot_size → length room < at + (key_at form + length r.key) → room ≡ record_put form r at room
  unfolding record_put
  record_past k h = rw (le-leb (length r.key) slot_size k, lt-leb _ (length room) h)

  pub record_put_lem : length r.key ≤ slot_size → at + (key_at form + length r.key) ≤ length room
      → record_put form r at room ≡ written at (row_record form r) room
  unfolding record_put
  record_put_lem k h = rw (le-leb (length r.key) slot_size k, le-leb _ (length room) h)

module _ (rows at : ℕ) (room : List ℕ) where
  pub close_past : length room < at + close_size → room ≡ close_put rows at room
  unfolding close_put
  close_past h = rw (lt-leb _ (length room) h)

  pub close_put_lem : at + close_size ≤ length room → close_put rows at room ≡ written at (close rows) room
  unfolding close_put
  close_put_lem h = rw (le-leb _ (length room) h)
