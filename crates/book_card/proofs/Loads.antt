-- Setting rows of a book: one from its record on a card, and many one by one. No other law unfolds `set_row`, `put_row` and `loaded`.
use mathlib.Core.Path.{◌≡◌, refl, sym, ap, ◌∙◌}
use mathlib.Core.Bool.{Bool, true, false, not, ◌&&◌}
use mathlib.Core.List.{List, [], ◌∷◌, map}
use Prim.Native.Nat.{ℕ, suc, ◌+◌, ◌-◌, ◌*◌, ◌≤◌, ◌<◌}
use native.Mathlib.Nat.{zero-add}
use native.Mathlib.Omega.{arith}
use borrow.Author.Tests.{lt-ltb, le-ltb, le-leb, lt-leb, not-true, not-false}
use lib.Dec.{leb, ltb}
use lib.ListN.{length, set, length-set}
use Rattle.octets.specs.Bytes.{written, zeros}
use Rattle.octets.proofs.Written.{length_written, written_cons, written_join, written_none}
use Rattle.octets.proofs.Filled.{written_filled}
use Rattle.key_book.specs.Limits.{slot_size}
use Rattle.key_book.specs.Book.{Book, book_of, Sized, sized}
use Rattle.key_book.specs.Laws.{Within}
use Rattle.key_book.proofs.Says.{sized_says}
use Rattle.book_card.specs.Card.{Row, row_with}
use Rattle.book_card.specs.Reading.{slots_of, set_row, put_row, loaded}
use Rattle.book_card.proofs.Slots.{slot_of, slot_length, slots_none, slots_cons}

-- ---- one row

-- what the code's own stores leave is the row set
pub row_set : (b : Book) (row : ℕ) → Within b row → (key : List ℕ) → length key ≤ slot_size → (id mark received sent : ℕ) (store₁ store₂ : List ℕ)
    → store₁ ≡ written (slot_size * row) key b.store
    → store₂ ≡ written (slot_size * row + length key) (zeros (slot_size - length key)) store₁
    → book_of (set b.ids row id) (set b.lengths row (length key)) store₂ (set b.marks row mark) (set b.received row received)
    (set b.sent row sent) b.rows
    ≡ set_row b row (row_with id mark received sent key)
unfolding set_row
row_set b row w key small id mark received sent store₁ store₂ e₁ e₂ =
    let room = w.in_store in
    let s : store₂ ≡ written (slot_size * row) (slot_of key) b.store =
    e₂ ∙ ap (written (slot_size * row + length key) (zeros (slot_size - length key))) e₁
    ∙ written_filled slot_size key small (slot_size * row) b.store room in
    λ i. book_of (set b.ids row id) (set b.lengths row (length key)) (s i) (set b.marks row mark) (set b.received row received)
    (set b.sent row sent) b.rows

module _ (b : Book) (z : Sized b) (k : ℕ) (r : Row) (h : k < length b.ids) (t : length r.key ≤ slot_size) where
  pub room_for : Within b k
  room_for =
      record {
        in_ids = h;
        in_lengths = omega (arith, z.lengths_agree);
        in_store = omega (arith, z.store_agrees);
        in_marks = omega (arith, z.marks_agree);
        in_received = omega (arith, z.received_agree);
        in_sent = omega (arith, z.sent_agree);
      }

  slot_room : slot_size * k + length (slot_of r.key) ≤ length b.store
  slot_room = let w = room_for in let l = slot_length r.key t in omega arith

  pub row_set_long : length (set_row b k r).ids ≡ length b.ids
  unfolding set_row
  row_set_long = length-set b.ids k r.id

  pub row_set_sized : Sized (set_row b k r)
  unfolding set_row
  row_set_sized =
      let i = length-set b.ids k r.id in
      record {
        room = omega (arith, z.room);
        lengths_agree = length-set b.lengths k _ ∙ z.lengths_agree ∙ sym i;
        store_agrees = length_written (slot_size * k) _ b.store slot_room ∙ z.store_agrees ∙ ap (λ (n : ℕ). slot_size * n) (sym i);
        marks_agree = length-set b.marks k _ ∙ z.marks_agree ∙ sym i;
        received_agree = length-set b.received k _ ∙ z.received_agree ∙ sym i;
        sent_agree = length-set b.sent k _ ∙ z.sent_agree ∙ sym i;
      }

-- ---- one row, where it has its place

module _ (b : Book) (k : ℕ) (r : Row) where
  pub put_set : Sized b → k < length b.ids → length r.key ≤ slot_size → put_row b k r ≡ set_row b k r
  unfolding put_row
  put_set z h t = rw ((sized_says b).1 z, lt-ltb k (length b.ids) h, le-leb (length r.key) slot_size t)

  -- and where it has none nothing is changed
  put_kept : (t u v : Bool) → (t && u && v) ≡ false → sized b ≡ t → ltb k (length b.ids) ≡ u → leb (length r.key) slot_size ≡ v → put_row b k r ≡ b
  unfolding put_row
  put_kept t u v e p q w = rw (p, q, w, e)

  pub put_past : length b.ids ≤ k → put_row b k r ≡ b
  put_past h = on (sized b) refl (leb (length r.key) slot_size) refl
    where
      on : (t : Bool) → sized b ≡ t → (v : Bool) → leb (length r.key) slot_size ≡ v → put_row b k r ≡ b
      on true p v w = put_kept true false v refl p (le-ltb k (length b.ids) h) w
      on false p v w = put_kept false false v refl p (le-ltb k (length b.ids) h) w

  -- the ends of `put_row`, by what `sizes_agree` told
  module _ (t : Bool) (e : t ≡ sized b) where
    pub put_unsized : not t ≡ true → b ≡ put_row b k r
    put_unsized h =
        sym (put_kept false (ltb k (length b.ids)) (leb (length r.key) slot_size) refl (sym e ∙ not-true t h) refl refl)

    pub put_long : slot_size < length r.key → b ≡ put_row b k r
    put_long h = on (sized b) refl (ltb k (length b.ids)) refl
      where
        on : (t : Bool) → sized b ≡ t → (u : Bool) → ltb k (length b.ids) ≡ u → b ≡ put_row b k r
        on true p true q = sym (put_kept true true false refl p q (lt-leb (length r.key) slot_size h))
        on true p false q = sym (put_kept true false false refl p q (lt-leb (length r.key) slot_size h))
        on false p u q = sym (put_kept false u false refl p q (lt-leb (length r.key) slot_size h))

    module _ (h : not t ≡ false) (l : k < length b.ids) (m : length r.key ≤ slot_size) where
      sizes : Sized b
      sizes = (sized_says b).0 (sym e ∙ not-false t h)

      pub put_place : Within b k × (length r.key ≤ slot_size)
      put_place = (room_for b sizes k r l m, m)

      pub put_done : (c : Book) → c ≡ set_row b k r → c ≡ put_row b k r
      put_done c f = f ∙ sym (put_set sizes l m)

-- ---- many rows

-- a book with these rows set, from row k on, and those up to the last of them in use
unfoldable pub set_from : Book → ℕ → List Row → Book
set_from b k rows =
    book_of
    (written k (map (λ (r : Row). r.id) rows) b.ids)
    (written k (map (λ (r : Row). length r.key) rows) b.lengths)
    (written (slot_size * k) (slots_of rows) b.store)
    (written k (map (λ (r : Row). r.mark) rows) b.marks)
    (written k (map (λ (r : Row). r.received) rows) b.received)
    (written k (map (λ (r : Row). r.sent) rows) b.sent)
    (k + length rows)

pub loaded_is : (b : Book) (rows : List Row) → loaded b rows
    ≡ book_of
    (written 0 (map (λ (r : Row). r.id) rows) b.ids)
    (written 0 (map (λ (r : Row). length r.key) rows) b.lengths)
    (written 0 (slots_of rows) b.store)
    (written 0 (map (λ (r : Row). r.mark) rows) b.marks)
    (written 0 (map (λ (r : Row). r.received) rows) b.received)
    (written 0 (map (λ (r : Row). r.sent) rows) b.sent)
    (length rows)
unfolding loaded
loaded_is b rows = refl

pub set_all : (b : Book) (rows : List Row) → set_from b 0 rows ≡ loaded b rows
unfolding set_from loaded
set_all b rows =
    let c = loaded b rows in
    λ i. book_of c.ids c.lengths c.store c.marks c.received c.sent (zero-add (length rows) i)

pub set_none : (b : Book) (k n : ℕ) → k ≡ n → set_from b k [] ≡ book_of b.ids b.lengths b.store b.marks b.received b.sent n
unfolding set_from
set_none b k n e =
    let s : written (slot_size * k) (slots_of []) b.store ≡ b.store =
    ap (λ (x : List ℕ). written (slot_size * k) x b.store) slots_none ∙ written_none _ _ in
    let m : k + 0 ≡ n = omega arith in
    λ i. book_of (written_none k b.ids i) (written_none k b.lengths i) (s i) (written_none k b.marks i) (written_none k b.received i)
    (written_none k b.sent i) (m i)

-- the first of them set, then the others
pub set_cons : (b : Book) → Sized b → (k : ℕ) (r : Row) (more : List Row) → k < length b.ids → length r.key ≤ slot_size
    → set_from b k (r ∷ more) ≡ set_from (set_row b k r) (k + 1) more
unfolding set_from set_row
set_cons b z k r more h t =
    let w = room_for b z k r h t in
    let l = slot_length r.key t in
    let q : slot_size * k + length (slot_of r.key) ≡ slot_size * (k + 1) = omega arith in
    let room = w.in_store in
    let first = written (slot_size * k) (slot_of r.key) b.store in
    let s : written (slot_size * k) (slots_of (r ∷ more)) b.store ≡ written (slot_size * (k + 1)) (slots_of more) first =
    ap (λ (x : List ℕ). written (slot_size * k) x b.store) (slots_cons r more)
    ∙ sym (written_join (slot_size * k) (slot_size * (k + 1)) (slot_of r.key) (slots_of more) b.store q (omega arith)) in
    let n : k + suc (length more) ≡ k + 1 + length more = omega arith in
    λ i. book_of
    (written_cons k r.id (map (λ (r : Row). r.id) more) b.ids h i)
    (written_cons k (length r.key) (map (λ (r : Row). length r.key) more) b.lengths w.in_lengths i)
    (s i)
    (written_cons k r.mark (map (λ (r : Row). r.mark) more) b.marks w.in_marks i)
    (written_cons k r.received (map (λ (r : Row). r.received) more) b.received w.in_received i)
    (written_cons k r.sent (map (λ (r : Row). r.sent) more) b.sent w.in_sent i)
    (n i)
