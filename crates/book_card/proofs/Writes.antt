-- What is written: a book's rows, a card from a row on, and its size in either form. No other law unfolds `rows_from`, `rows_of` and `size_to`.
use mathlib.Core.Path.{◌≡◌, refl, sym, ap, ap₂, ◌∙◌}
use mathlib.Core.List.{List, [], ◌∷◌, ◌++◌}
use Prim.Native.Nat.{ℕ, zero, suc, ◌+◌, ◌*◌, ◌≤◌, ◌<◌}
use native.Mathlib.Nat.{add-zero, zero-add, mul-suc}
use native.Mathlib.Numerals.{add-one}
use native.Mathlib.Omega.{arith}
use lib.ListN.{length, get_or, drop, length-append, drop_of_length-le}
use lib.Seq.{drop-cons, ext_get_or}
use Rattle.key_book.specs.Book.{Book, Sound}
use Rattle.key_book.proofs.Says.{key_says}
use Rattle.book_card.specs.declared.CardForm.{CardForm}
use Rattle.book_card.specs.declared.CardForm.TheVariants.{New}
use Rattle.book_card.specs.Layout.{mark_size, key_at, close_size}
use Rattle.book_card.specs.Card.{Row, empty_row, row_record, close, row_records, card_of}
use Rattle.book_card.specs.Writing.{row_at, rows_from, rows_of, size_to}
use Rattle.book_card.proofs.Forms.{size_new}
use Rattle.book_card.proofs.Shape.{row_size, close_size_lem, records_cons, records_none, card_is}

-- sizes are being added up; a key length is a byte, so no record has more than 25 + 255 bytes
pub record Summing (lengths : List ℕ) (rows size row : ℕ) : Type 0 where
  pub within : row ≤ rows
  pub sum : size ≡ size_to lengths row
  pub small : size ≤ close_size + 280 * row

module _ (lengths : List ℕ) (rows : ℕ) where
  pub summing_start : Summing lengths rows close_size 0
  unfolding size_to
  summing_start = record { within = omega arith; sum = refl; small = omega arith }

  module _ (size row : ℕ) (s : Summing lengths rows size row) where
    pub summing_turn : row < rows → get_or lengths row 0 < 256 → (k : ℕ) → k ≡ key_at New
        → Summing lengths rows (size + (k + get_or lengths row 0)) (row + 1)
    unfolding size_to
    summing_turn h byte k ek =
        let e : row + 1 ≡ suc row = omega arith in
        let m = s.small in
        let one = size_new in
        record {
          within = omega arith;
          sum = rw (e, ek) (ap (λ (n : ℕ). n + (key_at New + get_or lengths row 0)) s.sum);
          small = omega arith;
        }

    pub summing_end : rows ≤ row → size ≡ size_to lengths rows
    summing_end h =
        let w = s.within in
        let e : row ≡ rows = omega arith in
        rw (← e) s.sum

-- ---- the rows of a book

pub rows_length : (b : Book) (k n : ℕ) → length (rows_from b k n) ≡ n
unfolding rows_from
rows_length b k zero = refl
rows_length b k (suc n) = ap suc (rows_length b (suc k) n)

rows_at : (b : Book) (k n i : ℕ) → i < n → get_or (rows_from b k n) i empty_row ≡ row_at b (k + i)
unfolding rows_from
rows_at b k zero i h = absurd (omega arith)
rows_at b k (suc n) zero h = ap (row_at b) (sym (add-zero k))
rows_at b k (suc n) (suc i) h = let e : suc k + i ≡ k + suc i = omega arith in rows_at b (suc k) n i (omega arith) ∙ ap (row_at b) e

module _ (b : Book) where
  pub row_is : (k : ℕ) → k < b.rows → get_or (rows_of b) k empty_row ≡ row_at b k
  unfolding rows_of
  row_is k h = rows_at b 0 b.rows k h ∙ ap (row_at b) (zero-add k)

  pub rows_count : length (rows_of b) ≡ b.rows
  unfolding rows_of
  rows_count = rows_length b 0 b.rows

  -- they are these rows, if each of them is
  pub rows_are : (rows : List Row) → length rows ≡ b.rows → ((k : ℕ) → k < b.rows → row_at b k ≡ get_or rows k empty_row) → rows_of b ≡ rows
  rows_are rows l g = let c = rows_count in ext_get_or empty_row (rows_of b) rows (omega arith) (λ k h. row_is k (omega arith) ∙ g k (omega arith))

-- ---- a card from a row on

unfoldable pub rest_from : CardForm → List Row → ℕ → List ℕ
rest_from form rows row = row_records form (drop row rows) ++ close (length rows)

module _ (form : CardForm) (rows : List Row) where
  pub rest_all : card_of form rows ≡ rest_from form rows 0
  unfolding rest_from
  rest_all = card_is form rows

  module _ (row : ℕ) where
    pub rest_next : row < length rows → rest_from form rows row ≡ row_record form (get_or rows row empty_row) ++ rest_from form rows (row + 1)
    unfolding rest_from
    rest_next h =
        ap (λ (x : List Row). row_records form x ++ close (length rows)) (drop-cons rows row empty_row h)
        ∙ records_cons form (get_or rows row empty_row) (drop (suc row) rows) (close (length rows))
        ∙ ap (λ (n : ℕ). row_record form (get_or rows row empty_row) ++ (row_records form (drop n rows) ++ close (length rows))) (sym (add-one row))

    pub rest_last : length rows ≤ row → rest_from form rows row ≡ close (length rows)
    unfolding rest_from
    rest_last h =
        ap (λ (x : List Row). row_records form x ++ close (length rows)) (drop_of_length-le rows h) ∙ records_none form (close (length rows))

    pub rest_length : row < length rows
        → length (rest_from form rows row) ≡ key_at form + length (get_or rows row empty_row).key + length (rest_from form rows (row + 1))
    rest_length h =
        ap length (rest_next h)
        ∙ length-append (row_record form (get_or rows row empty_row)) (rest_from form rows (row + 1))
        ∙ ap (λ (n : ℕ). n + length (rest_from form rows (row + 1))) (row_size form (get_or rows row empty_row))

-- ---- its size

module _ (b : Book) (s : Sound b) where
  abbrev rest : ℕ → List ℕ
  rest row = rest_from New (rows_of b) row

  next_size : (row : ℕ) → row < b.rows → length (rest row) ≡ key_at New + get_or b.lengths row 0 + length (rest (row + 1))
  next_size row h =
      let n = rows_count b in
      rest_length New (rows_of b) row (omega arith)
      ∙ ap (λ (r : Row). key_at New + length r.key + length (rest (row + 1))) (row_is b row h)
      ∙ ap (λ (x : ℕ). key_at New + x + length (rest (row + 1))) (key_says b s row h).size

  rest_size : (left row : ℕ) → row + left ≡ b.rows → size_to b.lengths row + length (rest row) ≡ size_to b.lengths b.rows + close_size
  unfolding size_to
  rest_size zero row e =
      let q : row ≡ b.rows = omega arith in
      let n = rows_count b in
      ap₂ (λ (k n : ℕ). size_to b.lengths k + n) q (ap length (rest_last New (rows_of b) row (omega arith)) ∙ close_size_lem (length (rows_of b)))
  rest_size (suc left) row e =
      let q : suc row ≡ row + 1 = omega arith in
      let ih : size_to b.lengths (suc row) + length (rest (row + 1)) ≡ size_to b.lengths b.rows + close_size =
      rw (← q) (rest_size left (suc row) (omega arith)) in
      let l = next_size row (omega arith) in
      omega arith

  -- the size of a sound book's card, by its key lengths
  pub card_size : length (card_of New (rows_of b)) ≡ size_to b.lengths b.rows
  unfolding size_to
  card_size =
      let l = ap length (rest_all New (rows_of b)) in
      let m = rest_size b.rows 0 (omega arith) in
      omega arith

-- ---- and in the other form: the marks are all that differs

records_forms : (f g : CardForm) (rows : List Row) (t : List ℕ)
    → length (row_records f rows ++ t) + mark_size g * length rows ≡ length (row_records g rows ++ t) + mark_size f * length rows
records_forms f g [] t = omega (arith, ap length (records_none f t), ap length (records_none g t))
records_forms f g (r ∷ rows) t =
    let cons : (form : CardForm) → length (row_records form (r ∷ rows) ++ t) ≡ key_at form + length r.key + length (row_records form rows ++ t) =
    λ form. ap length (records_cons form r rows t) ∙ length-append (row_record form r) (row_records form rows ++ t)
    ∙ ap (λ (n : ℕ). n + length (row_records form rows ++ t)) (row_size form r) in
    omega (arith, cons f, cons g, mul-suc (mark_size f) (length rows), mul-suc (mark_size g) (length rows), records_forms f g rows t)

pub card_forms : (f g : CardForm) (rows : List Row)
    → length (card_of f rows) + mark_size g * length rows ≡ length (card_of g rows) + mark_size f * length rows
card_forms f g rows =
    ap (λ (s : List ℕ). length s + mark_size g * length rows) (card_is f rows)
    ∙ records_forms f g rows (close (length rows))
    ∙ ap (λ (s : List ℕ). length s + mark_size f * length rows) (sym (card_is g rows))
