-- The two forms: what the size of the mark and the kind of a row are, and the mark of the row in front. The only law file of this crate that unfolds
-- `mark_size`, `row_kind`, `mark_in` and `form_in_lem`; for the largest card card_laws/proofs/Largest unfolds `mark_size` too.
use mathlib.Core.Path.{◌≡◌, refl, sym, ◌∙◌}
use mathlib.Core.Logic.{◌≢◌, ⊎_elim}
use mathlib.Core.List.{List, ◌++◌}
use Prim.Native.Nat.{ℕ, ◌+◌, ◌*◌, ◌^◌, ◌≤◌, ◌<◌}
use native.Mathlib.Omega.{arith}
use borrow.Author.Tests.{eq-eqb, ne_eqb, lt-ltb, le-ltb}
use lib.ListN.{length, drop, length-append}
use Rattle.octets.specs.Bytes.{Bytes}
use Rattle.octets.specs.Numbers.{le, little_at}
use Rattle.octets.proofs.LowFirst.{number_of, number_split, number_from, number_append}
use Rattle.key_book.specs.Limits.{slot_size, not_heard, heard}
use Rattle.key_book.specs.Book.{MarkFits}
use Rattle.book_card.specs.declared.CardForm.{CardForm}
use Rattle.book_card.specs.declared.CardForm.TheVariants.{Old, New}
use Rattle.book_card.specs.Layout.{kind_size, mark_size, row_kind, close_kind, kind_at, body_at, mark_at, key_at, record_most}
use Rattle.book_card.specs.Card.{Held}
use Rattle.book_card.specs.Reader.{form_in, mark_in}

-- ---- the mark's size and a row's kind

pub mark_small : (form : CardForm) → mark_size form ≤ 1
unfolding mark_size
mark_small Old = omega arith
mark_small New = omega arith

pub mark_least : (form : CardForm) → mark_size Old ≤ mark_size form
unfolding mark_size
mark_least Old = omega arith
mark_least New = omega arith

pub kind_fits : (form : CardForm) → row_kind form < 256 ^ kind_size
unfolding row_kind
kind_fits Old = omega arith
kind_fits New = omega arith

pub kind_no_close : (form : CardForm) → row_kind form ≢ close_kind
unfolding row_kind
kind_no_close Old e = omega arith
kind_no_close New e = omega arith

-- the bytes of the marks of so many rows: none in the old form, and in neither more than one for each
pub marks_old : (rows : ℕ) → 0 ≡ mark_size Old * rows
unfolding mark_size
marks_old rows = omega arith

pub marks_few : (form : CardForm) (rows : ℕ) → mark_size form * rows ≤ rows
unfolding mark_size
marks_few Old rows = omega arith
marks_few New rows = omega arith

-- the largest record is a row of the new form
pub record_most_lem : record_most ≡ key_at New + slot_size
unfolding mark_size
record_most_lem = refl

-- what `mark_size` answers
pub size_new : 1 ≡ mark_size New
unfolding mark_size
size_new = refl

-- ---- the mark of the row in front

-- at a place of a card
pub mark_new : (card : List ℕ) (at x : ℕ) → x ≡ little_at card (at + mark_at) 1 → x ≡ mark_in New (drop at card)
unfolding mark_in mark_size
mark_new card at x e = e ∙ sym (number_from card at mark_at 1)

-- with bytes behind it
pub mark_append : (form : CardForm) (s t : List ℕ) → mark_at + mark_size form ≤ length s → mark_in form (s ++ t) ≡ mark_in form s
unfolding mark_size mark_in
mark_append Old s t h = refl
mark_append New s t h = number_append s t mark_at 1 h

-- a mark is below 256
pub mark_byte : (mark received : ℕ) → MarkFits mark received → mark < 256
mark_byte mark received m = ⊎_elim (λ (z : mark ≡ not_heard). omega arith) (λ (o : mark ≡ heard). omega arith) m.known

-- what is read of a mark that stands there, and what stands behind it
pub mark_of : (form : CardForm) (s : List ℕ) (mark : ℕ) (t : List ℕ) → drop mark_at s ≡ le (mark_size form) mark ++ t → mark < 256 → Held form mark
    → (mark_in form s ≡ mark) × (drop (mark_at + mark_size form) s ≡ t)
unfolding mark_size mark_in le
mark_of Old s mark t e h o = (sym o, e)
mark_of New s mark t e h o = number_of s mark_at 1 mark t e h

-- and back
pub mark_split : (form : CardForm) (s : List ℕ) → Bytes s → mark_at + mark_size form ≤ length s → (t : List ℕ) → drop (mark_at + mark_size form) s ≡ t
    → drop mark_at s ≡ le (mark_size form) (mark_in form s) ++ t
unfolding mark_size mark_in le
mark_split Old s b h t e = e
mark_split New s b h t e = number_split s b mark_at 1 h (little_at s mark_at 1) t refl e

-- the mark read in a form is one that the form holds
pub mark_held : (form : CardForm) (s : List ℕ) → Held form (mark_in form s)
unfolding mark_in
mark_held Old s = refl
mark_held New s = tt

-- ---- the form of a card's rows

module _ (s : List ℕ) where
  pub form_short : length s < body_at → Old ≡ form_in s
  unfolding form_in
  form_short h = rw (lt-ltb _ body_at h)

  module _ (h : body_at ≤ length s) where
    pub form_new : little_at s kind_at kind_size ≡ row_kind New → New ≡ form_in s
    unfolding form_in
    form_new e = rw (le-ltb _ body_at h, eq-eqb _ (row_kind New) e)

    pub form_old : little_at s kind_at kind_size ≢ row_kind New → Old ≡ form_in s
    unfolding form_in
    form_old n = rw (le-ltb _ body_at h, ne_eqb _ (row_kind New) n)

    -- by the kind of the first record
    pub form_kind : (form : CardForm) → little_at s kind_at kind_size ≡ row_kind form → form ≡ form_in s
    unfolding row_kind
    form_kind Old e = form_old (λ z. omega arith)
    form_kind New e = form_new e

-- with bytes behind the first record's kind
pub form_append : (s t : List ℕ) → body_at ≤ length s → form_in (s ++ t) ≡ form_in s
unfolding form_in
form_append s t h =
    let l = length-append s t in
    rw (le-ltb (length (s ++ t)) body_at (omega arith), le-ltb (length s) body_at h, number_append s t kind_at kind_size h)
