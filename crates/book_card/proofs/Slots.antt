-- The slots of rows in the key store: each has `slot_size` bytes, and row k's stands at `slot_size * k`.
use mathlib.Core.Path.{◌≡◌, refl, sym, ap, ◌∙◌}
use mathlib.Core.List.{List, [], ◌∷◌, ◌++◌}
use Prim.Native.Nat.{ℕ, zero, suc, ◌+◌, ◌*◌, ◌≤◌, ◌<◌}
use native.Mathlib.Nat.{mul-suc}
use native.Mathlib.Omega.{arith}
use lib.ListN.{length, get_or, drop, length-append}
use lib.Seq.{drop-drop, drop_at}
use Rattle.octets.specs.Bytes.{filled}
use Rattle.octets.proofs.Filled.{length_filled}
use Rattle.key_book.specs.Limits.{slot_size}
use Rattle.book_card.specs.Card.{Row, empty_row}
use Rattle.book_card.specs.Reading.{slots_of}

abbrev pub slot_of : List ℕ → List ℕ
slot_of key = filled slot_size key

pub slot_length : (key : List ℕ) → length key ≤ slot_size → length (slot_of key) ≡ slot_size
slot_length key h = length_filled slot_size key h

pub slots_none : slots_of [] ≡ []
unfolding slots_of
slots_none = refl

pub slots_cons : (r : Row) (rows : List Row) → slots_of (r ∷ rows) ≡ slot_of r.key ++ slots_of rows
unfolding slots_of
slots_cons r rows = refl

-- rows whose keys fit their slots
abbrev pub Fit : List Row → Type 0
Fit rows = (k : ℕ) → k < length rows → length (get_or rows k empty_row).key ≤ slot_size

pub slots_length : (rows : List Row) → Fit rows → length (slots_of rows) ≡ slot_size * length rows
slots_length [] h = ap length slots_none
slots_length (r ∷ rows) h =
    let e = slot_length r.key (h 0 (omega arith)) in
    let ih = slots_length rows (λ k l. h (suc k) (omega arith)) in
    let a = ap length (slots_cons r rows) ∙ length-append (slot_of r.key) (slots_of rows) in
    let m = mul-suc slot_size (length rows) in
    omega arith

module _ (r : Row) (rows : List Row) (h : length r.key ≤ slot_size) where
  -- the slots from the second on
  slots_next : (n : ℕ) → drop (slot_size * suc n) (slots_of (r ∷ rows)) ≡ drop (slot_size * n) (slots_of rows)
  slots_next n =
      let q : slot_size * suc n ≡ slot_size + slot_size * n = omega arith in
      let slot = slot_of r.key in
      ap (λ (m : ℕ). drop m (slots_of (r ∷ rows))) q
      ∙ sym (drop-drop (slot_size * n) slot_size (slots_of (r ∷ rows)))
      ∙ ap (λ (l : List ℕ). drop (slot_size * n) (drop slot_size l)) (slots_cons r rows)
      ∙ ap (drop (slot_size * n)) (drop_at slot (slots_of rows) slot_size (slot_length r.key h))

pub slots_at : (rows : List Row) (k : ℕ) → Fit rows → k < length rows
    → drop (slot_size * k) (slots_of rows) ≡ slot_of (get_or rows k empty_row).key ++ drop (slot_size * suc k) (slots_of rows)
slots_at [] k h l = absurd (omega arith)
slots_at (r ∷ rows) zero h l =
    slots_cons r rows ∙ ap (λ (x : List ℕ). slot_of r.key ++ x) (sym (slots_next r rows (h 0 (omega arith)) 0))
slots_at (r ∷ rows) (suc k) h l =
    let t = h 0 (omega arith) in
    slots_next r rows t k
    ∙ slots_at rows k (λ j m. h (suc j) (omega arith)) (omega arith)
    ∙ ap (λ (x : List ℕ). slot_of (get_or rows k empty_row).key ++ x) (sym (slots_next r rows t (suc k)))
