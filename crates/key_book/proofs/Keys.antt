-- The key of a row, by whether it fits the store. The only law file that unfolds `key_fits`, `key_start` and `key_in`.
use mathlib.Core.Path.{◌≡◌, sym, ap}
use mathlib.Core.Bool.{true, and-eq-true_iff}
use mathlib.Core.List.{List, []}
use Prim.Native.Nat.{ℕ, ◌+◌, ◌-◌, ◌*◌, ◌≤◌, ◌<◌}
use native.Mathlib.Nat.{zero-add, add-sub_cancel_left}
use borrow.Author.Tests.{le-leb, lt-ltb, leb-true, ltb-true}
use lib.ListN.{length, get_or, take, drop}
use Rattle.key_book.specs.Limits.{slot_size}
use Rattle.key_book.specs.Book.{key_fits, key_start, key_in, moved_on}
use Rattle.key_book.proofs.Below.{both, is_false}

module _ (store lengths : List ℕ) (row : ℕ) where
  -- the row has a key length, and the store as many bytes from the slot on
  pub record Fits : Type 0 where
    pub listed : row < length lengths
    pub stored : slot_size * row + get_or lengths row 0 ≤ length store

  module _ (f : Fits) where
    fits : key_fits store lengths row ≡ true
    unfolding key_fits
    fits = both _ _ (lt-ltb _ _ f.listed) (le-leb _ _ f.stored)

    pub key_part : key_in store lengths row ≡ take (get_or lengths row 0) (drop (slot_size * row) store)
    unfolding key_in
    key_part = rw fits

    pub key_start_lem : key_start store lengths row ≡ slot_size * row
    unfolding key_start
    key_start_lem = rw fits

  -- what `key_of` answers, and where that stands from the store's place on: a key that fits, as the code cuts it out, or nothing
  module _ (p : ℕ × ℕ) where
    pub key_there : Fits
        → (take (slot_size * row + get_or lengths row 0 - slot_size * row) (drop (slot_size * row) store) ≡ key_in store lengths row)
        × ((p.0, slot_size * row + p.1) ≡ moved_on p (key_start store lengths row))
    key_there f = (rw (key_part f, add-sub_cancel_left), rw (key_start_lem f))

    pub key_absent : (Fits → ⊥) → ([] ≡ key_in store lengths row) × (p ≡ moved_on p (key_start store lengths row))
    unfolding key_fits key_in key_start
    key_absent n =
        let e =
        is_false (key_fits store lengths row)
        (λ t. let b = (and-eq-true_iff _ _).0 t in n (record { listed = ltb-true _ _ b.0; stored = leb-true _ _ b.1 })) in
        (rw (← e), rw (← e) (ap (λ (n : ℕ). (p.0, n)) (sym (zero-add p.1))))
