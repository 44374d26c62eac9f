-- Soundness step by step: the ends of `is_sound`, and what `ids_ascend`, `keys_sized`, `marks_heard` and `marks_fit` go through and end with.
use mathlib.Core.Path.{◌≡◌, refl, sym, ◌∙◌}
use mathlib.Core.Bool.{Bool, true, false, not, ◌&&◌}
use mathlib.Core.List.{List, [], ◌∷◌}
use Prim.Native.Nat.{ℕ, zero, suc, ◌+◌, ◌-◌, ◌≤◌}
use native.Mathlib.Omega.{arith}
use borrow.Author.Tests.{eq-eqb, eqb-true, not-false}
use lib.Dec.{ltb, eqb}
use lib.ListN.{length, get_or, take}
use Rattle.key_book.specs.Limits.{heard}
use Rattle.key_book.specs.Book.{all_below}
use Rattle.key_book.specs.Book.{Book, Sized, sized, ascending, key_size, key_sizes, mark_fits, marks_heard, marks_fit}
use Rattle.key_book.proofs.Says.{sized_says}
use Rattle.key_book.proofs.Below.{all_says, all_holds, below_more, below_front, taken_end}
use Rattle.std.specs.List.{list_all, zip}

-- what `sizes_agree` answered
pub sizes_told : (b : Book) (t : Bool) → t ≡ sized b → not t ≡ false → Sized b
sizes_told b t e g = (sized_says b).0 (sym e ∙ not-false t g)

-- a heard row's mark fits any counter
fits_heard : (mark received : ℕ) → mark ≡ heard → true ≡ mark_fits mark received
unfolding mark_fits
fits_heard mark received e = rw (eq-eqb mark heard e)

-- an id is below the next
abbrev pub rises : List ℕ → ℕ → Bool
rises ids k = ltb (get_or ids k 0) (get_or ids (k + 1) 0)

-- a key length is one
abbrev pub keyed : List ℕ → ℕ → Bool
keyed lengths k = key_size (get_or lengths k 0)

-- a row is heard
abbrev pub is_heard : List ℕ → ℕ → Bool
is_heard marks k = eqb (get_or marks k 0) heard

-- a mark fits its counter
abbrev pub fitting : List ℕ → List ℕ → ℕ → Bool
fitting marks received k = mark_fits (get_or marks k 0) (get_or received k 0)

-- the two as a pair
abbrev pub fits_pair : ℕ × ℕ → Bool
fits_pair p = mark_fits p.0 p.1

-- a turn of the loop over the ids, which compares the one at k with the one before it
pub rises_more : (ids : List ℕ) (k : ℕ) → 1 ≤ k
    → all_below (rises ids) (k + 1 - 1) ≡ (all_below (rises ids) (k - 1) && ltb (get_or ids (k - 1) 0) (get_or ids k 0))
rises_more ids k h =
    let e : k - 1 + 1 ≡ k = omega arith in
    let f : k + 1 - 1 ≡ k - 1 + 1 = omega arith in
    rw (f, below_more (rises ids) (k - 1), e) refl

-- the ends of the loops
pub rises_end : (ids : List ℕ) (rows k : ℕ) → k - 1 ≤ rows - 1 → rows ≤ k → all_below (rises ids) (k - 1) ≡ ascending ids rows
unfolding ascending
rises_end ids rows k h l = let e : k - 1 ≡ rows - 1 = omega arith in rw e

module _ (xs : List ℕ) (rows k : ℕ) where
  pub keyed_end : rows ≤ length xs → length (take rows xs) ≤ k → k ≤ length (take rows xs) → all_below (keyed (take rows xs)) k ≡ key_sizes xs rows
  unfolding key_sizes
  keyed_end h l m = taken_end key_size xs rows k h l m

  pub heard_end : rows ≤ length xs → length (take rows xs) ≤ k → k ≤ length (take rows xs) → all_below (is_heard (take rows xs)) k ≡ marks_heard xs rows
  unfolding marks_heard
  heard_end h l m = taken_end (λ m. eqb m heard) xs rows k h l m

-- all rows are heard, whatever their counters
pub heard_fit : (marks received : List ℕ) (rows : ℕ) → true ≡ marks_heard marks rows → true ≡ marks_fit marks received rows
unfolding marks_heard marks_fit
heard_fit marks received rows e =
    sym (all_holds (fitting marks received) rows (λ k h. sym (fits_heard _ _ (eqb-true _ _ (all_says (is_heard marks) rows (sym e) k h)))))

-- row after row, the pairs of a mark and a counter fit
pairs_fit : (n : ℕ) (marks received : List ℕ) → n ≤ length marks → n ≤ length received
    → list_all fits_pair (zip (take n marks) (take n received)) ≡ all_below (fitting marks received) n
unfolding all_below
pairs_fit zero marks received h l = refl
pairs_fit (suc n) [] received h l = absurd (omega arith)
pairs_fit (suc n) (m ∷ marks) [] h l = absurd (omega arith)
pairs_fit (suc n) (m ∷ marks) (r ∷ received) h l =
    rw (pairs_fit n marks received (omega arith) (omega arith)) (sym (below_front (fitting (m ∷ marks) (r ∷ received)) n))

pub fitting_all : (marks received : List ℕ) (rows : ℕ) → rows ≤ length marks → rows ≤ length received
    → list_all fits_pair (zip (take rows marks) (take rows received)) ≡ marks_fit marks received rows
unfolding marks_fit
fitting_all marks received rows h l = pairs_fit rows marks received h l
