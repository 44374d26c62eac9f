-- Whether the record in front wants more bytes, by its length field: each case at a place of a card as the code tests it, and what it says of the record
-- in front. What a record reads as that wants none does not depend on what follows it. The only law file that unfolds `record_length` and `wants`.
use mathlib.Core.Path.{◌≡◌, refl, sym, ap, ap₂, ◌∙◌}
use mathlib.Core.Logic.{◌≢◌}
use mathlib.Core.Bool.{Bool, true, false, cond, ◌&&◌, ◌||◌, true≢false}
use mathlib.Core.List.{List, [], ◌++◌}
use Prim.Native.Nat.{ℕ, ◌+◌, ◌-◌, ◌≤◌, ◌<◌}
use native.Mathlib.Nat.{add-zero}
use native.Mathlib.Omega.{arith}
use borrow.Author.Tests.{eq-eqb, lt-ltb, le-ltb, le-leb, eqb-true, ltb-true, ltb-false, leb-true, leb-false}
use lib.Dec.{leb, ltb, eqb}
use lib.ListN.{length, take, drop, length-append, length-drop}
use lib.Seq.{take-append-le, drop-append-le}
use Rattle.octets.specs.Numbers.{little_at}
use Rattle.octets.proofs.LowFirst.{number_from, number_append}
use Rattle.key_book.specs.Limits.{slot_size}
use Rattle.key_book.specs.Book.{mark_fits}
use Rattle.book_card.specs.declared.CardForm.{CardForm}
use Rattle.book_card.specs.declared.CardForm.TheVariants.{Old, New}
use Rattle.book_card.specs.Layout.{length_size, kind_size, id_size, counter_size, count_size, row_kind, close_kind}
use Rattle.book_card.specs.Layout.{kind_at, body_at, received_at, sent_at, key_at, close_size, record_most}
use Rattle.book_card.specs.Reader.{mark_in, row_by, front_by, front_of, row_length, record_length, wants, row_front}
use Rattle.book_card.specs.declared.Front.{Front}
use Rattle.book_card.specs.declared.Front.TheVariants.{Broken, Row as RowFront, Close}
use Rattle.book_card.proofs.Forms.{mark_small, mark_least, record_most_lem, mark_append}
use Rattle.book_card.proofs.Fronts.{row_from, row_to, front_short, front_cut, by_kind}

-- ---- the length field

-- what the length fields of records are
pub data LengthIs (size : ℕ) : Type 0 where
  of_close : size ≡ close_size - length_size → LengthIs size
  of_row : (form : CardForm) → row_from form ≤ size → size ≤ row_to form → LengthIs size

row_length_lem : (form : CardForm) (size : ℕ) → row_from form ≤ size → size ≤ row_to form → row_length form size ≡ true
row_length_lem form size l m = rw (le-leb (row_from form) size l, le-leb size (row_to form) m)

pub one_length : (size : ℕ) → LengthIs size → record_length size ≡ true
unfolding record_length
one_length size (of_close e) = rw (eq-eqb size (close_size - length_size) e)
one_length size (of_row Old l m) = rw (row_length_lem Old size l m) (either (eqb size (close_size - length_size)))
  where
    either : (t : Bool) → t || true ≡ true
    either true = refl
    either false = refl
one_length size (of_row New l m) = rw (row_length_lem New size l m) (either (eqb size (close_size - length_size)) (row_length Old size))
  where
    either : (t u : Bool) → t || (u || true) ≡ true
    either true u = refl
    either false true = refl
    either false false = refl

row_length_is : (form : CardForm) (size : ℕ) → row_length form size ≡ true → LengthIs size
row_length_is form size h = on (leb (row_from form) size) refl (leb size (row_to form)) refl h
  where
    on : (u : Bool) → leb (row_from form) size ≡ u → (v : Bool) → leb size (row_to form) ≡ v → u && v ≡ true → LengthIs size
    on true q true r h = of_row form (leb-true _ _ q) (leb-true _ _ r)
    on true q false r h = absurd (true≢false (sym h))
    on false q v r h = absurd (true≢false (sym h))

pub length_is : (size : ℕ) → record_length size ≡ true → LengthIs size
unfolding record_length
length_is size h = on (eqb size (close_size - length_size)) refl (row_length Old size) refl (row_length New size) refl h
  where
    on : (t : Bool) → eqb size (close_size - length_size) ≡ t → (u : Bool) → row_length Old size ≡ u → (v : Bool) → row_length New size ≡ v
        → t || (u || v) ≡ true → LengthIs size
    on true p u q v r h = of_close (eqb-true _ _ p)
    on false p true q v r h = row_length_is Old size q
    on false p false q true r h = row_length_is New size r
    on false p false q false r h = absurd (true≢false (sym h))

pub length_least : (size : ℕ) → LengthIs size → close_size - length_size ≤ size
length_least size (of_close e) = omega arith
length_least size (of_row form l m) = omega arith

pub length_most : (size : ℕ) → LengthIs size → length_size + size ≤ record_most
length_most size (of_close e) = omega arith
length_most size (of_row form l m) = let w = mark_small form in omega arith

-- a length that no record has
length_not : (size : ℕ) → (LengthIs size → ⊥) → record_length size ≡ false
length_not size h = on (record_length size) refl
  where
    on : (t : Bool) → record_length size ≡ t → record_length size ≡ false
    on true e = absurd (h (length_is size e))
    on false e = e

-- the tests of `is_length`
module _ (size : ℕ) where
  pub length_close : size ≡ close_size - length_size → true ≡ record_length size
  length_close e = sym (one_length size (of_close e))

  module _ (h : size ≢ close_size - length_size) (k : ℕ) (ek : k ≡ key_at Old) where
    pub length_short : size < k - length_size + 1 → false ≡ record_length size
    length_short l = sym (length_not size (λ (x : LengthIs size). none x))
      where
        none : LengthIs size → ⊥
        none (of_close e) = h e
        none (of_row form from to) = let w = mark_least form in omega arith

    pub length_row : k - length_size + 1 ≤ size → (t : Bool) → t ≡ leb size (record_most - length_size) → t ≡ record_length size
    length_row l t e = e ∙ on (leb size (record_most - length_size)) refl
      where
        on : (u : Bool) → leb size (record_most - length_size) ≡ u → leb size (record_most - length_size) ≡ record_length size
        on true p =
            let m = leb-true size (record_most - length_size) p in
            let r = record_most_lem in
            p ∙ sym (one_length size (by (leb (row_from New) size) refl))
          where
            by : (v : Bool) → leb (row_from New) size ≡ v → LengthIs size
            by true q = let f = leb-true (row_from New) size q in let m = leb-true size (record_most - length_size) p in let r = record_most_lem in
                of_row New f (omega arith)
            by false q = let f = leb-false (row_from New) size q in let w = mark_small New in of_row Old (omega arith) (omega arith)
        on false p =
            p ∙ sym (length_not size (λ (x : LengthIs size). let m = leb-false size (record_most - length_size) p in let q = length_most size x in omega arith))

-- ---- how a record stands in front

-- the length field of a list
abbrev pub size_of : List ℕ → ℕ
size_of s = little_at s 0 length_size

-- it is cut in its length field or behind it, no record has its length, or all its bytes are there
pub data Stands (s : List ℕ) : Type 0 where
  cut : length s < length_size → Stands s
  short : length_size ≤ length s → LengthIs (size_of s) → length s < length_size + size_of s → Stands s
  odd : length_size ≤ length s → record_length (size_of s) ≡ false → Stands s
  whole : LengthIs (size_of s) → length_size + size_of s ≤ length s → Stands s

pub stands : (s : List ℕ) → Stands s
stands s = on (ltb (length s) length_size) refl (record_length (size_of s)) refl (ltb (length s) (length_size + size_of s)) refl
  where
    on : (t : Bool) → ltb (length s) length_size ≡ t → (u : Bool) → record_length (size_of s) ≡ u → (v : Bool) → ltb (length s) (length_size + size_of s)
        ≡ v → Stands s
    on true p u q v r = cut (ltb-true _ _ p)
    on false p true q true r = short (ltb-false _ _ p) (length_is _ q) (ltb-true _ _ r)
    on false p true q false r = whole (length_is _ q) (ltb-false _ _ r)
    on false p false q v r = odd (ltb-false _ _ p) q

module _ (s : List ℕ) where
  pub wants_cut : length s < length_size → wants s ≡ true
  unfolding wants
  wants_cut h = rw (lt-ltb (length s) length_size h)

  module _ (h : length_size ≤ length s) where
    pub wants_by : length s - length_size < size_of s → wants s ≡ record_length (size_of s)
    unfolding wants
    wants_by m = rw (le-ltb (length s) length_size h, lt-ltb (length s - length_size) (size_of s) m)

    pub wants_none : size_of s ≤ length s - length_size → wants s ≡ false
    unfolding wants
    wants_none m = rw (le-ltb (length s) length_size h, le-ltb (length s - length_size) (size_of s) m)

    pub wants_short : LengthIs (size_of s) → length s < length_size + size_of s → wants s ≡ true
    wants_short l m = wants_by (omega arith) ∙ one_length (size_of s) l

    pub wants_odd : record_length (size_of s) ≡ false → wants s ≡ false
    wants_odd l = on (ltb (length s - length_size) (size_of s)) refl
      where
        on : (t : Bool) → ltb (length s - length_size) (size_of s) ≡ t → wants s ≡ false
        on true p = wants_by (ltb-true _ _ p) ∙ l
        on false p = wants_none (ltb-false _ _ p)

  pub wants_whole : LengthIs (size_of s) → length_size + size_of s ≤ length s → wants s ≡ false
  wants_whole l m = wants_none (omega arith) (omega arith)

-- the tests of `wants_more`, at a place of a card
module _ (card : List ℕ) (at : ℕ) where
  abbrev here : List ℕ
  here = drop at card

  left : length here ≡ length card - at
  left = length-drop at card

  pub at_past : length card < at → true ≡ wants here
  at_past h = let l = left in sym (wants_cut here (omega arith))

  pub at_cut : length card - at < length_size → true ≡ wants here
  at_cut h = let l = left in sym (wants_cut here (omega arith))

  module _ (h : length_size ≤ length card - at) (size : ℕ) (e : size ≡ little_at card at length_size) where
    first : size_of here ≡ size
    first = number_from card at 0 length_size ∙ ap (λ (n : ℕ). little_at card n length_size) (add-zero at) ∙ sym e

    pub at_whole : size ≤ length card - at - length_size → false ≡ wants here
    at_whole m = let l = left in let f = first in sym (wants_none here (omega arith) (omega arith))

    pub at_short : length card - at - length_size < size → (t : Bool) → t ≡ record_length size → t ≡ wants here
    at_short m t r =
        let l = left in
        let f = first in
        r ∙ ap record_length (sym f) ∙ sym (wants_by here (omega arith) (omega arith))

-- ---- what a record that wants more reads as, and one whose length no record has

module _ (form : CardForm) (s : List ℕ) where
  front_of_cut : length s < length_size → front_of form s ≡ Broken
  front_of_cut h = sym (front_short form s 0 (omega arith))

  front_of_short : length s < length_size + size_of s → front_of form s ≡ Broken
  front_of_short h = on (ltb (length s) body_at) refl
    where
      on : (t : Bool) → ltb (length s) body_at ≡ t → front_of form s ≡ Broken
      on true p = let l = ltb-true (length s) body_at p in sym (front_short form s 0 (omega arith))
      on false p = let l = ltb-false (length s) body_at p in sym (front_cut form s 0 (size_of s) refl (omega arith) (omega arith))

  -- a record that is all there is judged by its kind
  front_of_whole : body_at ≤ length s → size_of s ≤ length s - length_size → front_of form s ≡ front_by form s (size_of s) (little_at s kind_at kind_size)
  front_of_whole h l = sym (by_kind form s 0 (size_of s) refl (omega arith) (omega arith) (little_at s kind_at kind_size) refl)

  odd_row : (size : ℕ) → record_length size ≡ false → row_by form s size ≡ Broken
  odd_row size h = on (ltb size (row_from form)) refl (ltb (row_to form) size) refl
    where
      on : (t : Bool) → ltb size (row_from form) ≡ t → (u : Bool) → ltb (row_to form) size ≡ u → row_by form s size ≡ Broken
      on true p u q = rw p
      on false p true q = rw (p, q)
      on false p false q = absurd (true≢false (sym (one_length size (of_row form (ltb-false _ _ p) (ltb-false _ _ q))) ∙ h))

  odd_by : (size kind : ℕ) → record_length size ≡ false → front_by form s size kind ≡ Broken
  odd_by size kind h = on (eqb kind close_kind) (eqb size (close_size - length_size)) refl (eqb kind (row_kind form))
    where
      on : (t u : Bool) → eqb size (close_size - length_size) ≡ u → (v : Bool)
          → cond t (cond u (Close (little_at s body_at count_size)) Broken) (cond v (row_by form s size) Broken) ≡ Broken
      on true true p v = absurd (true≢false (sym (one_length size (of_close (eqb-true _ _ p))) ∙ h))
      on true false p v = refl
      on false u p true = odd_row size h
      on false u p false = refl

  pub front_odd : record_length (size_of s) ≡ false → front_of form s ≡ Broken
  front_odd h = on (ltb (length s) body_at) refl (ltb (length s - length_size) (size_of s)) refl
    where
      on : (t : Bool) → ltb (length s) body_at ≡ t → (u : Bool) → ltb (length s - length_size) (size_of s) ≡ u → front_of form s ≡ Broken
      on true p u q = let l = ltb-true (length s) body_at p in sym (front_short form s 0 (omega arith))
      on false p true q =
          let l = ltb-false (length s) body_at p in
          let m = ltb-true (length s - length_size) (size_of s) q in
          sym (front_cut form s 0 (size_of s) refl (omega arith) (omega arith))
      on false p false q = front_of_whole (ltb-false _ _ p) (ltb-false _ _ q) ∙ odd_by (size_of s) (little_at s kind_at kind_size) h

  -- a record that wants more reads as broken
  pub front_wants : wants s ≡ true → front_of form s ≡ Broken
  front_wants w = on (stands s)
    where
      on : Stands s → front_of form s ≡ Broken
      on (cut h) = front_of_cut h
      on (short h l m) = front_of_short m
      on (odd h l) = absurd (true≢false (sym w ∙ wants_odd s h l))
      on (whole l m) = absurd (true≢false (sym w ∙ wants_whole s l m))

-- and is shorter than the largest record
pub wants_few : (s : List ℕ) → wants s ≡ true → length s ≤ record_most - 1
wants_few s w = on (stands s)
  where
    on : Stands s → length s ≤ record_most - 1
    on (cut h) = omega arith
    on (short h l m) = let q = length_most (size_of s) l in omega arith
    on (odd h l) = absurd (true≢false (sym w ∙ wants_odd s h l))
    on (whole l m) = absurd (true≢false (sym w ∙ wants_whole s l m))

-- no byte: a record wants more
pub wants_nothing : wants [] ≡ true
wants_nothing = wants_cut [] (omega arith)

-- ---- with bytes behind it

-- a row, all of which is there
row_append : (form : CardForm) (s t : List ℕ) (size : ℕ) → row_from form ≤ size → length_size + size ≤ length s → row_by form (s ++ t) size ≡ row_by form s size
row_append form s t size l h =
    let m = mark_append form s t (omega arith) in
    let i = number_append s t body_at id_size (omega arith) in
    let r = number_append s t (received_at form) counter_size (omega arith) in
    let n = number_append s t (sent_at form) counter_size (omega arith) in
    rw (m, i, r, n)

by_append : (form : CardForm) (s t : List ℕ) (size kind : ℕ) → LengthIs size → length_size + size ≤ length s → front_by form (s ++ t) size kind
    ≡ front_by form s size kind
by_append form s t size kind x h =
    let least = length_least size x in
    let c = number_append s t body_at count_size (omega arith) in
    rw c (on (ltb size (row_from form)) refl)
  where
    on : (u : Bool) → ltb size (row_from form) ≡ u
        → cond (eqb kind close_kind) (cond (eqb size (close_size - length_size)) (Close (little_at s body_at count_size)) Broken)
        (cond (eqb kind (row_kind form)) (row_by form (s ++ t) size) Broken)
        ≡ front_by form s size kind
    on true p = rw p
    on false p = rw (row_append form s t size (ltb-false _ _ p) h)

-- the bytes t behind s: a record that wants none wants none, and reads as before
pub record Same (form : CardForm) (s t : List ℕ) : Type 0 where
  pub wanted : wants (s ++ t) ≡ false
  pub read : front_of form (s ++ t) ≡ front_of form s

pub front_append : (form : CardForm) (s t : List ℕ) → wants s ≡ false → Same form s t
front_append form s t w = on (stands s)
  where
    on : Stands s → Same form s t
    on (cut h) = absurd (true≢false (sym (wants_cut s h) ∙ w))
    on (short h l m) = absurd (true≢false (sym (wants_short s h l m) ∙ w))
    on (odd h l) =
        let z : size_of (s ++ t) ≡ size_of s = number_append s t 0 length_size h in
        let o : record_length (size_of (s ++ t)) ≡ false = ap record_length z ∙ l in
        record {
          wanted = wants_odd (s ++ t) (rw (length-append s t) (omega arith)) o;
          read = front_odd form (s ++ t) o ∙ sym (front_odd form s l);
        }
    on (whole l m) =
        let least = length_least (size_of s) l in
        let z : size_of (s ++ t) ≡ size_of s = number_append s t 0 length_size (omega arith) in
        let k : little_at (s ++ t) kind_at kind_size ≡ little_at s kind_at kind_size = number_append s t kind_at kind_size (omega arith) in
        let a = length-append s t in
        record {
          wanted = wants_whole (s ++ t) (rw z l) (omega arith);
          read = front_of_whole form (s ++ t) (omega arith) (omega arith) ∙ ap₂ (λ (x y : ℕ). front_by form (s ++ t) x y) z k
              ∙ by_append form s t (size_of s) (little_at s kind_at kind_size) l m ∙ sym (front_of_whole form s (omega arith) (omega arith));
        }

-- ---- what is read as a record is there whole, and a key fits its slot

unfoldable pub FrontFits : CardForm → List ℕ → Front → Type 0
FrontFits form s Broken = Unit {0}
FrontFits form s (RowFront id mark received sent size) = (key_at form + size ≤ length s) × (size ≤ slot_size)
FrontFits form s (Close n) = close_size ≤ length s

module _ (form : CardForm) (s : List ℕ) (h₀ : body_at ≤ length s) (h₁ : size_of s ≤ length s - length_size) where
  row_fits : FrontFits form s (row_by form s (size_of s))
  unfolding FrontFits
  row_fits =
      on (ltb (size_of s) (row_from form)) refl (ltb (row_to form) (size_of s)) refl
      (mark_fits (mark_in form s) (little_at s (received_at form) counter_size))
    where
      on : (t : Bool) → ltb (size_of s) (row_from form) ≡ t → (u : Bool) → ltb (row_to form) (size_of s) ≡ u → (v : Bool)
          → FrontFits form s (cond t Broken (cond u Broken
          (cond v
          (RowFront (little_at s body_at id_size) (mark_in form s) (little_at s (received_at form) counter_size) (little_at s (sent_at form) counter_size)
          (size_of s - (key_at form - length_size)))
          Broken)))
      on true p u q v = tt
      on false p true q v = tt
      on false p false q false = tt
      on false p false q true =
          let l = ltb-false (size_of s) (row_from form) p in
          let m = ltb-false (row_to form) (size_of s) q in
          (omega arith, omega arith)

  fits_by : (kind : ℕ) → FrontFits form s (front_by form s (size_of s) kind)
  unfolding FrontFits
  fits_by kind = on (eqb kind close_kind) (eqb (size_of s) (close_size - length_size)) refl (eqb kind (row_kind form))
    where
      on : (t u : Bool) → eqb (size_of s) (close_size - length_size) ≡ u → (v : Bool)
          → FrontFits form s (cond t (cond u (Close (little_at s body_at count_size)) Broken) (cond v (row_by form s (size_of s)) Broken))
      on true true p v = let e = eqb-true (size_of s) (close_size - length_size) p in omega arith
      on true false p v = tt
      on false u p true = row_fits
      on false u p false = tt

pub front_fits : (form : CardForm) (s : List ℕ) → FrontFits form s (front_of form s)
unfolding FrontFits
front_fits form s = on (ltb (length s) body_at) refl (ltb (length s - length_size) (size_of s)) refl
  where
    broken : front_of form s ≡ Broken → FrontFits form s (front_of form s)
    broken e = rw e tt

    on : (t : Bool) → ltb (length s) body_at ≡ t → (u : Bool) → ltb (length s - length_size) (size_of s) ≡ u → FrontFits form s (front_of form s)
    on true p u q = let l = ltb-true (length s) body_at p in broken (sym (front_short form s 0 (omega arith)))
    on false p true q =
        let l = ltb-false (length s) body_at p in
        let m = ltb-true (length s - length_size) (size_of s) q in
        broken (sym (front_cut form s 0 (size_of s) refl (omega arith) (omega arith)))
    on false p false q =
        let l = ltb-false (length s) body_at p in
        let m = ltb-false (length s - length_size) (size_of s) q in
        rw (front_of_whole form s l m) (fits_by form s l m (little_at s kind_at kind_size))

-- a row's key, with bytes behind it
pub key_append : (form : CardForm) (s t : List ℕ) (id mark received sent size : ℕ) → key_at form + size ≤ length s
    → row_front form (s ++ t) id mark received sent size ≡ row_front form s id mark received sent size
key_append form s t id mark received sent size h =
    let k : take size (drop (key_at form) (s ++ t)) ≡ take size (drop (key_at form) s) =
    ap (take size) (drop-append-le (key_at form) s t (omega arith))
    ∙ take-append-le size (drop (key_at form) s) t (omega (arith, length-drop (key_at form) s)) in
    λ i. record { id = id; mark = mark; received = received; sent = sent; key = k i }
