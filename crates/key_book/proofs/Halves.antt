-- The search by halving: that what computes it is the rules' steps (`Halves`), what a row found holds, and that on ascending ids it is the search over all
-- rows. The only law file that unfolds `halved_in`, `halved` and `known_of`. How many looks there are is in proofs/Looks.antt.
use mathlib.Core.Path.{◌≡◌, refl, sym, ap, ◌∙◌}
use mathlib.Core.Logic.{◌↔◌, ◌≢◌, ⊎_elim}
use mathlib.Core.Bool.{Bool, true, false, and-eq-true_iff, true≢false}
use mathlib.Core.List.{List, []}
use Prim.Native.Nat.{ℕ, zero, suc, ◌+◌, ◌-◌, ◌≤◌, ◌<◌}
use native.Mathlib.Decide.{dec_le}
use native.Mathlib.Nat.{eq-or-lt_of_le, le_refl}
use native.Mathlib.Omega.{arith}
use borrow.Author.Tests.{eq-eqb, ne_eqb, eqb-true, eqb-false, lt-ltb, le-ltb, ltb-true, ltb-false, le-leb, leb-true}
use lib.Dec.{ltb, eqb}
use lib.ListN.{length, get_or}
use lib.Seq.{get_or-take}
use Rattle.key_book.specs.Book.{Book, book_of, row_in}
use Rattle.key_book.specs.Halving.{middle, Halves, ended, met, before, after, Search, searched, one_more, halved_in, halved}
use Rattle.key_book.specs.Halving.{Taken, taken, sought_as, known_of}
use Rattle.key_book.specs.Known.{KnownSays, RowHolds, Ascends, AscendingFinds, KnownDepends}
use Rattle.key_book.specs.declared.Sought.{Sought}
use Rattle.key_book.specs.declared.Sought.TheVariants.{Stands, Missing, Unsized}
use Rattle.key_book.proofs.Below.{both, is_false}
use Rattle.key_book.proofs.Says.{row_says}
use Rattle.std.specs.Prelude.{None, Option, Some}

-- the middle lies among the rows that are left
pub middle_within : {low high : ℕ} → low < high → (low ≤ middle low high) × (middle low high < high)
middle_within {low} {high} h = (omega arith, omega arith)

-- ---- what is computed is what the steps come to

module _ (ids : List ℕ) (id : ℕ) where
  -- a step of the computation: no row is left, or by what stands at the middle
  in_none : (most : ℕ) {low high : ℕ} → high ≤ low → halved_in ids id most low high ≡ searched None 0
  unfolding halved_in
  in_none zero h = refl
  in_none (suc most) {low} {high} h = rw (le-ltb low high h)

  module _ (most : ℕ) {low high : ℕ} (h : low < high) where
    in_met : get_or ids (middle low high) 0 ≡ id → halved_in ids id (suc most) low high ≡ searched (Some (middle low high)) 1
    unfolding halved_in
    in_met e = rw (lt-ltb low high h, eq-eqb _ _ e)

    in_before : id < get_or ids (middle low high) 0
        → halved_in ids id (suc most) low high ≡ one_more (halved_in ids id most low (middle low high))
    unfolding halved_in
    in_before l = rw (lt-ltb low high h, ne_eqb (get_or ids (middle low high) 0) id (λ e. omega arith), lt-ltb _ _ l)

    in_after : get_or ids (middle low high) 0 < id
        → halved_in ids id (suc most) low high ≡ one_more (halved_in ids id most (middle low high + 1) high)
    unfolding halved_in
    in_after l = rw (lt-ltb low high h, ne_eqb (get_or ids (middle low high) 0) id (λ e. omega arith), le-ltb id (get_or ids (middle low high) 0) (omega arith))

  -- no fewer steps than there are rows left: the computation comes to what the steps come to
  steps_computed : {low high looks : ℕ} {row : Option ℕ} → Halves ids id low high row looks → (most : ℕ) → high - low ≤ most
      → halved_in ids id most low high ≡ searched row looks
  steps_computed (ended h) most m = in_none most h
  steps_computed (met h e) zero m = absurd (omega arith)
  steps_computed (met h e) (suc most) m = in_met most h e
  steps_computed (before h l s) zero m = absurd (omega arith)
  steps_computed (before h l s) (suc most) m =
      let w = middle_within h in
      in_before most h l ∙ ap one_more (steps_computed s most (omega arith))
  steps_computed (after h l s) zero m = absurd (omega arith)
  steps_computed (after h l s) (suc most) m =
      let w = middle_within h in
      in_after most h l ∙ ap one_more (steps_computed s most (omega arith))

  -- and the steps always come to something: where fewer rows are left they do, so here
  abbrev Ends : (low high : ℕ) → Type 0
  Ends low high = (row : Option ℕ) × ((looks : ℕ) × Halves ids id low high row looks)

  one_step : (low high : ℕ) → ((l h : ℕ) → h - l < high - low → Ends l h) → Ends low high
  one_step low high next = on (ltb low high) refl
    where
      look : low < high → (t : Bool) → eqb (get_or ids (middle low high) 0) id ≡ t → (u : Bool) → ltb id (get_or ids (middle low high) 0) ≡ u → Ends low high
      look h true e u f = (Some (middle low high), (1, met h (eqb-true _ _ e)))
      look h false e true f =
          let w = middle_within h in
          let s = next low (middle low high) (omega arith) in
          (s.0, (s.1.0 + 1, before h (ltb-true _ _ f) s.1.1))
      look h false e false f =
          let w = middle_within h in
          let n = eqb-false (get_or ids (middle low high) 0) id e in
          let l = ltb-false id (get_or ids (middle low high) 0) f in
          let s = next (middle low high + 1) high (omega arith) in
          (s.0, (s.1.0 + 1, after h (omega arith) s.1.1))

      on : (t : Bool) → ltb low high ≡ t → Ends low high
      on false e = (None, (0, ended (ltb-false low high e)))
      on true e = look (ltb-true low high e) (eqb (get_or ids (middle low high) 0) id) refl (ltb id (get_or ids (middle low high) 0)) refl

  steps_end : (most low high : ℕ) → high - low ≤ most → Ends low high
  steps_end zero low high m = (None, (0, let h : high ≤ low = omega arith in ended h))
  steps_end (suc most) low high m = one_step low high (λ l h k. steps_end most l h (omega arith))

  -- so the search in the first rows is the one thing that the steps come to
  pub search_halves : (count : ℕ) → Halves ids id 0 count (halved ids count id).row (halved ids count id).looks
  unfolding halved
  search_halves count =
      let s = steps_end count 0 count (omega arith) in
      rw (steps_computed s.1.1 count (omega arith)) s.1.1

  halves_search : {count looks : ℕ} {row : Option ℕ} → Halves ids id 0 count row looks → halved ids count id ≡ searched row looks
  unfolding halved
  halves_search {count} s = steps_computed s count (omega arith)

  pub one_end : {count looks n : ℕ} {row other : Option ℕ} → Halves ids id 0 count row looks → Halves ids id 0 count other n → row ≡ other
  one_end s t = ap (λ (x : Search). x.row) (sym (halves_search s) ∙ halves_search t)

-- ---- the entry

-- an answer tells which case it is, and what it holds
sought_stands : (looks : ℕ) (row : Option ℕ) {k n : ℕ} → sought_as looks row ≡ Stands k n → (row ≡ Some k) × (looks ≡ n)
sought_stands looks None e = absurd (let z : ◌≡◌ {A = ℕ} 0 1 = cc in omega arith)
sought_stands looks (Some j) e = (cc, cc)

sought_missing : (looks : ℕ) (row : Option ℕ) {n : ℕ} → sought_as looks row ≡ Missing n → (row ≡ None) × (looks ≡ n)
sought_missing looks None e = (refl, cc)
sought_missing looks (Some j) e = absurd (let z : ◌≡◌ {A = ℕ} 0 1 = cc in omega arith)

as_sized : (looks : ℕ) (row : Option ℕ) → Unsized ≡ sought_as looks row → ⊥
as_sized looks None e = absurd (let z : ◌≡◌ {A = ℕ} 0 1 = cc in omega arith)
as_sized looks (Some j) e = absurd (let z : ◌≡◌ {A = ℕ} 0 1 = cc in omega arith)

stands_sized : {k looks : ℕ} → Unsized ≡ Stands k looks → ⊥
stands_sized {k} {looks} e = as_sized looks (Some k) e

missing_sized : {looks : ℕ} → Unsized ≡ Missing looks → ⊥
missing_sized {looks} e = as_sized looks None e

module _ (ids : List ℕ) (count : ℕ) where
  taken_says : (taken ids count ≡ true) ↔ Taken ids count
  unfolding taken
  taken_says = (
    λ e. let t = (and-eq-true_iff _ _).0 e in record { room = leb-true _ _ t.0; counted = leb-true _ _ t.1 },
    λ t. both _ _ (le-leb _ _ t.room) (le-leb _ _ t.counted),
  )

  module _ (id : ℕ) where
    -- the answer where the list is taken, and where it is not
    pub known_taken : Taken ids count → known_of ids count id ≡ sought_as (halved ids count id).looks (halved ids count id).row
    unfolding known_of
    known_taken t = rw (taken_says.1 t)

    pub known_unsized : (Taken ids count → ⊥) → known_of ids count id ≡ Unsized
    unfolding known_of
    known_unsized n = rw (sym (is_false (taken ids count) (λ e. n (taken_says.0 e))))

    -- and by what the steps come to
    known_halves : {looks : ℕ} {row : Option ℕ} → Taken ids count → Halves ids id 0 count row looks → known_of ids count id ≡ sought_as looks row
    known_halves t s = let e = halves_search ids id s in known_taken t ∙ rw e

    -- an answer comes from a list that is taken, or from one that is not
    by_taken : (t : Bool) → taken ids count ≡ t → {s : Sought} → known_of ids count id ≡ s → (s ≡ Unsized → ⊥) → Taken ids count
    by_taken true e k n = taken_says.0 e
    by_taken false e k n = absurd (n (sym k ∙ known_unsized (λ t. true≢false (sym (taken_says.1 t) ∙ e))))

    stands_halves : {k looks : ℕ} → known_of ids count id ≡ Stands k looks → Taken ids count × Halves ids id 0 count (Some k) looks
    stands_halves {k} {looks} e =
        let t = by_taken (taken ids count) refl e (λ f. stands_sized (sym f)) in
        let s = sought_stands (halved ids count id).looks (halved ids count id).row (sym (known_taken t) ∙ e) in
        (t, rw (s.0, s.1) at (search_halves ids id count))

    missing_halves : {looks : ℕ} → known_of ids count id ≡ Missing looks → Taken ids count × Halves ids id 0 count None looks
    missing_halves {looks} e =
        let t = by_taken (taken ids count) refl e (λ f. missing_sized (sym f)) in
        let s = sought_missing (halved ids count id).looks (halved ids count id).row (sym (known_taken t) ∙ e) in
        (t, rw (s.0, s.1) at (search_halves ids id count))

    unsized_not_taken : known_of ids count id ≡ Unsized → Taken ids count → ⊥
    unsized_not_taken e t = as_sized (halved ids count id).looks (halved ids count id).row (sym e ∙ known_taken t)

pub known_says : KnownSays
known_says = record {
  stands = λ ids count id k looks. (stands_halves ids count id, λ s. known_halves ids count id s.0 s.1);
  missing = λ ids count id looks. (missing_halves ids count id, λ s. known_halves ids count id s.0 s.1);
  unsized = λ ids count id. (unsized_not_taken ids count id, known_unsized ids count id);
}

-- ---- as the code goes through it

-- After so many looks the rows from low on and before high are left: what the steps come to there, with these looks, they come to in all. Each look takes
-- a row off.
pub record Halving (ids : List ℕ) (count id low high looks : ℕ) : Type 0 where
  pub within : high ≤ count
  pub fewer : looks + (high - low) ≤ count
  pub comes_to : (row : Option ℕ) (n : ℕ) → Halves ids id low high row n → Halves ids id 0 count row (looks + n)

pub halving_start : (ids : List ℕ) (count id : ℕ) → Halving ids count id 0 count 0
halving_start ids count id = record {
  within = le_refl count;
  fewer = omega arith;
  comes_to = λ row n s. let e : 0 + n ≡ n = omega arith in rw e s;
}

module _ {ids : List ℕ} {count id low high looks : ℕ} (s : Halving ids count id low high looks) where
  module _ (h : low < high) where
    one_look : (n : ℕ) → looks + (n + 1) ≡ looks + 1 + n
    one_look n = omega arith

    pub halving_before : id < get_or ids (middle low high) 0 → Halving ids count id low (middle low high) (looks + 1)
    halving_before l =
        let w = middle_within h in
        let f = s.fewer in
        let c = s.within in
        record {
          within = omega arith;
          fewer = omega arith;
          comes_to = λ row n t. rw (one_look n) at (s.comes_to row (n + 1) (before h l t));
        }

    pub halving_after : get_or ids (middle low high) 0 < id → Halving ids count id (middle low high + 1) high (looks + 1)
    halving_after l =
        let w = middle_within h in
        let f = s.fewer in
        record {
          within = s.within;
          fewer = omega arith;
          comes_to = λ row n t. rw (one_look n) at (s.comes_to row (n + 1) (after h l t));
        }

    pub halving_met : Taken ids count → get_or ids (middle low high) 0 ≡ id → Stands (middle low high) (looks + 1) ≡ known_of ids count id
    halving_met t e = sym (known_halves ids count id t (s.comes_to (Some (middle low high)) 1 (met h e)))

  pub halving_ended : Taken ids count → high ≤ low → Missing looks ≡ known_of ids count id
  halving_ended t h =
      let e : looks + 0 ≡ looks = omega arith in
      sym (known_halves ids count id t (rw e at (s.comes_to None 0 (ended h))))

-- ---- what a row found holds, on any list

module _ (ids : List ℕ) (id : ℕ) where
  -- it lies among the rows that were left, and holds the id
  pub record Among (low high k looks : ℕ) : Type 0 where
    pub from_low : low ≤ k
    pub below_high : k < high
    pub named : get_or ids k 0 ≡ id
    pub looked : 0 < looks

  pub halves_holds : {low high looks : ℕ} {row : Option ℕ} → Halves ids id low high row looks → (k : ℕ) → row ≡ Some k → Among low high k looks
  halves_holds (ended h) k e = absurd (let z : ◌≡◌ {A = ℕ} 0 1 = cc in omega arith)
  halves_holds {low} {high} (met h n) k e =
      let w = middle_within h in
      let m : middle low high ≡ k = cc in
      record { from_low = omega arith; below_high = omega arith; named = rw (← m) n; looked = omega arith }
  halves_holds (before h l s) k e =
      let w = middle_within h in
      let a = halves_holds s k e in
      record { from_low = omega arith; below_high = omega arith; named = a.named; looked = omega arith }
  halves_holds (after h l s) k e =
      let w = middle_within h in
      let a = halves_holds s k e in
      record { from_low = omega arith; below_high = omega arith; named = a.named; looked = omega arith }

pub row_holds : RowHolds
row_holds ids count id k looks e =
    let s = stands_halves ids count id e in
    let t = s.0 in
    let a = halves_holds ids id s.1 k refl in
    record { used = omega arith; lent = omega arith; named = a.named; looked = a.looked }

-- ---- on ids that ascend

module _ (ids : List ℕ) (id count : ℕ) (up : Ascends ids count) where
  up_to : (j k : ℕ) → j ≤ k → k < count → get_or ids j 0 ≤ get_or ids k 0
  up_to j k l m = ⊎_elim (λ (q : j ≡ k). rw q (le_refl (get_or ids k 0))) (λ (r : j < k). let u = up j k r m in omega arith) (eq-or-lt_of_le l)

  -- where the search ends without it, no row that was left has the id: those that it did not keep hold larger ids, or smaller ones
  none_left : {low high looks : ℕ} {row : Option ℕ} → Halves ids id low high row looks → high ≤ count → row ≡ None
      → (k : ℕ) → low ≤ k → k < high → get_or ids k 0 ≢ id
  none_left (ended h) c e k l m f = omega arith
  none_left (met h n) c e k l m f = absurd (let z : ◌≡◌ {A = ℕ} 0 1 = cc in omega arith)
  none_left {low} {high} (before h g s) c e k l m f =
      let w = middle_within h in
      elim (dec_le (middle low high) k) [
        | yes b ↦ let u = up_to (middle low high) k b (omega arith) in omega arith
        | no b ↦ none_left s (omega arith) e k l (omega arith) f
      ]
  none_left {low} {high} (after h g s) c e k l m f =
      let w = middle_within h in
      elim (dec_le k (middle low high)) [
        | yes b ↦ let u = up_to k (middle low high) b (omega arith) in omega arith
        | no b ↦ none_left s c e k (omega arith) m f
      ]

  abbrev lent : Book
  lent = book_of ids [] [] [] [] [] count

  -- what the steps come to is the search over all rows
  halves_row : {looks : ℕ} {row : Option ℕ} → Halves ids id 0 count row looks → count ≤ length ids → row ≡ row_in ids count id
  halves_row {looks} {row} s c = on row refl
    where
      on : (o : Option ℕ) → row ≡ o → row ≡ row_in ids count id
      on None e = e ∙ sym ((row_says.no_row lent id).1 (λ k u l. none_left s (le_refl count) e k (omega arith) u))
      on (Some k) e =
          let a = halves_holds ids id s k e in
          e ∙ sym ((row_says.row lent id k).1 (record {
            used = a.below_high;
            lent = omega arith;
            named = a.named;
            first = λ j l n. (let u = up j k l a.below_high in let m = a.named in omega arith);
          }))

module _ (ids : List ℕ) (count id : ℕ) (t : Taken ids count) (up : Ascends ids count) where
  finds_same : known_of ids count id ≡ sought_as (halved ids count id).looks (row_in ids count id)
  finds_same = known_taken ids count id t ∙ ap (sought_as (halved ids count id).looks) (halves_row ids id count up (search_halves ids id count) t.counted)

  finds_row : (k : ℕ) → ((looks : ℕ) × (known_of ids count id ≡ Stands k looks)) ↔ (row_in ids count id ≡ Some k)
  finds_row k = (
    λ s. (sought_stands (halved ids count id).looks (row_in ids count id) (sym finds_same ∙ s.1)).0,
    λ e. ((halved ids count id).looks, finds_same ∙ ap (sought_as (halved ids count id).looks) e),
  )

  finds_none : ((looks : ℕ) × (known_of ids count id ≡ Missing looks)) ↔ (row_in ids count id ≡ None)
  finds_none = (
    λ s. (sought_missing (halved ids count id).looks (row_in ids count id) (sym finds_same ∙ s.1)).0,
    λ e. ((halved ids count id).looks, finds_same ∙ ap (sought_as (halved ids count id).looks) e),
  )

pub ascending_finds : AscendingFinds
ascending_finds = record {
  same = finds_same;
  row = λ ids count id k t up. finds_row ids count id t up k;
  no_row = finds_none;
}

-- ---- what the answer depends on

-- the same ids below the rows that are left: the same steps
halves_alike : (ids others : List ℕ) (id : ℕ) {low high looks : ℕ} {row : Option ℕ} → ((k : ℕ) → k < high → get_or ids k 0 ≡ get_or others k 0)
    → Halves ids id low high row looks → Halves others id low high row looks
halves_alike ids others id same (ended h) = ended h
halves_alike ids others id same (met h e) = met h (sym (same _ (middle_within h).1) ∙ e)
halves_alike ids others id {low} {high} same (before h l s) =
    let w = middle_within h in
    before h (rw (same (middle low high) w.1) at l) (halves_alike ids others id (λ k m. same k (omega arith)) s)
halves_alike ids others id {low} {high} same (after h l s) =
    after h (rw (same (middle low high) (middle_within h).1) at l) (halves_alike ids others id same s)

pub known_depends : KnownDepends
known_depends ids others count id t u e =
    let same : (k : ℕ) → k < count → get_or ids k 0 ≡ get_or others k 0 =
    λ k h. sym (get_or-take count ids k 0 h) ∙ ap (λ (l : List ℕ). get_or l k 0) e ∙ get_or-take count others k 0 h in
    known_taken ids count id t ∙ sym (known_halves others count id u (halves_alike ids others id same (search_halves ids id count)))
