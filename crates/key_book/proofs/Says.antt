-- The closed statements of specs/Laws.antt, proved: the tests by their parts, the row of an id by induction on the ids, the key of a row where it fits
-- the store (proofs/Keys.antt).
use mathlib.Core.Path.{◌≡◌, refl, sym, ap, ◌∙◌}
use mathlib.Core.Logic.{◌↔◌, ◌≢◌, inl, inr, ⊎_elim}
use mathlib.Core.Bool.{Bool, true, false, cond, ◌&&◌, and-eq-true_iff}
use mathlib.Core.List.{List, [], ◌∷◌}
use Prim.Native.Nat.{ℕ, zero, suc, ◌+◌, ◌-◌, ◌*◌, ◌≤◌, ◌<◌}
use native.Mathlib.Omega.{arith}
use borrow.Author.Tests.{eq-eqb, le-leb, leb-true, eqb-true, eqb-false}
use lib.Dec.{leb, eqb}
use lib.ListN.{length, get_or, take, drop, length-take, length-drop}
use lib.Seq.{get_or-take, get_or-drop, ext_get_or, length-take-le}
use Rattle.key_book.specs.Limits.{slot_size, not_heard, heard}
use Rattle.key_book.specs.Book.{Book, MarkFits, all_below, sized, ascending, key_sizes, mark_fits, marks_fit, sound}
use Rattle.key_book.specs.Book.{place_from, row_in, row_of, key_of}
use Rattle.key_book.specs.Laws.{SizedSays, MarkFitsSays, SoundSays, FirstRow, NoRow, RowSays, Within, RowsWithin, KeySays}
use Rattle.key_book.specs.Laws.{SoundDepends, RowDepends, KeyDepends}
use Rattle.key_book.proofs.Below.{all_says, all_holds, all_alike, ascends}
use Rattle.key_book.proofs.Keys.{Fits, key_part, key_start_lem}
use Rattle.std.specs.Prelude.{None, Option, Some}

leb_says : (m n : ℕ) → (leb m n ≡ true) ↔ (m ≤ n)
leb_says m n = (leb-true m n, le-leb m n)

eqb_says : (m n : ℕ) → (eqb m n ≡ true) ↔ (m ≡ n)
eqb_says m n = (eqb-true m n, eq-eqb m n)

all_below_lem : (p : ℕ → Bool) (n : ℕ) → (all_below p n ≡ true) ↔ ((k : ℕ) → k < n → p k ≡ true)
all_below_lem p n = (all_says p n, all_holds p n)

pub sized_says : SizedSays
unfolding sized
sized_says b = (
  λ e. let t = simp (and-eq-true_iff, leb_says, eqb_says) at e in
      record {
        room = omega arith;
        lengths_agree = omega arith;
        store_agrees = omega arith;
        marks_agree = omega arith;
        received_agree = omega arith;
        sent_agree = omega arith;
      },
  λ s. simp (and-eq-true_iff, leb_says, eqb_says) (((((s.room, s.lengths_agree), s.store_agrees), s.marks_agree), s.received_agree), s.sent_agree),
)

pub mark_fits_says : MarkFitsSays
unfolding mark_fits
mark_fits_says mark received = (says (eqb mark heard) refl, on)
  where
    says : (t : Bool) → eqb mark heard ≡ t → cond t true (eqb mark not_heard && eqb received 0) ≡ true → MarkFits mark received
    says true e f = let one = eqb-true mark heard e in record { known = inr one; fresh = λ z. absurd (omega arith) }
    says false e f = let t = simp (and-eq-true_iff, eqb_says) at f in record { known = inl t.0; fresh = λ z. t.1 }

    on : MarkFits mark received → cond (eqb mark heard) true (eqb mark not_heard && eqb received 0) ≡ true
    on m = ⊎_elim
        (λ (z : mark ≡ not_heard). let r = m.fresh z in rw (z, r))
        (λ (o : mark ≡ heard). rw o)
        m.known

pub sound_says : SoundSays
unfolding sound ascending key_sizes marks_fit
sound_says b = (
  λ e. let t = simp (and-eq-true_iff, leb_says, all_below_lem, sized_says, mark_fits_says) at e in
      record {
        sizes = t.0.0.0.0.0;
        rows_fit = t.0.0.0.0.1;
        rows_few = t.0.0.0.1;
        ids_ascend = ascends (λ (k : ℕ). get_or b.ids k 0) b.rows (λ k h. t.0.0.1 k (omega arith));
        keys_from = λ k h. (t.0.1 k h).0;
        keys_to = λ k h. (t.0.1 k h).1;
        marks_fit_lem = t.1;
      },
  λ s. simp (and-eq-true_iff, leb_says, all_below_lem, sized_says, mark_fits_says) (
    (
      (((s.sizes, s.rows_fit), s.rows_few), λ k h. s.ids_ascend k (k + 1) (omega arith) (omega arith)),
      λ k h. (s.keys_from k h, s.keys_to k h),
    ),
    s.marks_fit_lem,
  ),
)

-- the first place of an id in a list numbered from n: by the answer
Placed : ℕ → ℕ → List ℕ → Option ℕ → Type 0
Placed id n xs None = (i : ℕ) → i < length xs → get_or xs i 0 ≢ id
Placed id n xs (Some k) = (i : ℕ) × ((k ≡ n + i) × ((i < length xs) × ((get_or xs i 0 ≡ id) × ((j : ℕ) → j < i → get_or xs j 0 ≢ id))))

before_more : (id x : ℕ) (xs : List ℕ) (n : ℕ) → x ≢ id → ((j : ℕ) → j < n → get_or xs j 0 ≢ id) → (j : ℕ) → j < suc n → get_or (x ∷ xs) j 0 ≢ id
before_more id x xs n d h zero l = d
before_more id x xs n d h (suc j) l = h j (omega arith)

placed_more : (id n x : ℕ) (xs : List ℕ) → x ≢ id → (o : Option ℕ) → Placed id (suc n) xs o → Placed id n (x ∷ xs) o
unfolding Placed
placed_more id n x xs d None h = before_more id x xs (length xs) d h
placed_more id n x xs d (Some k) (i, (e, (l, (f, h)))) = (suc i, (omega arith, (omega arith, (f, before_more id x xs i d h))))

placed : (id n : ℕ) (xs : List ℕ) → Placed id n xs (place_from id n xs)
unfolding Placed place_from
placed id n [] = λ i h. absurd (omega arith)
placed id n (x ∷ xs) = on (placed id (suc n) xs) (eqb x id) refl
  where
    on : Placed id (suc n) xs (place_from id (suc n) xs) → (t : Bool) → eqb x id ≡ t → Placed id n (x ∷ xs) (cond t (Some n) (place_from id (suc n) xs))
    on ih true e = (0, (omega arith, (omega arith, (eqb-true x id e, λ j h. absurd (omega arith)))))
    on ih false e = placed_more id n x xs (eqb-false x id e) (place_from id (suc n) xs) ih

module _ (b : Book) (id : ℕ) where
  abbrev used : List ℕ
  used = take b.rows b.ids

  used_at : (k : ℕ) → k < b.rows → get_or used k 0 ≡ get_or b.ids k 0
  used_at k h = get_or-take b.rows b.ids k 0 h

  used_length : (k : ℕ) → (k < length used) ↔ ((k < b.rows) × (k < length b.ids))
  used_length k = (λ h. let l = rw length-take at h in (omega arith, omega arith), λ h. rw length-take (omega arith))

  found_first : (k : ℕ) (o : Option ℕ) → Placed id 0 used o → o ≡ Some k → FirstRow b id k
  unfolding Placed
  found_first k None h e = absurd (let z : ◌≡◌ {A = ℕ} 0 1 = cc in omega arith)
  found_first k (Some m) (i, (q, (l, (f, g)))) e =
      let m≡ : m ≡ k = cc in
      let i≡ : i ≡ k = omega arith in
      let l' = (used_length i).0 l in
      record {
        used = omega arith;
        lent = omega arith;
        named = rw (← i≡) (sym (used_at i l'.0) ∙ f);
        first = λ j h n. g j (omega arith) (used_at j (omega arith) ∙ n);
      }

  first_found : (k : ℕ) → FirstRow b id k → (o : Option ℕ) → Placed id 0 used o → o ≡ Some k
  unfolding Placed
  first_found k f None h = absurd (h k ((used_length k).1 (f.used, f.lent)) (used_at k f.used ∙ f.named))
  first_found k f (Some m) (i, (q, (l, (e, g)))) =
      let later : i < k → ⊥ = λ h. f.first i h (sym (used_at i ((used_length i).0 l).0) ∙ e) in
      let earlier : k < i → ⊥ = λ h. g k h (used_at k f.used ∙ f.named) in
      let m≡ : m ≡ k = omega arith in
      ap Some m≡

  none_found : (o : Option ℕ) → Placed id 0 used o → (o ≡ None) ↔ NoRow b id
  unfolding Placed
  none_found None h = (λ e k u l n. h k ((used_length k).1 (u, l)) (used_at k u ∙ n), λ n. refl)
  none_found (Some m) (i, (q, (l, (e, g)))) =
      let l' = (used_length i).0 l in
      (λ e. absurd (let z : ◌≡◌ {A = ℕ} 0 1 = cc in omega arith), λ n. absurd (n i l'.0 l'.1 (sym (used_at i l'.0) ∙ e)))

pub row_says : RowSays
unfolding row_in
row_says = record {
  row = λ b id k. (found_first b id k (row_of b id) (placed id 0 (used b id)), λ f. first_found b id k f (row_of b id) (placed id 0 (used b id)));
  no_row = λ b id. none_found b id (row_of b id) (placed id 0 (used b id));
}

pub rows_within : RowsWithin
rows_within b s k h =
    let z = s.sizes in
    record {
      in_ids = omega arith;
      in_lengths = omega arith;
      in_store = omega arith;
      in_marks = omega arith;
      in_received = omega arith;
      in_sent = omega arith;
    }

-- the key of a row within the book, as a part of the store
module _ (b : Book) (k : ℕ) (w : Within b k) (t : get_or b.lengths k 0 ≤ slot_size) where
  within_fits : Fits b.store b.lengths k
  within_fits = record { listed = w.in_lengths; stored = omega arith }

  pub key_is : key_of b k ≡ take (get_or b.lengths k 0) (drop (slot_size * k) b.store)
  key_is = key_part _ _ _ within_fits

  pub key_long : length (key_of b k) ≡ get_or b.lengths k 0
  key_long =
      let i = w.in_store in
      ap length key_is ∙ length-take-le (get_or b.lengths k 0) (drop (slot_size * k) b.store) (rw length-drop (omega arith))

pub key_says : KeySays
key_says b s k h =
    let w = rows_within b s k h in
    let f = s.keys_from k h in
    let t = s.keys_to k h in
    let l = key_long b k w t in
    record {
      size = l;
      from_one = omega arith;
      to_slot = omega arith;
      start = key_start_lem _ _ _ (within_fits b k w t);
      bytes = λ i m. ap (λ (x : List ℕ). get_or x i 0) (key_is b k w t) ∙ get_or-take (get_or b.lengths k 0) _ i 0 (omega arith) ∙ get_or-drop _ b.store i 0;
    }

-- the received counter of a heard row is not read
mark_fits_alike : (mark mark' received received' : ℕ) → mark ≡ mark' → (mark ≡ not_heard → received ≡ received')
    → mark_fits mark received ≡ mark_fits mark' received'
unfolding mark_fits
mark_fits_alike mark mark' received received' e f = rw (← e) (on (eqb mark not_heard) refl)
  where
    on : (t : Bool) → eqb mark not_heard ≡ t → cond (eqb mark heard) true (t && eqb received 0) ≡ cond (eqb mark heard) true (t && eqb received' 0)
    on true z = rw (f (eqb-true mark not_heard z))
    on false z = refl

pub sound_depends : SoundDepends
unfolding sound sized ascending key_sizes marks_fit
sound_depends b c a =
    let ids : ascending b.ids b.rows ≡ ascending c.ids b.rows =
    all_alike _ _ (b.rows - 1) (λ k h. rw (a.same_ids k (omega arith), a.same_ids (k + 1) (omega arith))) in
    let keys : key_sizes b.lengths b.rows ≡ key_sizes c.lengths b.rows = all_alike _ _ b.rows (λ k h. rw (a.same_lengths k h)) in
    let marks : marks_fit b.marks b.received b.rows ≡ marks_fit c.marks c.received b.rows =
    all_alike _ _ b.rows (λ k h. mark_fits_alike _ _ _ _ (a.same_marks k h) (a.same_fresh k h)) in
    rw (ids, keys, marks, a.ids_size, a.lengths_size, a.store_size, a.marks_size, a.received_size, a.sent_size, a.same_rows)

pub row_depends : RowDepends
unfolding row_in
row_depends b c id e = ap (place_from id 0) e

pub key_depends : KeyDepends
key_depends b c s t k a =
    let kb = key_says b s k a.used in
    let kc = key_says c t k a.used_too in
    let lb = kb.size in
    let lc = kc.size in
    let e = a.same_size in
    ext_get_or 0 (key_of b k) (key_of c k) (omega arith)
    (λ i h. kb.bytes i h ∙ a.same_bytes_lem i (omega arith) ∙ sym (kc.bytes i (omega arith)))
