-- The ends of `finish`, each as one case: the answer and the book afterwards where this is so. The only law file that unfolds `finish_of` and `finish_book`.
use mathlib.Core.Path.{◌≡◌, refl, sym, ap, ◌∙◌}
use mathlib.Core.Bool.{Bool, true, false, not, cond, ◌&&◌, and-eq-true_iff, true≢false}
use mathlib.Mathlib.Data.Bool.Basic.{eq-false-eq-not-eq-true}
use mathlib.Core.List.{List, ◌++◌}
use Prim.Native.Nat.{ℕ, ◌*◌, ◌≤◌, ◌<◌}
use native.Mathlib.Omega.{arith}
use borrow.Author.Tests.{eq-eqb, eqb-true, lt-ltb, le-ltb, ltb-true, ltb-false, not-true, not-false}
use lib.Dec.{ltb, eqb}
use lib.ListN.{length, take, drop}
use lib.Seq.{length-take-le}
use Rattle.octets.specs.Bytes.{written}
use Rattle.octets.proofs.Written.{written_front}
use Rattle.refusal.specs.declared.Refusal.TheVariants.{UnsoundBook, MalformedCard, NoRoomForRows}
use Rattle.key_book.specs.Limits.{slot_size, room_most}
use Rattle.key_book.specs.Book.{Book, book_of, Sized, sized}
use Rattle.key_book.proofs.Says.{sized_says}
use Rattle.card_pieces.specs.declared.Reader.{Reader}
use Rattle.card_pieces.specs.Pieces.{within, has_ended, finish_as, finish_of, copied, finish_by, finish_book}
use Rattle.card_pieces.specs.Laws.{Usable}
use Rattle.card_pieces.proofs.Limits.{within_says}
use Rattle.std.specs.Prelude.{Err, Ok, Result}
use Rattle.refusal.specs.declared.Refusal.{Refusal}

pub data FinishCase (b : Book) (st : Reader) (c : Book) : Result ℕ Refusal → Book → Type 0 where
  unsound : (Usable b st c → ⊥) → FinishCase b st c (Err UnsoundBook) c
  unended : Usable b st c → has_ended st.kept st.phase ≡ false → FinishCase b st c (Err MalformedCard) c
  no_room_lem : Usable b st c → has_ended st.kept st.phase ≡ true → length c.ids < st.rows → FinishCase b st c (Err NoRoomForRows) c
  finished : Usable b st c → has_ended st.kept st.phase ≡ true → st.rows ≤ length c.ids
      → FinishCase b st c (Ok st.rows) (copied st.rows b c)

module _ (b : Book) (st : Reader) (c : Book) where
  abbrev usable : Bool
  usable = sized b && sized c && eqb (length b.ids) (length c.ids) && within st.kept st.rows

  usable_says : usable ≡ true → Usable b st c
  usable_says e =
      let t = simp (and-eq-true_iff) at e in
      record {
        spare_sized = (sized_says b).0 t.0.0.0;
        book_sized = (sized_says c).0 t.0.0.1;
        same_room = eqb-true (length b.ids) (length c.ids) t.0.1;
        limits = (within_says st).0 t.1;
      }

  usable_so : Usable b st c → usable ≡ true
  usable_so u =
      simp (and-eq-true_iff) (
        (((sized_says b).1 u.spare_sized, (sized_says c).1 u.book_sized), eq-eqb (length b.ids) (length c.ids) u.same_room),
        (within_says
            st).1 u.limits,
      )

  -- an end as the function's clauses have it: the answer, and the book afterwards
  abbrev Ends : Result ℕ Refusal → Book → Type 0
  Ends a d = record { answer : a ≡ finish_of b st c; after : d ≡ finish_book b st c }

  ends : (a : Result ℕ Refusal) → a ≡ finish_of b st c → Ends a (finish_by b c a)
  unfolding finish_book
  ends a e = record { answer = e; after = ap (finish_by b c) e }

  pub case_finish : {a : Result ℕ Refusal} {after : Book} → FinishCase b st c a after → Ends a after
  unfolding finish_of
  case_finish (unsound h) = ends (Err UnsoundBook) (rw ((eq-false-eq-not-eq-true usable).0 (λ e. h (usable_says e))))
  case_finish (unended u e) = ends (Err MalformedCard) (rw (usable_so u, e))
  case_finish (no_room_lem u e l) = ends (Err NoRoomForRows) (rw (usable_so u, e, lt-ltb (length c.ids) st.rows l))
  case_finish (finished u e l) = ends (Ok st.rows) (rw (usable_so u, e, le-ltb (length c.ids) st.rows l))

  -- and back: what is so where this is answered and left
  abbrev Leaves : Result ℕ Refusal → Type 0
  Leaves a = FinishCase b st c a (finish_by b c a)

  by_end : Usable b st c → (t : Bool) → has_ended st.kept st.phase ≡ t → (u : Bool) → ltb (length c.ids) st.rows ≡ u
      → Leaves (cond t (cond u (Err NoRoomForRows) (Ok st.rows)) (Err MalformedCard))
  by_end u false e v l = unended u e
  by_end u true e true l = no_room_lem u e (ltb-true _ _ l)
  by_end u true e false l = finished u e (ltb-false _ _ l)

  pub finish_case : FinishCase b st c (finish_of b st c) (finish_book b st c)
  unfolding finish_of finish_book
  finish_case = on usable refl
    where
      on : (t : Bool) → usable ≡ t → Leaves (cond t (finish_as (length c.ids) st) (Err UnsoundBook))
      on true e = by_end (usable_says e) (has_ended st.kept st.phase) refl (ltb (length c.ids) st.rows) refl
      on false e = unsound (λ u. true≢false (sym (usable_so u) ∙ e))

-- ---- what the code's tests told

module _ (b : Book) (t : Bool) (e : t ≡ sized b) where
  pub told_sized : not t ≡ false → Sized b
  told_sized h = (sized_says b).0 (sym e ∙ not-false t h)

  pub told_unsized : not t ≡ true → Sized b → ⊥
  told_unsized h z = true≢false (sym ((sized_says b).1 z) ∙ sym e ∙ not-true t h)

-- so many rows are within every list
pub record Room (n : ℕ) (b : Book) : Type 0 where
  pub small : n ≤ room_most
  pub in_ids : n ≤ length b.ids
  pub in_lengths : n ≤ length b.lengths
  pub in_store : slot_size * n ≤ length b.store
  pub in_marks : n ≤ length b.marks
  pub in_received : n ≤ length b.received
  pub in_sent : n ≤ length b.sent

pub has_room : (n : ℕ) (b : Book) → Sized b → n ≤ length b.ids → Room n b
has_room n b z h =
    record {
      small = omega (arith, z.room);
      in_ids = h;
      in_lengths = omega (arith, z.lengths_agree);
      in_store = omega (arith, z.store_agrees);
      in_marks = omega (arith, z.marks_agree);
      in_received = omega (arith, z.received_agree);
      in_sent = omega (arith, z.sent_agree);
    }

-- the front of one list before the rest of another
front_written : (n : ℕ) (from old : List ℕ) → n ≤ length from → take n from ++ drop n old ≡ written 0 (take n from) old
front_written n from old h =
    sym (written_front (take n from) old ∙ ap (λ (k : ℕ). take n from ++ drop k old) (length-take-le n from h))

-- what the code's own copies leave
pub copied_all : (n : ℕ) (b c : Book) → Room n b → (ids lengths store marks received sent : List ℕ)
    → ids ≡ take n b.ids ++ drop n c.ids → lengths ≡ take n b.lengths ++ drop n c.lengths
    → store ≡ take (slot_size * n) b.store ++ drop (slot_size * n) c.store → marks ≡ take n b.marks ++ drop n c.marks
    → received ≡ take n b.received ++ drop n c.received → sent ≡ take n b.sent ++ drop n c.sent
    → book_of ids lengths store marks received sent n ≡ copied n b c
unfolding copied
copied_all n b c m ids lengths store marks received sent e₁ e₂ e₃ e₄ e₅ e₆ =
    let w₁ = e₁ ∙ front_written n b.ids c.ids m.in_ids in
    let w₂ = e₂ ∙ front_written n b.lengths c.lengths m.in_lengths in
    let w₃ = e₃ ∙ front_written (slot_size * n) b.store c.store m.in_store in
    let w₄ = e₄ ∙ front_written n b.marks c.marks m.in_marks in
    let w₅ = e₅ ∙ front_written n b.received c.received m.in_received in
    let w₆ = e₆ ∙ front_written n b.sent c.sent m.in_sent in
    λ i. book_of (w₁ i) (w₂ i) (w₃ i) (w₄ i) (w₅ i) (w₆ i) n
