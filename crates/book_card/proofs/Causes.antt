-- The record in front, whatever form the other rows have: each end of `fault_at` and of `record_at`, and what is so of the bytes where each comes.
use mathlib.Core.Path.{◌≡◌, refl, sym, ap, ◌∙◌}
use mathlib.Core.Logic.{◌≢◌, ◌⊎◌, inl, inr}
use mathlib.Core.Bool.{Bool, true, false, cond, true≢false}
use mathlib.Core.List.{List, ◌++◌}
use Prim.Native.Nat.{ℕ, ◌+◌, ◌-◌, ◌^◌, ◌≤◌, ◌<◌}
use native.Mathlib.Nat.{add-zero}
use native.Mathlib.Omega.{arith}
use borrow.Author.Tests.{eq-eqb, ne_eqb, lt-ltb, le-ltb, le-leb, lt-leb, eqb-true, eqb-false, ltb-true, ltb-false}
use lib.Dec.{ltb, eqb}
use lib.ListN.{length, take, drop, length-append, length-drop}
use lib.Seq.{take_all}
use Rattle.octets.specs.Bytes.{Bytes}
use Rattle.octets.specs.Numbers.{little_at}
use Rattle.octets.proofs.LowFirst.{number_from, number_of}
use Rattle.key_book.specs.Limits.{not_heard, heard}
use Rattle.key_book.specs.Book.{mark_fits}
use Rattle.key_book.proofs.Says.{mark_fits_says}
use Rattle.book_card.specs.declared.CardForm.{CardForm}
use Rattle.book_card.specs.Layout.{length_size, kind_size, id_size, counter_size, count_size, row_kind, close_kind}
use Rattle.book_card.specs.Layout.{kind_at, body_at, received_at, sent_at, key_at, close_size}
use Rattle.book_card.specs.Card.{Row, row_record, close, RowFits}
use Rattle.book_card.specs.Reader.{form_in, mark_in, row_by, front_of}
use Rattle.book_card.specs.Faults.{size_in, kind_in, fault_by, record_by, record_in}
use Rattle.book_card.specs.declared.Front.{Front}
use Rattle.book_card.specs.declared.Front.TheVariants.{Broken, Row as RowFront, Close as CloseFront}
use Rattle.book_card.specs.declared.Fault.{Fault}
use Rattle.book_card.specs.declared.Fault.TheVariants.{UnknownKind, WrongLength, WrongMark, NotHeardCounter}
use Rattle.book_card.specs.declared.Record.{Record}
use Rattle.book_card.specs.declared.Record.TheVariants.{Lost, Faulty, Row as RowThere, Close as CloseThere}
use Rattle.book_card.proofs.Forms.{form_kind}
use Rattle.book_card.proofs.Fronts.{row_from, row_to, by_kind}
use Rattle.book_card.proofs.Shape.{close_fields_lem, close_size_lem, row_read, front_of_row, front_of_close, GoodRow, GoodClose, FrontGood, front_good}

-- ---- why a record is none

module _ (form : CardForm) (s : List ℕ) (size kind : ℕ) where
  pub fault_close : kind ≡ close_kind → WrongLength ≡ fault_by form s size kind
  unfolding fault_by
  fault_close k = rw (eq-eqb kind close_kind k)

  module _ (k : kind ≢ close_kind) where
    pub fault_kind : kind ≢ row_kind form → UnknownKind ≡ fault_by form s size kind
    unfolding fault_by
    fault_kind r = rw (ne_eqb kind close_kind k, ne_eqb kind (row_kind form) r)

    module _ (r : kind ≡ row_kind form) where
      pub fault_short : size < row_from form → WrongLength ≡ fault_by form s size kind
      unfolding fault_by
      fault_short l = rw (ne_eqb kind close_kind k, eq-eqb kind (row_kind form) r, lt-leb (row_from form) size l)

      module _ (l : row_from form ≤ size) where
        pub fault_long : row_to form < size → WrongLength ≡ fault_by form s size kind
        unfolding fault_by
        fault_long m = rw (ne_eqb kind close_kind k, eq-eqb kind (row_kind form) r, le-leb (row_from form) size l, lt-leb size (row_to form) m)

        module _ (m : size ≤ row_to form) (mark : ℕ) (e : mark ≡ mark_in form s) where
          pub fault_counter : mark ≡ not_heard → NotHeardCounter ≡ fault_by form s size kind
          unfolding fault_by
          fault_counter z =
              rw (
                ne_eqb kind close_kind k,
                eq-eqb kind (row_kind form) r,
                le-leb (row_from form) size l,
                le-leb size (row_to form) m,
                eq-eqb (mark_in form s) not_heard (sym e ∙ z),
              )

          pub fault_mark : mark ≢ not_heard → WrongMark ≡ fault_by form s size kind
          unfolding fault_by
          fault_mark z =
              rw (
                ne_eqb kind close_kind k,
                eq-eqb kind (row_kind form) r,
                le-leb (row_from form) size l,
                le-leb size (row_to form) m,
                ne_eqb (mark_in form s) not_heard (λ q. z (e ∙ q)),
              )

-- ---- the record at a place

module _ (card : List ℕ) (at : ℕ) where
  abbrev here : List ℕ
  here = drop at card

  left : length here ≡ length card - at
  left = length-drop at card

  pub lost_short : length card - at < body_at → Lost ≡ record_in here
  unfolding record_in
  lost_short h = rw (left, lt-ltb _ body_at h)

  module _ (size : ℕ) (e : size ≡ little_at card at length_size) (h₀ : body_at ≤ length card - at) where
    is_size : size_in here ≡ size
    is_size = number_from card at 0 length_size ∙ ap (λ (n : ℕ). little_at card n length_size) (add-zero at) ∙ sym e

    pub lost_kind : size < kind_size → Lost ≡ record_in here
    unfolding record_in
    lost_kind l = rw (left, le-ltb _ body_at h₀, is_size, lt-ltb size kind_size l)

    module _ (l : kind_size ≤ size) where
      pub lost_cut : length card - at - length_size < size → Lost ≡ record_in here
      unfolding record_in
      lost_cut h = rw (left, le-ltb _ body_at h₀, is_size, le-ltb size kind_size l, lt-ltb _ size h)

      -- a whole record, by what the reader of rows and closes found in the form that its kind has; the code hands on the bytes from here on as a part
      module _ (h₁ : size ≤ length card - at - length_size) (form : CardForm) (part : form ≡ form_in (take (length card - at) here)) where
        f : form ≡ form_in here
        f = part ∙ ap form_in (let l = left in take_all (length card - at) here (omega arith))

        by_front : (x : Front) → x ≡ front_of form here → record_by form here x ≡ record_in here
        unfolding record_in
        by_front x g =
            rw (left, le-ltb _ body_at h₀, is_size, le-ltb size kind_size l, le-ltb _ size h₁, ← f, ← g)

        pub record_faulty : Broken ≡ front_of form here → (kind : ℕ) → kind ≡ little_at card (at + kind_at) kind_size
            → (fault : Fault) → fault ≡ fault_by form here size kind → Faulty fault kind (length_size + size) ≡ record_in here
        record_faulty g kind k fault q =
            let z : kind_in here ≡ kind = number_from card at kind_at kind_size ∙ sym k in
            rw (q, ← z, ← is_size) (by_front Broken g)

        pub record_row : (id mark received sent n : ℕ) → RowFront id mark received sent n ≡ front_of form here
            → RowThere form id mark received sent n ≡ record_in here
        record_row id mark received sent n g = by_front (RowFront id mark received sent n) g

        pub record_close : (n : ℕ) → CloseFront n ≡ front_of form here → CloseThere n ≡ record_in here
        record_close n g = by_front (CloseFront n) g

-- ---- what is so of the bytes

-- a whole record stands in front
pub record Whole (s : List ℕ) : Type 0 where
  pub body : body_at ≤ length s
  pub kind : kind_size ≤ size_in s
  pub within : length_size + size_in s ≤ length s

-- why it is neither a row nor a close: the fault that is told, and none before it
pub data FaultIs (s : List ℕ) : Fault → Type 0 where
  of_kind : kind_in s ≢ close_kind → ((form : CardForm) → kind_in s ≢ row_kind form) → FaultIs s UnknownKind
  of_close : kind_in s ≡ close_kind → size_in s ≢ close_size - length_size → FaultIs s WrongLength
  of_row : (form : CardForm) → kind_in s ≡ row_kind form → (size_in s < row_from form) ⊎ (row_to form < size_in s) → FaultIs s WrongLength
  of_mark : (form : CardForm) → kind_in s ≡ row_kind form → row_from form ≤ size_in s → size_in s ≤ row_to form → mark_in form s ≢ not_heard
      → mark_in form s ≢ heard
      → FaultIs s WrongMark
  of_counter : (form : CardForm) → kind_in s ≡ row_kind form → row_from form ≤ size_in s → size_in s ≤ row_to form → mark_in form s ≡ not_heard
      → little_at s (received_at form) counter_size ≢ 0 → FaultIs s NotHeardCounter

-- of a front that is broken, why it is
abbrev Why : CardForm → List ℕ → Front → Type 0
Why form s Broken = FaultIs s (fault_by form s (size_in s) (kind_in s))
Why form s (RowFront id mark received sent size) = Unit {0}
Why form s (CloseFront n) = Unit {0}

-- a mark and a counter that do not go together: the row is not heard and has a counter, or the mark is neither of the two
module _ (mark received : ℕ) (h : mark_fits mark received ≡ false) where
  misfit_counter : mark ≡ not_heard → received ≢ 0
  misfit_counter z e = true≢false (sym ((mark_fits_says mark received).1 (record { known = inl z; fresh = λ _. e })) ∙ h)

  misfit_mark : mark ≢ heard
  misfit_mark z = true≢false (sym ((mark_fits_says mark received).1 (record { known = inr z; fresh = λ n. absurd (let q = sym n ∙ z in omega arith) })) ∙ h)

module _ (form : CardForm) (s : List ℕ) (f : form ≡ form_in s) (w : Whole s) where
  why_row : kind_in s ≢ close_kind → kind_in s ≡ row_kind form → (t : Bool) → ltb (size_in s) (row_from form) ≡ t
      → (u : Bool) → ltb (row_to form) (size_in s) ≡ u
      → (v : Bool) → mark_fits (mark_in form s) (little_at s (received_at form) counter_size) ≡ v → (z : Bool) → eqb (mark_in form s) not_heard ≡ z
      → Why form s (cond t Broken
      (cond u Broken
      (cond v
      (RowFront (little_at s body_at id_size) (mark_in form s) (little_at s (received_at form) counter_size) (little_at s (sent_at form) counter_size)
      (size_in s - (key_at form - length_size)))
      Broken)))
  why_row k r true p u q v m z n =
      let l = ltb-true _ _ p in rw (sym (fault_short form s (size_in s) (kind_in s) k r l)) (of_row form r (inl l))
  why_row k r false p true q v m z n =
      let l = ltb-false _ _ p in
      let o = ltb-true _ _ q in
      rw (sym (fault_long form s (size_in s) (kind_in s) k r l o)) (of_row form r (inr o))
  why_row k r false p false q true m z n = tt
  why_row k r false p false q false m true n =
      let l = ltb-false _ _ p in
      let o = ltb-false _ _ q in
      let e = eqb-true _ _ n in
      rw (sym (fault_counter form s (size_in s) (kind_in s) k r l o (mark_in form s) refl e)) (of_counter form r l o e (misfit_counter _ _ m e))
  why_row k r false p false q false m false n =
      let l = ltb-false _ _ p in
      let o = ltb-false _ _ q in
      let e = eqb-false _ _ n in
      rw (sym (fault_mark form s (size_in s) (kind_in s) k r l o (mark_in form s) refl e)) (of_mark form r l o e (misfit_mark _ _ m))

  -- a kind that is not that of the form that is read off it is no row's
  no_row_kind : kind_in s ≢ row_kind form → (g : CardForm) → kind_in s ≢ row_kind g
  no_row_kind r g e = r (e ∙ ap row_kind (form_kind s w.body g e ∙ sym f))

  why_kind : (t : Bool) → eqb (kind_in s) close_kind ≡ t → (u : Bool) → eqb (size_in s) (close_size - length_size) ≡ u
      → (v : Bool) → eqb (kind_in s) (row_kind form) ≡ v
      → Why form s (cond t (cond u (CloseFront (little_at s body_at count_size)) Broken) (cond v (row_by form s (size_in s)) Broken))
  why_kind true p true q v r = tt
  why_kind true p false q v r = let k = eqb-true _ _ p in rw (sym (fault_close form s (size_in s) (kind_in s) k)) (of_close k (eqb-false _ _ q))
  why_kind false p u q true r = why_row (eqb-false _ _ p) (eqb-true _ _ r) _ refl _ refl _ refl _ refl
  why_kind false p u q false r =
      let k = eqb-false _ _ p in
      let n = eqb-false _ _ r in
      rw (sym (fault_kind form s (size_in s) (kind_in s) k n)) (of_kind k (no_row_kind n))

  why_broken : Why form s (front_of form s)
  why_broken =
      let b = w.body in
      let i = w.within in
      rw (sym (by_kind form s 0 (size_in s) refl (omega arith) (omega arith) (kind_in s) refl)) (why_kind _ refl _ refl _ refl)

-- what each record in front says of the bytes
abbrev pub RecordSays : List ℕ → Record → Type 0
RecordSays s Lost = Whole s → ⊥
RecordSays s (Faulty fault kind size) = Whole s × ((kind ≡ kind_in s) × ((size ≡ length_size + size_in s) × FaultIs s fault))
RecordSays s (RowThere form id mark received sent size) = GoodRow form s id mark received sent size
RecordSays s (CloseThere n) = GoodClose s n

module _ (s : List ℕ) (h : Bytes s) where
  whole_says : Whole s → (x : Front) → FrontGood (form_in s) s x → Why (form_in s) s x → RecordSays s (record_by (form_in s) s x)
  whole_says w Broken g y = (w, (refl, (refl, y)))
  whole_says w (RowFront id mark received sent size) g y = g
  whole_says w (CloseFront n) g y = g

  pub record_says : RecordSays s (record_in s)
  unfolding record_in
  record_says = on (ltb (length s) body_at) refl (ltb (size_in s) kind_size) refl (ltb (length s - length_size) (size_in s)) refl
    where
      on : (t : Bool) → ltb (length s) body_at ≡ t → (u : Bool) → ltb (size_in s) kind_size ≡ u → (v : Bool) → ltb (length s - length_size) (size_in s) ≡ v
          → RecordSays s (cond t Lost (cond u Lost (cond v Lost (record_by (form_in s) s (front_of (form_in s) s)))))
      on true p u q v r = λ w. omega (arith, ltb-true (length s) body_at p, w.body)
      on false p true q v r = λ w. omega (arith, ltb-true (size_in s) kind_size q, w.kind)
      on false p false q true r = λ w. omega (arith, ltb-true (length s - length_size) (size_in s) r, w.within)
      on false p false q false r =
          let w : Whole s =
          record {
            body = ltb-false _ _ p;
            kind = ltb-false _ _ q;
            within = let l = ltb-false (length s - length_size) (size_in s) r in let b = ltb-false (length s) body_at p in omega arith;
          } in
          whole_says w (front_of (form_in s) s) (front_good (form_in s) s h) (why_broken (form_in s) s refl w)

-- a row's record, and a close, in front are read as what they are
pub record_of_row : (form : CardForm) (r : Row) (t : List ℕ) → RowFits form r
    → record_in (row_record form r ++ t) ≡ RowThere form r.id r.mark r.received r.sent (length r.key)
record_of_row form r t f =
    let s = row_record form r ++ t in
    let q = row_read form r t f in
    let l = q.long in
    let k = f.key_from in
    let part : form ≡ form_in (take (length s - 0) s) =
    form_kind s (omega arith) form q.kind ∙ ap form_in (sym (take_all (length s - 0) s (omega arith))) in
    sym (record_row s 0 (key_at form - length_size + length r.key) (sym q.size) (omega arith) (omega arith) (omega arith) form part
    r.id r.mark r.received r.sent (length r.key) (sym (front_of_row form r t f)))

pub record_of_close : (n : ℕ) (t : List ℕ) → n < 256 ^ count_size → record_in (close n ++ t) ≡ CloseThere n
record_of_close n t h =
    let s = close n ++ t in
    let l : length s ≡ close_size + length t = length-append (close n) t ∙ ap (λ (x : ℕ). x + length t) (close_size_lem n) in
    let size = (number_of s 0 length_size (close_size - length_size) _ (close_fields_lem n t) (omega arith)).0 in
    let form = form_in (take (length s - 0) s) in
    sym (record_close s 0 (close_size - length_size) (sym size) (omega arith) (omega arith) (omega arith) form refl n (sym (front_of_close form n t h)))
