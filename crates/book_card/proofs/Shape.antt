-- The records of a card by their fields: a row's or a close's record is read as what it is, and what is read as one is one.
use mathlib.Core.Path.{◌≡◌, refl, sym, ap, ◌∙◌}
use mathlib.Core.Bool.{Bool, true, false, cond}
use mathlib.Core.List.{List, [], ◌∷◌, ◌++◌, append_assoc}
use Prim.Native.Nat.{ℕ, ◌+◌, ◌-◌, ◌^◌, ◌≤◌, ◌<◌}
use native.Mathlib.Nat.{zero-add, add-sub_cancel_left}
use native.Mathlib.Omega.{arith}
use borrow.Author.Tests.{eqb-true, ltb-true, ltb-false}
use lib.Dec.{ltb, eqb}
use lib.ListN.{length, take, drop, length-append, length-drop, take-append-drop}
use lib.Seq.{take_at, drop_at, drop-drop, length-take-le}
use Rattle.octets.specs.Bytes.{Bytes}
use Rattle.octets.specs.Numbers.{le, little_at}
use Rattle.octets.proofs.Elements.{bytes_take, bytes_drop}
use Rattle.octets.proofs.LowFirst.{le_length, number_of, number_split, number_fits}
use Rattle.key_book.specs.Limits.{slot_size}
use Rattle.key_book.specs.Book.{mark_fits}
use Rattle.key_book.proofs.Says.{mark_fits_says}
use Rattle.book_card.specs.declared.CardForm.{CardForm}
use Rattle.book_card.specs.Layout.{length_size, kind_size, id_size, mark_size, counter_size, count_size, row_kind, close_kind}
use Rattle.book_card.specs.Layout.{kind_at, body_at, received_at, sent_at, key_at, close_size}
use Rattle.book_card.specs.Card.{Row, record_of, row_record, close, row_records, card_of, RowFits}
use Rattle.book_card.specs.Reader.{mark_in, row_by, front_by, front_of, row_front}
use Rattle.book_card.specs.declared.Front.{Front}
use Rattle.book_card.specs.declared.Front.TheVariants.{Broken, Row as RowFront, Close}
use Rattle.book_card.proofs.Forms.{mark_small, kind_fits, mark_byte, mark_of, mark_split, mark_held}
use Rattle.book_card.proofs.Fronts.{front_short, front_cut, by_kind, front_close, front_row, row_there}

-- ---- the records, field by field, with bytes after them

abbrev pub row_fields : CardForm → Row → List ℕ → List ℕ
row_fields form r t =
    le length_size (key_at form - length_size + length r.key)
    ++ (le kind_size (row_kind form)
    ++ (le id_size r.id ++ (le (mark_size form) r.mark ++ (le counter_size r.received ++ (le counter_size r.sent ++ (r.key ++ t))))))

abbrev pub close_fields : ℕ → List ℕ → List ℕ
close_fields n t = le length_size (close_size - length_size) ++ (le kind_size close_kind ++ (le count_size n ++ t))

module _ (form : CardForm) (r : Row) where
  pub row_fields_lem : (t : List ℕ) → row_record form r ++ t ≡ row_fields form r t
  unfolding row_record record_of
  row_fields_lem t =
      let body = le id_size r.id ++ (le (mark_size form) r.mark ++ (le counter_size r.received ++ (le counter_size r.sent ++ r.key))) in
      let e : kind_size + length body ≡ key_at form - length_size + length r.key = simp (length-append, le_length) (omega arith) in
      ap (λ (n : ℕ). (le length_size n ++ (le kind_size (row_kind form) ++ body)) ++ t) e ∙ simp append_assoc

  pub row_size : length (row_record form r) ≡ key_at form + length r.key
  unfolding row_record record_of
  row_size = simp (length-append, le_length) (omega arith)

module _ (n : ℕ) where
  pub close_fields_lem : (t : List ℕ) → close n ++ t ≡ close_fields n t
  unfolding close record_of
  close_fields_lem t =
      let e : kind_size + length (le count_size n) ≡ close_size - length_size = ap (λ (x : ℕ). kind_size + x) (le_length count_size n) in
      ap (λ (x : ℕ). (le length_size x ++ (le kind_size close_kind ++ le count_size n)) ++ t) e ∙ simp append_assoc

  pub close_size_lem : length (close n) ≡ close_size
  unfolding close record_of
  close_size_lem = simp (length-append, le_length) (omega arith)

-- rows' records one after another, with bytes after them, and the card
module _ (form : CardForm) where
  pub records_cons : (r : Row) (rows : List Row) (t : List ℕ) → row_records form (r ∷ rows) ++ t ≡ row_record form r ++ (row_records form rows ++ t)
  unfolding row_records
  records_cons r rows t = append_assoc (row_record form r) (row_records form rows) t

  pub records_none : (t : List ℕ) → row_records form [] ++ t ≡ t
  unfolding row_records
  records_none t = refl

  pub card_is : (rows : List Row) → card_of form rows ≡ row_records form rows ++ close (length rows)
  unfolding card_of
  card_is rows = refl

-- ---- a record in front is read as what it is

-- what the fields read where a row's record stands in front, with t after it
pub record RowRead (form : CardForm) (s : List ℕ) (r : Row) (t : List ℕ) : Type 0 where
  pub long : key_at form + length r.key ≤ length s
  pub size : little_at s 0 length_size ≡ key_at form - length_size + length r.key
  pub kind : little_at s kind_at kind_size ≡ row_kind form
  pub id : little_at s body_at id_size ≡ r.id
  pub mark : mark_in form s ≡ r.mark
  pub received : little_at s (received_at form) counter_size ≡ r.received
  pub sent : little_at s (sent_at form) counter_size ≡ r.sent
  pub key : take (length r.key) (drop (key_at form) s) ≡ r.key
  pub rest : drop (key_at form + length r.key) s ≡ t

module _ (form : CardForm) (r : Row) (t : List ℕ) (f : RowFits form r) where
  pub row_read : RowRead form (row_record form r ++ t) r t
  row_read =
      let s = row_record form r ++ t in
      let k = f.key_to in
      let w = mark_small form in
      let f₁ = number_of s 0 length_size (key_at form - length_size + length r.key) _ (row_fields_lem form r t) (omega arith) in
      let f₂ = number_of s kind_at kind_size (row_kind form) _ f₁.1 (kind_fits form) in
      let f₃ = number_of s body_at id_size r.id _ f₂.1 f.id_fits in
      let f₄ = mark_of form s r.mark _ f₃.1 (mark_byte r.mark r.received f.mark_fits_lem) f.mark_held in
      let f₅ = number_of s (received_at form) counter_size r.received _ f₄.1 f.received_fits in
      let f₆ = number_of s (sent_at form) counter_size r.sent _ f₅.1 f.sent_fits in
      record {
        long = rw (length-append (row_record form r) t, row_size form r) (omega arith);
        size = f₁.0;
        kind = f₂.0;
        id = f₃.0;
        mark = f₄.0;
        received = f₅.0;
        sent = f₆.0;
        key = ap (take (length r.key)) f₆.1 ∙ take_at r.key t (length r.key) refl;
        rest = drop_at (row_record form r) t (key_at form + length r.key) (row_size form r);
      }

  pub front_of_row : front_of form (row_record form r ++ t) ≡ RowFront r.id r.mark r.received r.sent (length r.key)
  front_of_row =
      let s = row_record form r ++ t in
      let q = row_read in
      let l = q.long in
      let from = f.key_from in
      let to = f.key_to in
      let size = key_at form - length_size + length r.key in
      let is = (mark_fits_says r.mark r.received).1 f.mark_fits_lem in
      sym (front_row form s 0 size (sym q.size) (omega arith) (omega arith) (row_kind form) (sym q.kind) refl _
      (row_there form s 0 size (omega arith) (omega arith) r.mark r.received (received_at form) (sym q.mark) (sym (zero-add _)) (sym q.received)
      true (sym is) refl
      r.id (sym q.id) r.sent (sent_at form) (sym (zero-add _)) (sym q.sent) _ refl))
      ∙ ap (RowFront r.id r.mark r.received r.sent) (add-sub_cancel_left (key_at form - length_size) (length r.key))

  pub row_of_front : row_front form (row_record form r ++ t) r.id r.mark r.received r.sent (length r.key) ≡ r
  row_of_front = let q = row_read.key in λ i. record { id = r.id; mark = r.mark; received = r.received; sent = r.sent; key = q i }

pub front_of_close : (form : CardForm) (n : ℕ) (t : List ℕ) → n < 256 ^ count_size → front_of form (close n ++ t) ≡ Close n
front_of_close form n t h =
    let s = close n ++ t in
    let l : length s ≡ close_size + length t = length-append (close n) t ∙ ap (λ (x : ℕ). x + length t) (close_size_lem n) in
    let f₁ = number_of s 0 length_size (close_size - length_size) _ (close_fields_lem n t) (omega arith) in
    let f₂ = number_of s kind_at kind_size close_kind _ f₁.1 (omega arith) in
    let f₃ = number_of s body_at count_size n _ f₂.1 h in
    sym (front_close form s 0 (close_size - length_size) (sym f₁.0) (omega arith) (omega arith) close_kind (sym f₂.0) refl refl n (sym f₃.0))

-- ---- what is read as a record is one

-- a row: its fields fit, and its record is in front
pub record GoodRow (form : CardForm) (s : List ℕ) (id mark received sent size : ℕ) : Type 0 where
  pub long : key_at form + size ≤ length s
  pub fits : RowFits form (row_front form s id mark received sent size)
  pub bytes : s ≡ row_record form (row_front form s id mark received sent size) ++ drop (key_at form + size) s

pub record GoodClose (s : List ℕ) (n : ℕ) : Type 0 where
  pub bytes : s ≡ close n ++ drop close_size s

abbrev pub FrontGood : CardForm → List ℕ → Front → Type 0
FrontGood form s Broken = Unit {0}
FrontGood form s (RowFront id mark received sent size) = GoodRow form s id mark received sent size
FrontGood form s (Close n) = GoodClose s n

-- what the first two fields say
abbrev size_in : List ℕ → ℕ
size_in s = little_at s 0 length_size

abbrev kind_in : List ℕ → ℕ
kind_in s = little_at s kind_at kind_size

module _ (form : CardForm) (s : List ℕ) (h : Bytes s) (h₀ : body_at ≤ length s) (h₁ : size_in s ≤ length s - length_size) where
  -- the bytes from a field on, by its number and what follows it
  field : (at width : ℕ) → at + width ≤ length s → (x : ℕ) (t : List ℕ) → little_at s at width ≡ x → drop (at + width) s ≡ t → drop at s ≡ le width x ++ t
  field at width fits = number_split s h at width fits

  good_close : kind_in s ≡ close_kind → size_in s ≡ close_size - length_size → GoodClose s (little_at s body_at count_size)
  good_close k z =
      record {
        bytes = field 0 length_size (omega arith) _ _ z
            (field kind_at kind_size (omega arith) _ _ k (field body_at count_size (omega arith) _ _ refl refl))
            ∙ sym (close_fields_lem _ (drop close_size s));
      }

  abbrev its : Front → Type 0
  its x = FrontGood form s x

  good_row : kind_in s ≡ row_kind form → key_at form - length_size + 1 ≤ size_in s → size_in s ≤ key_at form - length_size + slot_size
      → mark_fits (mark_in form s) (little_at s (received_at form) counter_size) ≡ true
      → GoodRow form s (little_at s body_at id_size) (mark_in form s) (little_at s (received_at form) counter_size) (little_at s (sent_at form) counter_size)
      (size_in s - (key_at form - length_size))
  good_row k from to m =
      let n = size_in s - (key_at form - length_size) in
      let r = row_front form s (little_at s body_at id_size) (mark_in form s)
      (little_at s (received_at form) counter_size) (little_at s (sent_at form) counter_size) n in
      let long : key_at form + n ≤ length s = omega arith in
      let kl : length r.key ≡ n = length-take-le n (drop (key_at form) s) (rw length-drop (omega arith)) in
      let z : size_in s ≡ key_at form - length_size + length r.key = omega arith in
      let key : drop (key_at form) s ≡ r.key ++ drop (key_at form + n) s =
      sym (take-append-drop n (drop (key_at form) s)) ∙ ap (λ (x : List ℕ). r.key ++ x) (drop-drop n (key_at form) s) in
      record {
        long = long;
        fits = record {
          id_fits = number_fits s h body_at id_size (omega arith);
          mark_fits_lem = (mark_fits_says _ _).0 m;
          mark_held = mark_held form s;
          received_fits = number_fits s h (received_at form) counter_size (omega arith);
          sent_fits = number_fits s h (sent_at form) counter_size (omega arith);
          key_from = rw kl (omega arith);
          key_to = rw kl (omega arith);
          key_bytes_lem = bytes_take n (drop (key_at form) s) (bytes_drop (key_at form) s h);
        };
        bytes = field 0 length_size (omega arith) _ _ z
            (field kind_at kind_size (omega arith) _ _ k
            (field body_at id_size (omega arith) _ _ refl
            (mark_split form s h (omega arith) _
            (field (received_at form) counter_size (omega arith) _ _ refl (field (sent_at form) counter_size (omega arith) _ _ refl key)))))
            ∙ sym (row_fields_lem form r (drop (key_at form + n) s));
      }

  good_by : kind_in s ≡ row_kind form → (t : Bool) → ltb (size_in s) (key_at form - length_size + 1) ≡ t
      → (u : Bool) → ltb (key_at form - length_size + slot_size) (size_in s) ≡ u
      → (v : Bool) → mark_fits (mark_in form s) (little_at s (received_at form) counter_size) ≡ v
      → its (cond t Broken
      (cond u Broken
      (cond v
      (RowFront (little_at s body_at id_size) (mark_in form s) (little_at s (received_at form) counter_size) (little_at s (sent_at form) counter_size)
      (size_in s - (key_at form - length_size)))
      Broken)))
  good_by k true p u q v r = tt
  good_by k false p true q v r = tt
  good_by k false p false q false r = tt
  good_by k false p false q true r = good_row k (ltb-false _ _ p) (ltb-false _ _ q) r

  good_kind : (t : Bool) → eqb (kind_in s) close_kind ≡ t → (u : Bool) → eqb (size_in s) (close_size - length_size) ≡ u
      → (v : Bool) → eqb (kind_in s) (row_kind form) ≡ v
      → its (cond t (cond u (Close (little_at s body_at count_size)) Broken) (cond v (row_by form s (size_in s)) Broken))
  good_kind true p true q v r = good_close (eqb-true _ _ p) (eqb-true _ _ q)
  good_kind true p false q v r = tt
  good_kind false p u q true r = good_by (eqb-true _ _ r) _ refl _ refl _ refl
  good_kind false p u q false r = tt

  good_by_kind : FrontGood form s (front_by form s (size_in s) (kind_in s))
  good_by_kind = good_kind _ refl _ refl _ refl

pub front_good : (form : CardForm) (s : List ℕ) → Bytes s → FrontGood form s (front_of form s)
front_good form s h = on (ltb (length s) body_at) refl (ltb (length s - length_size) (size_in s)) refl
  where
    on : (t : Bool) → ltb (length s) body_at ≡ t → (u : Bool) → ltb (length s - length_size) (size_in s) ≡ u → FrontGood form s (front_of form s)
    on true p u q = let l = ltb-true (length s) body_at p in rw (sym (front_short form s 0 (omega arith))) tt
    on false p true q =
        let l = ltb-false (length s) body_at p in
        let m = ltb-true (length s - length_size) (size_in s) q in
        rw (sym (front_cut form s 0 _ refl (omega arith) (omega arith))) tt
    on false p false q =
        let l = ltb-false (length s) body_at p in
        let m = ltb-false (length s - length_size) (size_in s) q in
        rw (sym (by_kind form s 0 _ refl (omega arith) (omega arith) _ refl)) (good_by_kind form s h l m)
