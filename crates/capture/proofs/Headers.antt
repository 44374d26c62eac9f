-- The headers of a file and of a record: `number_at`, `is_ethernet`, `file_header_of` and `record_header_of`, a law for each end of each, and what they say.
-- The only law file that unfolds these four.
use Prim.Native.Nat.{ℕ, ◌+◌, ◌≤◌, ◌<◌}
use mathlib.Core.Path.{◌≡◌, refl, sym, ap, ◌∙◌, subst}
use mathlib.Core.Logic.{◌≢◌, ◌⊎◌, inl, inr}
use mathlib.Core.Bool.{Bool, true, false, cond}
use mathlib.Core.List.{List, ◌++◌}
use native.Mathlib.Omega.{arith}
use borrow.Author.Tests.{eqb-true, eq-eqb, ne_eqb, ltb-true, ltb-false, lt-ltb, le-ltb}
use lib.Dec.{ltb, eqb}
use lib.ListN.{length, drop, length-append}
use Rattle.octets.specs.Bytes.{Bytes}
use Rattle.octets.specs.Numbers.{le, little_at, big_at}
use Rattle.octets.proofs.Starts.{and_true}
use Rattle.octets.proofs.LowFirst.{number_append, number_split}
use Rattle.octets.proofs.HighFirst.{big_append}
use Rattle.capture.specs.Layout.{file_header_size, number_size, magic_at, magic, link_type_at, ethernet, record_header_size, captured_at, original_at}
use Rattle.capture.specs.Layout.{frame_most}
use Rattle.capture.specs.declared.Order.{Order}
use Rattle.capture.specs.declared.Order.TheVariants.{LowFirst, HighFirst}
use Rattle.capture.specs.Records.{number_at, is_ethernet, file_header_of, record_header_of}
use Rattle.capture.specs.Laws.{IsCapture, HeaderSays, IsRecord, RecordHeaderSays}
use Rattle.std.specs.Prelude.{None, Option, Some}
use Rattle.capture.specs.declared.RecordHeader.{RecordHeader}
use Rattle.capture.specs.Records.{header_with}

-- ---- a number

module _ (s : List ℕ) (at : ℕ) where
  pub number_low : little_at s at number_size ≡ number_at LowFirst s at
  unfolding number_at
  number_low = refl

  pub number_high : big_at s at number_size ≡ number_at HighFirst s at
  unfolding number_at
  number_high = refl

-- what stands behind the number does not matter
pub number_in_front : (order : Order) (p q : List ℕ) (at : ℕ) → at + number_size ≤ length p → number_at order (p ++ q) at ≡ number_at order p at
unfolding number_at
number_in_front LowFirst p q at h = number_append p q at number_size h
number_in_front HighFirst p q at h = big_append p q at number_size h

-- ---- the file's header, in one order

module _ (order : Order) (s : List ℕ) where
  module _ (x : ℕ) (e : x ≡ number_at order s magic_at) where
    pub other_magic : x ≢ magic → false ≡ is_ethernet order s
    unfolding is_ethernet
    other_magic h = rw (sym e, ne_eqb x magic h)

    pub by_link_type : x ≡ magic → (y : ℕ) → y ≡ number_at order s link_type_at → eqb y ethernet ≡ is_ethernet order s
    unfolding is_ethernet
    by_link_type h y f = rw (sym e, eq-eqb x magic h, sym f)

  -- the test is true where both words are right, and only there
  pub ethernet_yes : number_at order s magic_at ≡ magic → number_at order s link_type_at ≡ ethernet → is_ethernet order s ≡ true
  ethernet_yes m l = sym (by_link_type _ refl m _ refl) ∙ eq-eqb _ ethernet l

  pub ethernet_says : is_ethernet order s ≡ true → (number_at order s magic_at ≡ magic) × (number_at order s link_type_at ≡ ethernet)
  unfolding is_ethernet
  ethernet_says t = let b = and_true _ _ t in (eqb-true _ magic b.0, eqb-true _ ethernet b.1)

-- ---- the file's header

module _ (s : List ℕ) where
  pub header_short : length s < file_header_size → None ≡ file_header_of s
  unfolding file_header_of
  header_short h = rw (lt-ltb _ file_header_size h)

  module _ (h : file_header_size ≤ length s) where
    pub header_low : is_ethernet LowFirst s ≡ true → Some LowFirst ≡ file_header_of s
    unfolding file_header_of
    header_low l = rw (le-ltb _ file_header_size h, l)

    module _ (l : is_ethernet LowFirst s ≡ false) where
      pub header_high : is_ethernet HighFirst s ≡ true → Some HighFirst ≡ file_header_of s
      unfolding file_header_of
      header_high k = rw (le-ltb _ file_header_size h, l, k)

      pub header_neither : is_ethernet HighFirst s ≡ false → None ≡ file_header_of s
      unfolding file_header_of
      header_neither k = rw (le-ltb _ file_header_size h, l, k)

-- what stands behind the header does not matter
pub header_in_front : (p q : List ℕ) → file_header_size ≤ length p → file_header_of (p ++ q) ≡ file_header_of p
unfolding file_header_of is_ethernet
header_in_front p q h =
    let n = length-append p q in
    let k = le-ltb (length (p ++ q)) file_header_size (omega arith) in
    let i = le-ltb (length p) file_header_size h in
    let a = number_in_front LowFirst p q magic_at (omega arith) in
    let b = number_in_front LowFirst p q link_type_at (omega arith) in
    let c = number_in_front HighFirst p q magic_at (omega arith) in
    let d = number_in_front HighFirst p q link_type_at (omega arith) in
    rw (k, i, a, b, c, d)

-- ---- a record's header

module _ (order : Order) (s : List ℕ) where
  pub record_short : length s < record_header_size → None ≡ record_header_of order s
  unfolding record_header_of
  record_short h = rw (lt-ltb _ record_header_size h)

  module _ (h : record_header_size ≤ length s) (captured : ℕ) (e : captured ≡ number_at order s captured_at) where
    pub record_too_long : frame_most < captured → None ≡ record_header_of order s
    unfolding record_header_of
    record_too_long l = rw (le-ltb _ record_header_size h, sym e, lt-ltb frame_most captured l)

    pub record_frame : captured ≤ frame_most → (original : ℕ) → original ≡ number_at order s original_at
        → header_with captured original ≡ record_header_of order s
    unfolding record_header_of
    record_frame l original f = rw (le-ltb _ record_header_size h, sym e, le-ltb frame_most captured l, sym f)

-- ---- what the file's header says

-- bytes that are the magic number in one order are another number in the other
one_order : (s : List ℕ) → Bytes s → number_size ≤ length s → number_at LowFirst s magic_at ≡ magic → number_at HighFirst s magic_at ≢ magic
unfolding number_at le big_at
one_order s b h l k =
    let e : s ≡ le number_size magic ++ drop number_size s = number_split s b magic_at number_size (omega arith) magic (drop number_size s) l refl in
    let z : big_at s magic_at number_size ≡ 0xd4c3_b2a1 = ap (λ (x : List ℕ). big_at x magic_at number_size) e in
    omega arith

module _ (s : List ℕ) (b : Bytes s) where
  not_low : file_header_size ≤ length s → number_at HighFirst s magic_at ≡ magic → is_ethernet LowFirst s ≡ false
  not_low h k = by (is_ethernet LowFirst s) refl
    where
      by : (t : Bool) → is_ethernet LowFirst s ≡ t → is_ethernet LowFirst s ≡ false
      by true e = absurd (one_order s b (omega arith) (ethernet_says LowFirst s e).0 k)
      by false e = e

  capture_read : (order : Order) → IsCapture order s → file_header_of s ≡ Some order
  capture_read LowFirst c = sym (header_low s c.header_there (ethernet_yes LowFirst s c.first_word c.link_type))
  capture_read HighFirst c =
      sym (header_high s c.header_there (not_low c.header_there c.first_word) (ethernet_yes HighFirst s c.first_word c.link_type))

module _ (s : List ℕ) where
  -- what an answer says of the bytes
  abbrev Told : Option Order → Type 0
  Told None = Unit {0}
  Told (Some order) = IsCapture order s

  told : Told (file_header_of s)
  unfolding file_header_of
  told = by (ltb (length s) file_header_size) (is_ethernet LowFirst s) (is_ethernet HighFirst s) refl refl refl
    where
      is_capture : (order : Order) → ltb (length s) file_header_size ≡ false → is_ethernet order s ≡ true → IsCapture order s
      is_capture order h t =
          let w = ethernet_says order s t in
          record { header_there = ltb-false _ file_header_size h; first_word = w.0; link_type = w.1 }

      by : (t u v : Bool) → ltb (length s) file_header_size ≡ t → is_ethernet LowFirst s ≡ u → is_ethernet HighFirst s ≡ v
          → Told (cond t None (cond u (Some LowFirst) (cond v (Some HighFirst) None)))
      by true u v ht hu hv = tt
      by false true v ht hu hv = is_capture LowFirst ht hu
      by false false true ht hu hv = is_capture HighFirst ht hv
      by false false false ht hu hv = tt

pub header_says : HeaderSays
header_says s b order = (λ e. subst (Told s) e (told s), capture_read s b order)

-- ---- what a record's header says

module _ (order : Order) (s : List ℕ) where
  abbrev RecordTold : Option RecordHeader → Type 0
  RecordTold None = (length s < record_header_size) ⊎ (frame_most < number_at order s captured_at)
  RecordTold (Some a) = IsRecord order s a.captured a.original

  record_told : RecordTold (record_header_of order s)
  unfolding record_header_of
  record_told = by (ltb (length s) record_header_size) (ltb frame_most (number_at order s captured_at)) refl refl
    where
      by : (t u : Bool) → ltb (length s) record_header_size ≡ t → ltb frame_most (number_at order s captured_at) ≡ u
          → RecordTold (cond t None (cond u None (header_with (number_at order s captured_at) (number_at order s original_at))))
      by true u ht hu = inl (ltb-true _ record_header_size ht)
      by false true ht hu = inr (ltb-true frame_most _ hu)
      by false false ht hu =
          record {
            header_there = ltb-false _ record_header_size ht;
            captured_length = refl;
            captured_most = ltb-false frame_most _ hu;
            original_length = refl;
          }

  record_read : {captured original : ℕ} → IsRecord order s captured original → record_header_of order s ≡ header_with captured original
  record_read r = sym (record_frame order s r.header_there _ (sym r.captured_length) r.captured_most _ (sym r.original_length))

  cut_read : (length s < record_header_size) ⊎ (frame_most < number_at order s captured_at) → record_header_of order s ≡ None
  cut_read (inl h) = sym (record_short order s h)
  cut_read (inr h) = by (record_header_of order s) refl record_told
    where
      by : (r : Option RecordHeader) → record_header_of order s ≡ r → RecordTold r → record_header_of order s ≡ None
      by None e t = e
      by (Some a) e t = absurd (let l = t.captured_length in let m = t.captured_most in omega arith)

pub record_header_says : RecordHeaderSays
record_header_says = record {
  record_there = λ order s captured original. (λ e. subst (RecordTold order s) e (record_told order s), record_read order s);
  cut_there = λ order s. (λ e. subst (RecordTold order s) e (record_told order s), cut_read order s);
}
