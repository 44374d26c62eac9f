-- The whole of a comparison: its lines from their pieces, and the ends of the entry. The laws of `text_for`, `compare_of` and `room_compared`.
use mathlib.Core.Path.{◌≡◌, refl, sym, ap, ap₂, ◌∙◌, subst}
use mathlib.Core.Bool.{Bool, true, false, cond}
use Prim.Native.Nat.{ℕ, ◌+◌, ◌≤◌, ◌<◌}
use native.Mathlib.Omega.{arith}
use mathlib.Core.List.{List, [], ◌++◌, append_assoc}
use lib.ListN.{length, take, length-append}
use lib.Dec.{leb}
use borrow.Author.Tests.{le-leb, lt-leb, leb-true, leb-false}
use Rattle.refusal.specs.declared.Refusal.{Refusal}
use Rattle.refusal.specs.declared.Refusal.TheVariants.{NoRoomForReport}
use Rattle.octets.specs.Bytes.{written}
use Rattle.verdict_line.specs.Line.{PutAt}
use Rattle.verdict_line.proofs.Places.{put_next}
use Rattle.verdict_line.proofs.Lines.{made_take}
use Rattle.dhcp_message.specs.Options.{Token}
use Rattle.dhcp_message.specs.Message.{Checked, stopped, passed, checked_of, Passed as PassedChecks, Passes27}
use Rattle.dhcp_message.specs.Shape.{shape_in, shape_of}
use Rattle.dhcp_message.specs.declared.Places.{Places}
use Rattle.dhcp_message.proofs.Passing.{shape_in_lem, checks}
use Rattle.comparison.specs.declared.Side.TheVariants.{First, Second}
use Rattle.comparison.specs.Fields.{fields}
use Rattle.comparison.specs.Difference.{parts_of, fields_differing, options_differing, layout_differing, differences_of, relay_only}
use Rattle.comparison.specs.Difference.{last_line, lines_of, text_of}
use Rattle.comparison.specs.Entry.{text_for, compared_by, compare_of, room_by, room_compared}
use Rattle.comparison.proofs.Reading.{header_parts, passing_parts, shape_passes}
use Rattle.comparison.proofs.OptionLines.{lines_append}
use Rattle.std.specs.Prelude.{Err, Ok, Result, ℕ}

-- ---- the lines from their pieces

module _ (first second : List ℕ) where
  abbrev pub field_lines : List ℕ
  field_lines = lines_of (fields_differing fields (take 240 first) (take 240 second))

  abbrev pub first_lines : List ℕ
  first_lines = lines_of (options_differing First [] (parts_of first).tokens (parts_of second).tokens)

  abbrev pub second_lines : List ℕ
  second_lines = lines_of (options_differing Second [] (parts_of second).tokens (parts_of first).tokens)

  abbrev pub layout_lines : List ℕ
  layout_lines = lines_of (layout_differing (parts_of first) (parts_of second))

  abbrev pub last : List ℕ
  last = last_line (relay_only (parts_of first) (parts_of second))

  module _ (h : Passes27 first) (k : Passes27 second) where
    text_is : text_for first second ≡ (((field_lines ++ first_lines) ++ second_lines) ++ layout_lines) ++ last
    unfolding text_for text_of differences_of
    text_is =
        let headers =
        ap₂ (λ (x y : List ℕ). lines_of (fields_differing fields x y)) (header_parts first h) (header_parts second k) in
        ap (λ (x : List ℕ). x ++ last)
        (lines_append _ _ ∙ ap₂ (λ (x y : List ℕ). x ++ y) headers (lines_append _ _ ∙ ap (λ (x : List ℕ). first_lines ++ x) (lines_append _ _))
        ∙ sym (append_assoc field_lines first_lines (second_lines ++ layout_lines))
        ∙ sym (append_assoc (field_lines ++ first_lines) second_lines layout_lines))

    pub text_length : length (text_for first second) ≡ length field_lines + length first_lines + length second_lines + length layout_lines + length last
    text_length = ap length text_is ∙ simp length-append (omega arith)

    pub text_put : {out o₁ o₂ o₃ o₄ o₅ : List ℕ} {p₁ p₂ p₃ p₄ p₅ : ℕ} → length (text_for first second) ≤ length out
        → PutAt out 0 field_lines o₁ p₁ → PutAt o₁ p₁ first_lines o₂ p₂ → PutAt o₂ p₂ second_lines o₃ p₃ → PutAt o₃ p₃ layout_lines o₄ p₄
        → PutAt o₄ p₄ last o₅ p₅ → PutAt out 0 (text_for first second) o₅ p₅
    text_put room s₁ s₂ s₃ s₄ s₅ =
        let l = text_length in
        let t₂ = put_next (omega arith) s₁ s₂ in
        let t₃ = put_next (simp length-append (omega arith)) t₂ s₃ in
        let t₄ = put_next (simp length-append (omega arith)) t₃ s₄ in
        rw text_is (put_next (simp length-append (omega arith)) t₄ s₅)

-- ---- the entry's answers, each way

-- a refusal of checks 2 to 7, and none
stopped_as : (m : List ℕ) {r : Refusal} → shape_of m ≡ Err r → checked_of m ≡ stopped r
stopped_as m {r} e = by (checked_of m) refl (sym (shape_in_lem m) ∙ e)
  where
    by : (c : Checked) → checked_of m ≡ c → shape_in c ≡ Err r → checked_of m ≡ stopped r
    by (stopped q) k f = let z : q ≡ r = cc in k ∙ ap stopped z
    by (passed ts rest) k f = absurd (cc)

passed_as : (m : List ℕ) → Passes27 m → checked_of m ≡ passed (parts_of m).tokens (parts_of m).rest
passed_as m h = checks m (passing_parts m h)

passes_as : (m : List ℕ) (ts : List Token) (rest : List ℕ) → checked_of m ≡ passed ts rest → Passes27 m
passes_as m ts rest e = subst PassedChecks (sym e) tt

-- which end an answer is
pub data CompareCase (first second : List ℕ) (room : ℕ) : Result ℕ Refusal → Type 0 where
  in_first : (r : Refusal) → shape_of first ≡ Err r → CompareCase first second room (Err r)
  in_second : (r : Refusal) → Passes27 first → shape_of second ≡ Err r → CompareCase first second room (Err r)
  in_room : Passes27 first → Passes27 second → room < length (text_for first second) → CompareCase first second room (Err NoRoomForReport)
  all_written : Passes27 first → Passes27 second → length (text_for first second) ≤ room
      → CompareCase first second room (Ok (length (text_for first second)))

module _ (first second : List ℕ) (room : ℕ) where
  abbrev size : ℕ
  size = length (text_for first second)

  pub answer_first : {r : Refusal} → shape_of first ≡ Err r → Err r ≡ compare_of first second room
  unfolding compare_of
  answer_first e = rw (stopped_as first e)

  pub answer_second : {r : Refusal} → Passes27 first → shape_of second ≡ Err r → Err r ≡ compare_of first second room
  unfolding compare_of
  answer_second h e = rw (passed_as first h, stopped_as second e)

  module _ (h : Passes27 first) (k : Passes27 second) where
    pub answer_room : room < size → Err NoRoomForReport ≡ compare_of first second room
    unfolding compare_of
    answer_room l = rw (passed_as first h, passed_as second k, lt-leb size room l)

    pub answer_lines : size ≤ room → Ok size ≡ compare_of first second room
    unfolding compare_of
    answer_lines l = rw (passed_as first h, passed_as second k, le-leb size room l)

  pub compare_case : CompareCase first second room (compare_of first second room)
  unfolding compare_of
  compare_case = by (checked_of first) (checked_of second) refl refl
    where
      by_room : Passes27 first → Passes27 second → (x : Bool) → leb size room ≡ x → CompareCase first second room (cond x (Ok size) (Err NoRoomForReport))
      by_room h k true e = all_written h k (leb-true size room e)
      by_room h k false e = in_room h k (leb-false size room e)

      by : (c d : Checked) → checked_of first ≡ c → checked_of second ≡ d → CompareCase first second room (compared_by size room c d)
      by (stopped r) d ec ed = in_first r (shape_in_lem first ∙ ap shape_in ec)
      by (passed ts rest) (stopped r) ec ed = in_second r (passes_as first ts rest ec) (shape_in_lem second ∙ ap shape_in ed)
      by (passed ts rest) (passed us more) ec ed = by_room (passes_as first ts rest ec) (passes_as second us more ed) (leb size room) refl

  -- a size that is answered is that of the lines, which fit
  pub size_is : {n : ℕ} → compare_of first second room ≡ Ok n → (n ≡ size) × (size ≤ room)
  size_is {n} e = by (compare_of first second room) compare_case e
    where
      by : (c : Result ℕ Refusal) → CompareCase first second room c → c ≡ Ok n → (n ≡ size) × (size ≤ room)
      by c (in_first r h) f = absurd (cc)
      by c (in_second r h k) f = absurd (cc)
      by c (in_room h k l) f = absurd (cc)
      by c (all_written h k l) f = (cc, l)

-- ---- what an answer leaves

abbrev pub Answers : List ℕ → List ℕ → List ℕ → Result ℕ Refusal → List ℕ → Type 0
Answers first second out r new = (r ≡ compare_of first second (length out)) × (new ≡ room_compared first second out)

module _ (first second out : List ℕ) where
  pub room_by_lem : {r : Result ℕ Refusal} → r ≡ compare_of first second (length out) → room_by (text_for first second) out r ≡ room_compared first second out
  unfolding room_compared
  room_by_lem e = ap (room_by (text_for first second) out) e

  leaves : (r : Result ℕ Refusal) → r ≡ compare_of first second (length out) → Answers first second out r (room_by (text_for first second) out r)
  leaves r e = (e, room_by_lem e)

  pub first_refused : (r : Refusal) → shape_of first ≡ Err r → Answers first second out (Err r) out
  first_refused r e = leaves (Err r) (answer_first first second (length out) e)

  module _ {p : Places} (h : shape_of first ≡ Ok p) where
    pub second_refused : (r : Refusal) → shape_of second ≡ Err r → Answers first second out (Err r) out
    second_refused r e = leaves (Err r) (answer_second first second (length out) (shape_passes first h) e)

    module _ {q : Places} (k : shape_of second ≡ Ok q) where
      pub no_room_lem : length out < length (text_for first second) → Answers first second out (Err NoRoomForReport) out
      no_room_lem l = leaves (Err NoRoomForReport) (answer_room first second (length out) (shape_passes first h) (shape_passes second k) l)

      -- the lines as they were made, copied
      pub copied : {old made new : List ℕ} {size : ℕ} → PutAt old 0 (text_for first second) made size → length (text_for first second) ≤ length old
          → size ≤ length out → new ≡ written 0 (take size made) out → Answers first second out (Ok size) new
      copied {size = size} m f l e =
          let z : size ≡ length (text_for first second) = omega (arith, m.place) in
          let a = answer_lines first second (length out) (shape_passes first h) (shape_passes second k) (omega arith) in
          let w = leaves (Ok (length (text_for first second))) a in
          (ap Ok z ∙ w.0, e ∙ ap (λ (x : List ℕ). written 0 x out) (made_take m f) ∙ w.1)
