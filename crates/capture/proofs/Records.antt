-- The records of a file: `records_to`, `records_from` and `records_of`, and what they say. The only law file that unfolds these three.
use Prim.Native.Nat.{ℕ, zero, suc, ◌+◌, ◌≤◌, ◌<◌}
use mathlib.Core.Path.{◌≡◌, refl, sym, ap, ◌∙◌}
use mathlib.Core.Logic.{◌⊎◌, inl, inr}
use mathlib.Core.Bool.{Bool, true, false, cond}
use mathlib.Core.List.{List, [], ◌++◌}
use native.Mathlib.Omega.{arith}
use borrow.Author.Tests.{eq-eqb, ne_eqb, ltb-true, ltb-false, lt-ltb, le-ltb}
use lib.Dec.{ltb, eqb}
use lib.ListN.{length, take, drop, length-drop, length-append}
use lib.Seq.{take_at, drop_at, drop-drop}
use Rattle.capture.specs.Layout.{file_header_size, record_header_size, captured_at, original_at, frame_most}
use Rattle.capture.specs.declared.Order.{Order}
use Rattle.capture.specs.Records.{number_at, file_header_of, record_header_of, Records, at_end, cut_here, before, record_then}
use Rattle.capture.specs.Records.{records_to, records_from, records_by, records_of}
use Rattle.capture.specs.Laws.{RecordsSay}
use Rattle.capture.proofs.Headers.{number_in_front, header_short, header_in_front, record_short, record_too_long, record_frame, record_header_says}
use Rattle.std.specs.Prelude.{None, Option, Some}
use Rattle.capture.specs.declared.RecordHeader.{RecordHeader}
use Rattle.capture.specs.Records.{header_with}

-- ---- the count

-- two ends that differ only where the test is false
unless : (t : Bool) (x : Records) {a b : Records} → (t ≡ false → a ≡ b) → cond t x a ≡ cond t x b
unless true x e = refl
unless false x e = e refl

-- a record takes its header at least, and so what comes of the bytes behind it depends on that many fewer
then_same : (s : List ℕ) (f g : List ℕ → Records) → ((t : List ℕ) → record_header_size + length t ≤ length s → f t ≡ g t)
    → (h : Option RecordHeader) → record_then s f h ≡ record_then s g h
then_same s f g same None = refl
then_same s f g same (Some a) =
    let size = record_header_size + a.captured in
    unless (ltb (length s) size) cut_here
    (λ e. let l = ltb-false (length s) size e in let n = length-drop size s in ap (before _) (same (drop size s) (omega arith)))

-- any count that is no less than the length gives the same records
pub records_enough : (order : Order) (n m : ℕ) (s : List ℕ) → length s ≤ n → length s ≤ m → records_to n order s ≡ records_to m order s
unfolding records_to
records_enough order zero zero s h k = refl
records_enough order zero (suc m) s h k = rw (eq-eqb (length s) 0 (omega arith))
records_enough order (suc n) zero s h k = rw (eq-eqb (length s) 0 (omega arith))
records_enough order (suc n) (suc m) s h k =
    ap (cond (eqb (length s) 0) at_end)
    (then_same s (records_to n order) (records_to m order) (λ t l. records_enough order n m t (omega arith) (omega arith)) (record_header_of order s))

-- ---- behind the file's header

module _ (order : Order) where
  pub records_end : records_from order [] ≡ at_end
  unfolding records_to records_from
  records_end = refl

  -- the recursion without the count
  pub records_next : (s : List ℕ) → 0 < length s → records_from order s ≡ record_then s (records_from order) (record_header_of order s)
  unfolding records_to records_from
  records_next s h = by (length s) refl
    where
      by : (n : ℕ) → length s ≡ n → records_to (length s) order s ≡ record_then s (λ t. records_to (length t) order t) (record_header_of order s)
      by zero e = absurd (omega arith)
      by (suc n) e =
          ap (λ (k : ℕ). records_to k order s) e
          ∙ rw (ne_eqb (length s) 0 (λ z. omega arith))
          (then_same s (records_to n order) (λ t. records_to (length t) order t) (λ t l. records_enough order n (length t) t (omega arith) (omega arith))
          (record_header_of order s))

  module _ (s : List ℕ) where
    -- both lengths of the record at the front
    abbrev captured : ℕ
    captured = number_at order s captured_at

    abbrev original : ℕ
    original = number_at order s original_at

    -- by what the record's header says
    records_by_lem : 0 < length s → (h : Option RecordHeader) → h ≡ record_header_of order s → records_from order s ≡ record_then s (records_from order) h
    records_by_lem l h e = records_next s l ∙ ap (record_then s (records_from order)) (sym e)

    pub records_short : 0 < length s → length s < record_header_size → records_from order s ≡ cut_here
    records_short l h = records_by_lem l None (record_short order s h)

    module _ (h : record_header_size ≤ length s) where
      pub records_too_long : frame_most < captured → records_from order s ≡ cut_here
      records_too_long l = records_by_lem (omega arith) None (record_too_long order s h _ refl l)

      pub records_frame : captured ≤ frame_most → records_from order s ≡ record_then s (records_from order) (header_with captured original)
      records_frame l = records_by_lem (omega arith) _ (record_frame order s h _ refl l _ refl)

      pub records_cut : length s < record_header_size + captured → records_from order s ≡ cut_here
      records_cut l = by (ltb frame_most captured) refl
        where
          by : (t : Bool) → ltb frame_most captured ≡ t → records_from order s ≡ cut_here
          by true e = records_too_long (ltb-true frame_most _ e)
          by false e = records_frame (ltb-false frame_most _ e) ∙ rw (lt-ltb (length s) (record_header_size + captured) l)

      pub records_before : captured ≤ frame_most → record_header_size + captured ≤ length s
          → records_from order s
          ≡ before
          (record { frame = take captured (drop record_header_size s); original = original })
          (records_from order (drop (record_header_size + captured) s))
      records_before l k = records_frame l ∙ rw (le-ltb (length s) (record_header_size + captured) k)

  -- a record in three parts
  pub records_parts : (header frame rest : List ℕ) → length header ≡ record_header_size → number_at order header captured_at ≡ length frame
      → length frame ≤ frame_most
      → records_from order (header ++ (frame ++ rest)) ≡ before (record { frame = frame; original = number_at order header original_at })
      (records_from order rest)
  records_parts header frame rest h c m =
      let s = header ++ (frame ++ rest) in
      let n = length-append header (frame ++ rest) in
      let k = length-append frame rest in
      let a : number_at order s captured_at ≡ length frame = number_in_front order header (frame ++ rest) captured_at (omega arith) ∙ c in
      let o : number_at order s original_at ≡ number_at order header original_at = number_in_front order header (frame ++ rest) original_at (omega arith) in
      let d : drop record_header_size s ≡ frame ++ rest = drop_at header (frame ++ rest) record_header_size h in
      let f : take (length frame) (drop record_header_size s) ≡ frame = ap (take (length frame)) d ∙ take_at frame rest (length frame) refl in
      let r : drop (record_header_size + length frame) s ≡ rest =
      sym (drop-drop (length frame) record_header_size s) ∙ ap (drop (length frame)) d ∙ drop_at frame rest (length frame) refl in
      rw (a, o, f, r) at (records_before s (omega arith) (omega arith) (omega arith))

-- ---- the whole file

pub records_none : (file : List ℕ) → file_header_of file ≡ None → records_of file ≡ None
unfolding records_of
records_none file e = ap (records_by file) e

pub records_of_lem : (file : List ℕ) (order : Order) → file_header_of file ≡ Some order → records_of file ≡ Some
    (records_from order (drop file_header_size file))
unfolding records_of
records_of_lem file order e = ap (records_by file) e

pub records_behind : (order : Order) (header rest : List ℕ) → length header ≡ file_header_size → file_header_of header ≡ Some order
    → records_of (header ++ rest) ≡ Some (records_from order rest)
records_behind order header rest h e =
    records_of_lem (header ++ rest) order (header_in_front header rest (omega arith) ∙ e)
    ∙ ap (λ (s : List ℕ). Some (records_from order s)) (drop_at header rest file_header_size h)

pub records_other : (header rest : List ℕ) → length header ≡ file_header_size → file_header_of header ≡ None → records_of (header ++ rest) ≡ None
records_other header rest h e = records_none (header ++ rest) (header_in_front header rest (omega arith) ∙ e)

-- ---- what they say

pub records_say : RecordsSay
records_say = record {
  at_end_lem = records_end;
  header_cut = records_short;
  too_long = records_too_long;
  frame_cut = records_cut;
  next = records_parts;
  short_header = λ file h. records_none file (sym (header_short file h));
  other_header = records_other;
  behind_header = records_behind;
}

-- ---- by what a whole header says (`RecordHeaderSays`), with any bytes behind it

module _ (order : Order) (header rest : List ℕ) (h : length header ≡ record_header_size) where
  there : record_header_size ≤ length (header ++ rest)
  there = simp length-append (omega arith)

  captured_in_front : number_at order (header ++ rest) captured_at ≡ number_at order header captured_at
  captured_in_front = number_in_front order header rest captured_at (omega arith)

  pub cut_by_header : record_header_of order header ≡ None → records_from order (header ++ rest) ≡ cut_here
  cut_by_header e = by ((record_header_says.cut_there order header).0 e)
    where
      by : (length header < record_header_size) ⊎ (frame_most < number_at order header captured_at) → records_from order (header ++ rest) ≡ cut_here
      by (inl l) = absurd (omega arith)
      by (inr l) = records_say.too_long order (header ++ rest) there (rw captured_in_front l)

  pub cut_by_frame : {captured original : ℕ} → record_header_of order header ≡ header_with captured original → length rest < captured
      → records_from order (header ++ rest) ≡ cut_here
  cut_by_frame {captured} {original} e l =
      let r = (record_header_says.record_there order header captured original).0 e in
      let c = captured_in_front ∙ r.captured_length in
      records_say.frame_cut order (header ++ rest) there (rw c (simp length-append (omega arith)))

pub next_by_header : (order : Order) (header frame rest : List ℕ) → length header ≡ record_header_size → {original : ℕ}
    → record_header_of order header ≡ header_with (length frame) original
    → records_from order (header ++ (frame ++ rest)) ≡ before (record { frame = frame; original = original }) (records_from order rest)
next_by_header order header frame rest h {original} e =
    let r = (record_header_says.record_there order header (length frame) original).0 e in
    records_say.next order header frame rest h r.captured_length r.captured_most ∙ rw r.original_length
