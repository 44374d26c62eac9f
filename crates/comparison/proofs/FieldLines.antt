-- The lines of the header's fields: what the table of src/fields.rt says of each field, and the turns of `put_fields`.
use mathlib.Core.Path.{◌≡◌, refl, sym, ap, ap₂, ◌∙◌}
use Prim.Native.Nat.{ℕ, zero, suc, ◌+◌, ◌-◌, ◌≤◌, ◌<◌}
use Rattle.std.proofs.lemmas.List.{drop-take}
use native.Mathlib.Numerals.{add-one}
use native.Mathlib.Omega.{arith}
use mathlib.Core.Bool.{Bool, true, false, ◌&&◌, and-eq-true_iff, false≢true}
use mathlib.Core.List.{List, [], ◌∷◌, ◌++◌, append_assoc, append-nil}
use lib.Dec.{leb, eqb}
use lib.ListN.{length, take, drop, get_or, length-append, drop_of_length-le}
use lib.Seq.{drop-cons, take-take}
use borrow.Author.Tests.{eqb-true, leb-true}
use Rattle.octets.specs.Bytes.{same_bytes}
use Rattle.octets.proofs.Comparing.{same_equal}
use Rattle.octets.proofs.Written.{length_written}
use Rattle.verdict_line.specs.Line.{newline, PutAt, place_with, out_with}
use Rattle.verdict_line.proofs.Places.{put_next, added_put}
use denote.Bor.{Bor}
use Rattle.comparison.specs.Fields.{Field, part, op, fields}
use Rattle.comparison.specs.Difference.{fields_differing, lines_of}
use Rattle.comparison.proofs.OptionLines.{put_nothing}

-- ---- the table

-- an entry of the table: first byte, size and line
abbrev pub Entry : Type 0
Entry = ℕ × ℕ × Bor (List ℕ)

-- it is a field, which lies within the header
pub record IsField (a : Entry) (f : Field) : Type 0 where
  pub begins : a.0 ≡ f.at
  pub sized : a.1 ≡ f.size
  pub inside : a.0 + a.1 ≤ 240
  pub line : a.2.now ≡ f.name ++ newline

-- the same, tested
abbrev is_field : Entry → Field → Bool
is_field a f = eqb a.0 f.at && (eqb a.1 f.size && (leb (a.0 + a.1) 240 && same_bytes a.2.now (f.name ++ newline)))

is_field_lem : (a : Entry) (f : Field) → is_field a f ≡ true → IsField a f
is_field_lem a f e =
    let b = (and-eq-true_iff _ _).0 e in
    let d = (and-eq-true_iff _ _).0 b.1 in
    let g = (and-eq-true_iff _ _).0 d.1 in
    record { begins = eqb-true a.0 f.at b.0; sized = eqb-true a.1 f.size d.0; inside = leb-true _ 240 g.0; line = same_equal _ _ g.1 }

-- each entry is the field of its place
abbrev pub are_fields : List Entry → List Field → Bool
are_fields [] [] = true
are_fields [] (f ∷ fs) = false
are_fields (a ∷ es) [] = false
are_fields (a ∷ es) (f ∷ fs) = is_field a f && are_fields es fs

field_at : (es : List Entry) (fs : List Field) → are_fields es fs ≡ true → (i : ℕ) → i < length fs → (d : Entry) (g : Field)
    → IsField (get_or es i d) (get_or fs i g)
field_at es [] e i h d g = absurd (omega arith)
field_at [] (f ∷ fs) e i h d g = absurd (false≢true e)
field_at (a ∷ es) (f ∷ fs) e zero h d g = is_field_lem a f ((and-eq-true_iff _ _).0 e).0
field_at (a ∷ es) (f ∷ fs) e (suc i) h d g = field_at es fs ((and-eq-true_iff _ _).0 e).1 i (omega arith) d g

-- ---- a field's bytes

-- of the header it is what it is of the message
part_of : (f : Field) (m : List ℕ) (header from to : ℕ) → from ≡ f.at → to ≡ f.at + f.size → to ≤ header
    → part f (take header m) ≡ take (to - from) (drop from m)
part_of f m header from to b e l =
    let h : header ≡ f.at + (header - f.at) = omega arith in
    let n : f.size ≡ to - from = omega arith in
    ap (λ (k : ℕ). take f.size (drop f.at (take k m))) h
    ∙ ap (take f.size) (drop-take f.at (header - f.at) m)
    ∙ take-take f.size (header - f.at) (drop f.at m) (omega arith)
    ∙ ap₂ (λ (k a : ℕ). take k (drop a m)) n (sym b)

-- ---- the turns

-- the lines of some fields
abbrev lines_by : List Field → (first second : List ℕ) → List ℕ
lines_by fs first second = lines_of (fields_differing fs (take 240 first) (take 240 second))

lines_none : (first second : List ℕ) → lines_by [] first second ≡ []
unfolding lines_of fields_differing
lines_none first second = refl

module _ (f : Field) (fs : List Field) (first second : List ℕ) where
  lines_same : same_bytes (part f (take 240 first)) (part f (take 240 second)) ≡ true → lines_by (f ∷ fs) first second ≡ lines_by fs first second
  unfolding lines_of fields_differing
  lines_same e = rw e

  lines_other : same_bytes (part f (take 240 first)) (part f (take 240 second)) ≡ false
      → lines_by (f ∷ fs) first second ≡ (f.name ++ newline) ++ lines_by fs first second
  unfolding lines_of fields_differing
  lines_other e = rw e

-- before turn i: the lines that were put and those of the fields that are left are all lines
pub record Putting (table : List Entry) (first second old out : List ℕ) (at i : ℕ) : Type 0 where
  pub right : are_fields table fields ≡ true
  pub long : (240 ≤ length first) × (240 ≤ length second)
  pub fits : length (lines_by fields first second) ≤ length old
  pub few : i ≤ 14
  pub made : List ℕ
  pub whole : made ++ lines_by (drop i fields) first second ≡ lines_by fields first second
  pub put : PutAt old 0 made out at

module _ {table : List Entry} {first second old : List ℕ} where
  pub putting_start : are_fields table fields ≡ true → 240 ≤ length first → 240 ≤ length second → length (lines_by fields first second) ≤ length old
      → Putting table first second old old 0 0
  putting_start t h k l = record {
    right = t;
    long = (h, k);
    fits = l;
    few = omega arith;
    made = [];
    whole = refl;
    put = put_nothing old 0;
  }

  module _ {out : List ℕ} {at i : ℕ} (p : Putting table first second old out at i) where
    pub kept_length : length out ≡ length old
    kept_length =
        let n = length-append p.made (lines_by (drop i fields) first second) in
        let w = ap length p.whole in
        let f = p.fits in
        ap length p.put.content ∙ length_written 0 p.made old (omega arith)

    pub putting_end : 14 ≤ i → PutAt old 0 (lines_by fields first second) out at
    putting_end h =
        let e : lines_by (drop i fields) first second ≡ [] =
        ap (λ (fs : List Field). lines_by fs first second) (drop_of_length-le fields h) ∙ lines_none first second in
        let w : p.made ≡ lines_by fields first second = sym (append-nil p.made) ∙ ap (λ (l : List ℕ). p.made ++ l) (sym e) ∙ p.whole in
        rw w at p.put

    module _ (d : Entry) (h : i < 14) where
      abbrev f : Field
      f = get_or fields i op

      abbrev pub entry : Entry
      entry = get_or table i d

      pub here : IsField entry f
      here = field_at table fields p.right i h d op

      left : drop i fields ≡ f ∷ drop (i + 1) fields
      left = drop-cons fields i op h ∙ ap (λ (n : ℕ). f ∷ drop n fields) (sym (add-one i))

      -- the stretches that the code compares
      abbrev pub stretch : List ℕ → List ℕ
      stretch m = take (entry.0 + entry.1 - entry.0) (drop entry.0 m)

      whole_part : (m : List ℕ) → part f (take 240 m) ≡ stretch m
      whole_part m = part_of f m 240 entry.0 (entry.0 + entry.1) here.begins (omega (arith, here.begins, here.sized)) here.inside

      parts : (t : Bool) → same_bytes (stretch first) (stretch second) ≡ t → same_bytes (part f (take 240 first)) (part f (take 240 second)) ≡ t
      parts t e = ap₂ same_bytes (whole_part first) (whole_part second) ∙ e

      pub turn_same : same_bytes (stretch first) (stretch second) ≡ true → Putting table first second old out at (i + 1)
      turn_same e = record {
        right = p.right;
        long = p.long;
        fits = p.fits;
        few = omega arith;
        made = p.made;
        whole =
            ap (λ (l : List ℕ). p.made ++ l)
            (sym (ap (λ (fs : List Field). lines_by fs first second) left ∙ lines_same f (drop (i + 1) fields) first second (parts true e)))
            ∙ p.whole;
        put = p.put;
      }

      -- the line that the code puts
      pub turn_other : same_bytes (stretch first) (stretch second) ≡ false → {new : List ℕ} {r : ℕ} → r ≡ place_with at entry.2.now (length out)
          → new ≡ out_with at entry.2.now out → Putting table first second old new r (i + 1)
      turn_other e a b =
          let line = entry.2.now in
          let rest = lines_by (drop (i + 1) fields) first second in
          let w : p.made ++ line ++ rest ≡ lines_by fields first second =
          append_assoc p.made line rest
          ∙ ap (λ (l : List ℕ). p.made ++ l)
          (sym
          (ap (λ (fs : List Field). lines_by fs first second) left
          ∙ lines_other f (drop (i + 1) fields) first second (parts false e)
          ∙ ap (λ (l : List ℕ). l ++ rest) (sym here.line)))
          ∙ p.whole in
          let n = length-append (p.made ++ line) rest in
          let m = length-append p.made line in
          let k = ap length w in
          record {
            right = p.right;
            long = p.long;
            fits = p.fits;
            few = omega arith;
            made = p.made ++ line;
            whole = w;
            put = put_next (omega (arith, p.fits)) p.put (added_put (omega (arith, p.fits, p.put.place, kept_length)) a b);
          }
