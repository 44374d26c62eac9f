-- The lines of two messages fit a room of 18,573 bytes: 80 for the header's fields, 8 for each option byte of the first message and 7 for each of the
-- second's, 7 for the layout and 21 for the last line. An option has at least two bytes, and its code and its occurrence have at most three digits each.
use mathlib.Core.Path.{◌≡◌, ap, ◌∙◌}
use Prim.Native.Nat.{ℕ, suc, ◌+◌, ◌*◌, ◌≤◌, ◌<◌}
use native.Mathlib.Nat.{mul-add, mul-le-mul_left}
use native.Mathlib.Omega.{arith}
use mathlib.Core.Bool.{Bool, true, false, cond}
use mathlib.Core.List.{List, [], ◌∷◌, ◌++◌}
use lib.ListN.{length, drop, length-append}
use lib.Dec.{eqb}
use Rattle.octets.specs.Bytes.{Bytes, same_bytes}
use Rattle.octets.proofs.Elements.{bytes_drop}
use Rattle.verdict_line.proofs.Digits.{length_below}
use Rattle.dhcp_message.specs.Options.{Token, pad, opt, encode, WellFormed}
use Rattle.dhcp_message.specs.Message.{count, Passes27}
use Rattle.dhcp_message.proofs.Decoding.{decode_reads}
use Rattle.dhcp_message.proofs.Tokens.{encode_append}
use Rattle.dhcp_message.proofs.Passing.{Passing, header_size_lem, whole}
use Rattle.comparison.specs.declared.Side.{Side}
use Rattle.comparison.specs.declared.Side.TheVariants.{First, Second}
use Rattle.comparison.specs.Fields.{Field, part, fields}
use Rattle.comparison.specs.Difference.{Parts, parts_of, Difference, differs, altered, missing, added, layout, fields_differing, body_at, said_of}
use Rattle.comparison.specs.Difference.{options_differing, same_layout, layout_differing, differences_of, relay_only}
use Rattle.comparison.specs.Difference.{option_line, line_of, lines_of, last_line, text_of}
use Rattle.comparison.specs.Entry.{text_for}
use Rattle.comparison.specs.Laws.{LinesFit}
use Rattle.comparison.proofs.Reading.{passing_parts}
use Rattle.comparison.proofs.OptionLines.{lines_append}
use Rattle.std.specs.Prelude.{None, Option, Some}

abbrev size : List Difference → ℕ
size ds = length (lines_of ds)

size_append : (ds es : List Difference) → size (ds ++ es) ≡ size ds + size es
size_append ds es = ap length (lines_append ds es) ∙ length-append (lines_of ds) (lines_of es)

-- ---- the header's fields

abbrev names : List Field → ℕ
names [] = 0
names (f ∷ fs) = length f.name + 1 + names fs

fields_most : (fs : List Field) (header other : List ℕ) → size (fields_differing fs header other) ≤ names fs
unfolding fields_differing lines_of
fields_most [] header other = omega arith
fields_most (f ∷ fs) header other = by (same_bytes (part f header) (part f other)) (fields_most fs header other)
  where
    by : (t : Bool) → size (fields_differing fs header other) ≤ names fs
        → size (cond t [] (differs f ∷ []) ++ fields_differing fs header other) ≤ names (f ∷ fs)
    by true h = omega arith
    by false h = simp length-append (omega arith)

layout_most : (a b : Parts) → size (layout_differing a b) ≤ 7
unfolding layout_differing lines_of
layout_most a b = by (same_layout a b)
  where
    by : (t : Bool) → size (cond t [] (layout ∷ [])) ≤ 7
    by true = omega arith
    by false = omega arith

last_most : (t : Bool) → length (last_line t) ≤ 21
last_most true = omega arith
last_most false = omega arith

-- ---- options

line_most_lem : (word : List ℕ) (code occurrence : ℕ) → code < 1000 → occurrence < 1000 → length (option_line word code occurrence) ≤ length word + 8
unfolding option_line
line_most_lem word code occurrence h k =
    let a = length_below 2 code (omega arith) in
    let b = length_below 2 occurrence (omega arith) in
    simp length-append (omega arith)

-- the bytes of lines for each option byte
abbrev each : Side → ℕ
each First = 8
each Second = 7

one : (d : Difference) (n : ℕ) → length (line_of d) ≤ n → size (d ∷ []) ≤ n
unfolding lines_of
one d n h = rw (length-append (line_of d) []) (omega arith)

said_most : (side : Side) (code occurrence : ℕ) (body : List ℕ) (other : Option (List ℕ)) → code < 1000 → occurrence < 1000
    → size (said_of side code occurrence body other) ≤ each side * 2
unfolding said_of lines_of
said_most First c n body (Some other) h k = by (same_bytes body other)
  where
    by : (t : Bool) → size (cond t [] (altered c n ∷ [])) ≤ 16
    by true = omega arith
    by false = one (altered c n) 16 (line_most_lem _ c n h k)
said_most First c n body None h k = one (missing c n) 16 (line_most_lem _ c n h k)
said_most Second c n body (Some other) h k = omega arith
said_most Second c n body None h k = one (added c n) 14 (line_most_lem _ c n h k)

count_most : (c : ℕ) (ts : List Token) → 2 * count c ts ≤ length (encode ts)
count_most c [] = omega arith
count_most c (pad ∷ ts) = omega (arith, count_most c ts)
count_most c (opt e b ∷ ts) = by (eqb e c) (count_most c ts)
  where
    by : (t : Bool) → 2 * count c ts ≤ length (encode ts) → 2 * (cond t 1 0 + count c ts) ≤ suc (suc (length (b ++ encode ts)))
    by true h = rw (length-append b (encode ts)) (omega arith)
    by false h = rw (length-append b (encode ts)) (omega arith)

-- at k for each, what i and n pay for is paid for by any number that holds both
paid : (k i n j : ℕ) {a b : ℕ} → a ≤ k * i → b ≤ k * n → i + n ≤ j → a + b ≤ k * j
paid k i n j p q h = omega (arith, mul-add k i n, mul-le-mul_left k h)

module _ (side : Side) (other : List Token) where
  options_most : (before ts : List Token) → WellFormed ts → length (encode before) + length (encode ts) ≤ 1231
      → size (options_differing side before ts other) ≤ each side * length (encode ts)
  unfolding options_differing lines_of
  options_most before [] w h = omega arith
  options_most before (pad ∷ ts) w h =
      let n = length (encode ts) in
      let more : each side * n ≤ each side * suc n = mul-le-mul_left (each side) (omega arith) in
      omega (arith, options_most before ts w (omega arith))
  options_most before (opt c b ∷ ts) w h =
      let n = length-append b (encode ts) in
      let now = count c before in
      let few = count_most c before in
      let said = said_of side c (suc now) b (body_at c now other) in
      let k = said_most side c (suc now) b (body_at c now other) (omega (arith, w.1)) (omega arith) in
      let l = ap length (encode_append before (opt c b ∷ [])) ∙ length-append (encode before) _ in
      let o = length-append b [] in
      let ih = options_most (before ++ (opt c b ∷ [])) ts w.3 (omega arith) in
      rw (size_append said _) (paid (each side) 2 (length (encode ts)) _ k ih (omega arith))

-- ---- two messages

-- the option bytes of a message that passes
option_bytes : {m : List ℕ} {ts : List Token} {rest : List ℕ} → Passing m ts rest → length (encode ts) ≤ 1231
option_bytes p =
    let l = ap length (whole p) in
    omega (arith, p.short, header_size_lem p, simp length-append at l)

module _ (side : Side) (m : List ℕ) (bytes : Bytes m) (h : Passes27 m) (other : List Token) where
  side_most : size (options_differing side [] (parts_of m).tokens other) ≤ each side * 1231
  side_most =
      let p = passing_parts m h in
      let w = (decode_reads (drop 240 m) _ _ (bytes_drop 240 m bytes) p.reads).0 in
      let l = option_bytes p in
      omega (arith, options_most side other [] (parts_of m).tokens w (omega arith), mul-le-mul_left (each side) l)

pub lines_fit : LinesFit
unfolding text_for text_of differences_of
lines_fit first second bf bs pf ps =
    let a = parts_of first in
    let b = parts_of second in
    let f = fields_most fields a.header b.header in
    let g = side_most First first bf pf b.tokens in
    let h = side_most Second second bs ps a.tokens in
    let k = layout_most a b in
    let l = last_most (relay_only a b) in
    rw (length-append, size_append, size_append, size_append) (omega arith)
