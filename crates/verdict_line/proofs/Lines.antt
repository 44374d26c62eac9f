-- The whole line: its length, how it is made of its pieces, and where it fits. The laws of `accepted_line`, `worded_line`, `numbered_line`, `size_in` and
-- `out_after`.
use mathlib.Core.Path.{◌≡◌, refl, sym, ap, ap₂, ◌∙◌}
use mathlib.Core.Bool.{Bool, true, false, cond}
use mathlib.Core.List.{List}
use Prim.Native.Nat.{ℕ, ◌+◌, ◌≤◌, ◌<◌, ◌^◌}
use native.Mathlib.Nat.{zero-add}
use native.Mathlib.Omega.{arith}
use borrow.Author.Tests.{le-leb, lt-leb, leb-true}
use lib.Dec.{leb}
use lib.ListN.{length, take, length-append}
use lib.Seq.{length-take-le}
use Rattle.verdict_line.specs.Decimal.{decimal}
use Rattle.verdict_line.specs.Line.{line_most, numbered_most, word_most, accepted_row, counter_word, space, newline}
use Rattle.verdict_line.specs.Line.{accepted_line, worded_line, line_of, numbered_line}
use Rattle.verdict_line.specs.Line.{PutAt, Made, size_in, out_after, place_with, out_with}
use Rattle.verdict_line.specs.declared.Line.{Line}
use Rattle.verdict_line.proofs.Digits.{length_word}
use Rattle.octets.specs.Bytes.{written}
use Rattle.octets.proofs.Written.{take_written}
use Rattle.verdict_line.proofs.Places.{put_next}

-- a line by the digits of its numbers, and that numbers of 64 bits make it no longer than any line
pub accepted_length : (row counter : ℕ) → length (accepted_line row counter) ≡ 23 + length (decimal row) + length (decimal counter)
unfolding accepted_line
accepted_length row counter = simp length-append (omega arith)

pub accepted_most : {row counter : ℕ} → row < 2 ^ 64 → counter < 2 ^ 64 → length (accepted_line row counter) ≤ line_most
accepted_most {row} {counter} h k = omega (arith, accepted_length row counter, length_word row h, length_word counter k)

pub worded_length : (word : List ℕ) (number : ℕ) → length (worded_line word number) ≡ length word + length (decimal number) + 1
unfolding worded_line
worded_length word number = simp length-append (omega arith)

pub worded_most : (word : List ℕ) (number : ℕ) → length word ≤ word_most → number < 2 ^ 64 → length (worded_line word number) ≤ line_most
worded_most word number f h = omega (arith, worded_length word number, length_word number h)

pub numbered_length : (number : ℕ) (line : Line) → length (numbered_line number line) ≡ length (decimal number) + 1 + length (line_of line)
unfolding numbered_line
numbered_length number line = simp length-append (omega arith)

pub numbered_most_lem : (number : ℕ) (line : Line) → number < 2 ^ 64 → length (line_of line) ≤ line_most → length (numbered_line number line) ≤ numbered_most
numbered_most_lem number line h l = omega (arith, numbered_length number line, length_word number h)

-- the line from its pieces
module _ {out : List ℕ} {at : ℕ} (room : at + line_most ≤ length out) where
  pub accepted_made : {row counter : ℕ} {o₁ o₂ o₃ o₄ o₅ : List ℕ} {p₁ p₂ p₃ p₄ p₅ : ℕ} → row < 2 ^ 64 → counter < 2 ^ 64 → PutAt out at accepted_row o₁ p₁
      → PutAt o₁ p₁ (decimal row) o₂ p₂ → PutAt o₂ p₂ counter_word o₃ p₃ → PutAt o₃ p₃ (decimal counter) o₄ p₄ → PutAt o₄ p₄ newline o₅ p₅
      → Made out at (accepted_line row counter) o₅ p₅
  unfolding accepted_line
  accepted_made {row} {counter} hr hc s₁ s₂ s₃ s₄ s₅ =
      let a = length_word row hr in
      let b = length_word counter hc in
      let t₂ = put_next (omega arith) s₁ s₂ in
      let t₃ = put_next (simp length-append (omega arith)) t₂ s₃ in
      let t₄ = put_next (simp length-append (omega arith)) t₃ s₄ in
      record { put = put_next (simp length-append (omega arith)) t₄ s₅; most = accepted_most hr hc }

  pub worded_made : {word : List ℕ} {number : ℕ} {o₁ o₂ o₃ : List ℕ} {p₁ p₂ p₃ : ℕ} → length word ≤ word_most → number < 2 ^ 64
      → PutAt out at word o₁ p₁ → PutAt o₁ p₁ (decimal number) o₂ p₂ → PutAt o₂ p₂ newline o₃ p₃ → Made out at (worded_line word number) o₃ p₃
  unfolding worded_line
  worded_made {word} {number} f h s₁ s₂ s₃ =
      let l = length_word number h in
      let t₂ = put_next (omega arith) s₁ s₂ in
      record { put = put_next (simp length-append (omega arith)) t₂ s₃; most = worded_most word number f h }

-- with a number in front of it
pub numbered_made : {out : List ℕ} {number : ℕ} (line : Line) {o₁ o₂ o₃ : List ℕ} {p₁ p₂ p₃ : ℕ} → numbered_most ≤ length out → number < 2 ^ 64
    → PutAt out 0 (decimal number) o₁ p₁ → PutAt o₁ p₁ space o₂ p₂ → Made o₂ p₂ (line_of line) o₃ p₃
    → PutAt out 0 (numbered_line number line) o₃ p₃ × (p₃ ≤ numbered_most)
unfolding numbered_line
numbered_made {number = number} line room h s₁ s₂ m =
    let a = length_word number h in
    let l = m.most in
    let p = put_next (simp length-append (omega arith)) (put_next (omega arith) s₁ s₂) m.put in
    (p, omega (arith, p.place, numbered_length number line))

-- what is written never passes the room
pub size_fits : (line : List ℕ) (room : ℕ) → size_in line room ≤ room
unfolding size_in
size_fits line room = on (leb (length line) room) refl
  where
    on : (t : Bool) → leb (length line) room ≡ t → cond t (length line) 0 ≤ room
    on true e = leb-true (length line) room e
    on false e = omega arith

module _ (line : List ℕ) (room : ℕ) {n : ℕ} (e : n ≡ size_in line room) where
  pub line_within : n ≤ room
  line_within = rw e (size_fits line room)

  pub line_taken : (bytes : List ℕ) → length bytes ≡ room → n ≡ length (take n bytes)
  line_taken bytes l = let w = line_within in sym (length-take-le n bytes (omega arith))

-- a room that is large enough takes all of it
pub size_whole : (line : List ℕ) (room : ℕ) → length line ≤ room → size_in line room ≡ length line
unfolding size_in
size_whole line room h = rw (le-leb (length line) room h)

pub out_whole : (line out : List ℕ) → length line ≤ length out → out_after line out ≡ written 0 line out
unfolding out_after
out_whole line out h = rw (le-leb (length line) (length out) h)

-- the two ends of `put_made`
abbrev pub MadePut : List ℕ → List ℕ → List ℕ → ℕ → Type 0
MadePut line old new r = (r ≡ size_in line (length old)) × (new ≡ out_after line old)

module _ (line out : List ℕ) where
  pub no_room_lem : length out < length line → MadePut line out out 0
  unfolding size_in out_after
  no_room_lem h = let e = lt-leb (length line) (length out) h in (rw e, rw e)

  pub fits_room : {new : List ℕ} {r : ℕ} → length line ≤ length out → PutAt out 0 line new r → MadePut line out new r
  unfolding size_in out_after
  fits_room h c = let e = le-leb (length line) (length out) h in (rw e (c.place ∙ zero-add _), rw e c.content)

-- a line that stands at the front of the room where it was made
module _ {old s made : List ℕ} {size : ℕ} (m : PutAt old 0 s made size) (h : length s ≤ length old) where
  pub made_take : take size made ≡ s
  made_take = ap₂ (λ (n : ℕ) (l : List ℕ). take n l) m.place m.content ∙ take_written 0 s old (omega arith)

  pub made_size : size ≡ length (take size made)
  made_size = let e = ap length made_take in let p = m.place in omega arith

  -- copied from there: what `write_line` and `write_numbered` promise, where no line of the kind is longer than `most`
  pub made_put : (most : ℕ) (out : List ℕ) {new : List ℕ} {r : ℕ} → length s ≤ most → MadePut (take size made) out new r
      → (r ≡ size_in s (length out)) × ((new ≡ out_after s out) × (most ≤ length out → r ≡ length s))
  made_put most out {r = r} f p =
      let z : r ≡ size_in s (length out) = p.0 ∙ ap (λ (l : List ℕ). size_in l (length out)) made_take in
      (z, (p.1 ∙ ap (λ (l : List ℕ). out_after l out) made_take, λ w. z ∙ size_whole s (length out) (omega arith)))

-- bytes added at the front are written there
pub added_front : (out s : List ℕ) {new : List ℕ} {r : ℕ} → r ≡ place_with 0 s (length out) → new ≡ out_with 0 s out → MadePut s out new r
unfolding place_with out_with size_in out_after
added_front out s e f = (rw (zero-add (length s)) at e, rw (zero-add (length s)) at f)

-- the same by another name
pub put_same : (out : List ℕ) {s t new : List ℕ} {r : ℕ} → t ≡ s → MadePut t out new r → MadePut s out new r
put_same out e p = rw e at p
