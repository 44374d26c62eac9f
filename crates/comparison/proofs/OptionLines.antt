-- Lines put one behind another: the laws of `lines_of`, the line of an option, and what is said of one.
use mathlib.Core.Path.{◌≡◌, refl, sym, ap, ◌∙◌}
use Prim.Native.Nat.{ℕ, suc, ◌+◌, ◌≤◌}
use native.Mathlib.Numerals.{add-one}
use native.Mathlib.Omega.{arith}
use mathlib.Core.Bool.{true, false}
use mathlib.Core.List.{List, [], ◌∷◌, ◌++◌, append_assoc, append-nil}
use lib.ListN.{length, length-append}
use Rattle.octets.specs.Bytes.{same_bytes}
use Rattle.octets.proofs.Written.{length_written, written_none}
use Rattle.verdict_line.specs.Decimal.{decimal}
use Rattle.verdict_line.specs.Line.{PutAt, space, newline}
use Rattle.verdict_line.proofs.Places.{put_next, Added, added_put}
use Rattle.comparison.specs.declared.Side.{Side}
use Rattle.comparison.specs.declared.Side.TheVariants.{First, Second}
use Rattle.comparison.specs.Difference.{Difference, said_of}
use Rattle.comparison.specs.Difference.{altered_word, missing_word, added_word, option_line, line_of, lines_of}
use Rattle.std.specs.Prelude.{None, Option, Some}

-- ---- lines

pub lines_append : (ds es : List Difference) → lines_of (ds ++ es) ≡ lines_of ds ++ lines_of es
unfolding lines_of
lines_append [] es = refl
lines_append (d ∷ ds) es = ap (λ (x : List ℕ). line_of d ++ x) (lines_append ds es) ∙ sym (append_assoc (line_of d) (lines_of ds) (lines_of es))

pub no_lines : lines_of [] ≡ []
unfolding lines_of
no_lines = refl

pub one_line : (d : Difference) → lines_of (d ∷ []) ≡ line_of d
unfolding lines_of
one_line d = append-nil (line_of d)

-- nothing put
pub put_nothing : (out : List ℕ) (at : ℕ) → PutAt out at [] out at
put_nothing out at = record { place = omega arith; content = sym (written_none at out) }

-- bytes behind those that were put, by a call that writes what fits
put_more : (t : List ℕ) {out s mid new : List ℕ} {at p q : ℕ} → at + length s + length t ≤ length out → PutAt out at s mid p → Added mid p t new q
    → PutAt out at (s ++ t) new q
put_more t {out} {s} {mid} {at = at} {p} room m a =
    let l : length mid ≡ length out = ap length m.content ∙ length_written at s out (omega arith) in
    put_next room m (added_put (omega (arith, m.place)) a.0 a.1)

-- the line of an option from its pieces
module _ (out word : List ℕ) (at code occurrence : ℕ) (room : at + length (option_line word code occurrence) ≤ length out) where
  parts_fit : at + length word + length (decimal code) + 1 + length (decimal occurrence) + 1 ≤ length out
  unfolding option_line
  parts_fit = let r = simp length-append at room in omega arith

  pub option_line_made : {o₁ o₂ o₃ o₄ o₅ : List ℕ} {p₁ p₂ p₃ p₄ p₅ : ℕ} → Added out at word o₁ p₁ → Added o₁ p₁ (decimal code) o₂ p₂
      → Added o₂ p₂ space o₃ p₃ → Added o₃ p₃ (decimal occurrence) o₄ p₄ → Added o₄ p₄ newline o₅ p₅
      → PutAt out at (option_line word code occurrence) o₅ p₅
  unfolding option_line
  option_line_made a₁ a₂ a₃ a₄ a₅ =
      let l = parts_fit in
      let t₁ = added_put (omega arith) a₁.0 a₁.1 in
      let t₂ = put_more (decimal code) (omega arith) t₁ a₂ in
      let t₃ = put_more space (simp length-append (omega arith)) t₂ a₃ in
      let t₄ = put_more (decimal occurrence) (simp length-append (omega arith)) t₃ a₄ in
      put_more newline (simp length-append (omega arith)) t₄ a₅

-- ---- what is said of an option, by the body that was found of it in the other message

module _ (code before : ℕ) (body : List ℕ) where
  abbrev pub said : Side → Option (List ℕ) → List ℕ
  said side found = lines_of (said_of side code (suc before) body found)

  pub said_missing : said First None ≡ option_line missing_word code (before + 1)
  unfolding said_of
  said_missing = rw (add-one before) (one_line _)

  pub said_added : said Second None ≡ option_line added_word code (before + 1)
  unfolding said_of
  said_added = rw (add-one before) (one_line _)

  module _ (other : List ℕ) where
    pub said_there : said Second (Some other) ≡ []
    unfolding said_of
    said_there = no_lines

    pub said_same : same_bytes body other ≡ true → said First (Some other) ≡ []
    unfolding said_of
    said_same e = rw e no_lines

    pub said_altered : same_bytes body other ≡ false → said First (Some other) ≡ option_line altered_word code (before + 1)
    unfolding said_of
    said_altered e = rw (add-one before, e) (one_line _)
