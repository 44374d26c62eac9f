-- Bytes put one behind another: the two ends of `put_decimal`, a call at the place that the one before answered, and bytes that are put only where they fit.
use mathlib.Core.Path.{◌≡◌, ap, ◌∙◌}
use mathlib.Core.List.{List, [], ◌∷◌, ◌++◌}
use Prim.Native.Nat.{ℕ, ◌+◌, ◌/◌, ◌%◌, ◌≤◌, ◌<◌}
use native.Mathlib.Omega.{arith}
use borrow.Author.Tests.{le-leb, lt-leb}
use lib.ListN.{length, set, length-append}
use Rattle.octets.specs.Bytes.{written}
use Rattle.octets.proofs.Written.{length_written, set_written, written_join}
use Rattle.verdict_line.specs.Decimal.{digit, decimal}
use Rattle.verdict_line.specs.Line.{PutAt, place_with, out_with}
use Rattle.verdict_line.proofs.Digits.{decimal_one, decimal_more, length_one, length_more}

pub put_next : {out s t mid new : List ℕ} {at p q : ℕ} → at + length s + length t ≤ length out → PutAt out at s mid p → PutAt mid p t new q
    → PutAt out at (s ++ t) new q
put_next {out} {s} {t} {at = at} {p} f h n =
    record {
      place = simp length-append (omega arith);
      content = n.content ∙ ap (written p t) h.content ∙ written_join at p s t out (omega arith) (omega arith);
    }

pub put_one : {out : List ℕ} {at v : ℕ} → at < length out → PutAt out at (v ∷ []) (set out at v) (at + 1)
put_one {out} {at} {v} h = record { place = omega arith; content = set_written at v out h }

module _ (out : List ℕ) (at x : ℕ) (fits : at + length (decimal x) ≤ length out) where
  pub one_digit : x < 10 → PutAt out at (decimal x) (set out at (digit x)) (at + 1)
  one_digit h = let l = length_one x h in rw (decimal_one x h) (put_one (omega arith))

  pub last_digit : {mid : List ℕ} {last : ℕ} → 10 ≤ x → PutAt out at (decimal (x / 10)) mid last
      → PutAt out at (decimal x) (set mid last (digit (x % 10))) (last + 1)
  last_digit {mid} {last} h m =
      let l = length_more x h in
      let n : length mid ≡ length out = ap length m.content ∙ length_written at (decimal (x / 10)) out (omega arith) in
      rw (decimal_more x h) (put_next (omega arith) m (put_one (omega arith)))

-- the ends of `add_bytes`
abbrev pub Added : (out : List ℕ) (at : ℕ) (s new : List ℕ) → ℕ → Type 0
Added out at s new r = (r ≡ place_with at s (length out)) × (new ≡ out_with at s out)

pub added_none : (out : List ℕ) (at : ℕ) (s : List ℕ) → length out < at + length s → Added out at s out at
unfolding place_with out_with
added_none out at s h = let e = lt-leb (at + length s) (length out) h in (rw e, rw e)

pub added_fits : {out s new : List ℕ} {at r : ℕ} → at + length s ≤ length out → PutAt out at s new r → Added out at s new r
unfolding place_with out_with
added_fits {out} {s} {at = at} h p = let e = le-leb (at + length s) (length out) h in (rw e p.place, rw e p.content)

-- the same bytes, by another name
pub added_same : (out : List ℕ) (at : ℕ) {s t new : List ℕ} {r : ℕ} → t ≡ s → Added out at t new r → Added out at s new r
added_same out at e a = rw e at a

-- for callers: bytes that fit stand there
pub added_put : {out s new : List ℕ} {at r : ℕ} → at + length s ≤ length out → r ≡ place_with at s (length out) → new ≡ out_with at s out
    → PutAt out at s new r
unfolding place_with out_with
added_put {out} {s} {at = at} h e f =
    let l = le-leb (at + length s) (length out) h in
    record { place = rw l at e; content = rw l at f }
