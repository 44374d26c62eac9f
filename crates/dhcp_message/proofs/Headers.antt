-- Hops and giaddr: they stand in the header, what is written there last counts, and the rest of the header stands as it was.
use mathlib.Core.Path.{◌≡◌, sym, ap, ◌∙◌}
use Prim.Native.Nat.{ℕ, ◌+◌, ◌≤◌}
use native.Mathlib.Omega.{arith}
use mathlib.Core.List.{List, ◌++◌}
use lib.ListN.{length, take, drop, length-drop, take-append-drop}
use lib.Seq.{length-take-le, take-append-le, drop-append-le}
use Rattle.octets.specs.Bytes.{Bytes, written}
use Rattle.octets.proofs.Written.{length_written, written_left, written_over, written_apart, drop_written, written_same, written_parts}
use Rattle.octets.proofs.Elements.{bytes_written}
use Rattle.dhcp_message.specs.Image.{head_with}

-- a stretch before what is written stands as it was
before_written : (i n at : ℕ) (new old : List ℕ) → i + n ≤ at → at ≤ length old → take n (drop i (written at new old)) ≡ take n (drop i old)
before_written i n at new old h l =
    let p = take at old in
    let inside : i + n ≤ length p = rw (length-take-le at old l) h in
    let front : (q : List ℕ) → take n (drop i (p ++ q)) ≡ take n (drop i p) =
    λ q. ap (take n) (drop-append-le i p q (omega arith)) ∙ take-append-le n (drop i p) q (rw length-drop (omega arith)) in
    ap (λ (x : List ℕ). take n (drop i x)) (written_parts at new old) ∙ front (new ++ drop (at + length new) old)
    ∙ sym (front (drop at old)) ∙ ap (λ (x : List ℕ). take n (drop i x)) (take-append-drop at old)

module _ (x y : List ℕ) (hx : length x ≡ 1) (hy : length y ≡ 4) (p : List ℕ) (h : 28 ≤ length p) where
  hops_fit : 3 + length x ≤ length p
  hops_fit = omega arith

  hops_kept : length (written 3 x p) ≡ length p
  hops_kept = length_written 3 x p hops_fit

  giaddr_fit : 24 + length y ≤ length (written 3 x p)
  giaddr_fit = omega (arith, hops_kept)

  pub head_left : (q : List ℕ) → head_with x y (p ++ q) ≡ head_with x y p ++ q
  head_left q = ap (written 24 y) (written_left 3 x p q hops_fit) ∙ written_left 24 y (written 3 x p) q giaddr_fit

  pub head_length : length (head_with x y p) ≡ length p
  head_length = length_written 24 y (written 3 x p) giaddr_fit ∙ hops_kept

  pub head_behind : (k : ℕ) → 28 ≤ k → k ≤ length p → drop k (head_with x y p) ≡ drop k p
  head_behind k m n =
      drop_written k 24 y (written 3 x p) (omega arith) (omega (arith, hops_kept)) ∙ drop_written k 3 x p (omega arith) n

  pub head_over : (z w : List ℕ) → length z ≡ 1 → length w ≡ 4 → head_with z w (head_with x y p) ≡ head_with z w p
  head_over z w hz hw =
      let k : length (written 3 z (written 3 x p)) ≡ length (written 3 x p) = length_written 3 z (written 3 x p) (omega (arith, hops_kept)) in
      ap (written 24 w) (sym (written_apart 3 24 z y (written 3 x p) (omega arith) (omega (arith, hops_kept))))
      ∙ written_over 24 y w (written 3 z (written 3 x p)) (hy ∙ sym hw) (omega (arith, hops_kept))
      ∙ ap (written 24 w) (written_over 3 x z p (hx ∙ sym hz) (omega arith))

  -- a stretch before hops, and one between hops and giaddr
  pub part_first : (i n : ℕ) → i + n ≤ 3 → take n (drop i (head_with x y p)) ≡ take n (drop i p)
  part_first i n l =
      before_written i n 24 y (written 3 x p) (omega arith) (omega (arith, hops_kept)) ∙ before_written i n 3 x p l (omega arith)

  pub part_between : (i n : ℕ) → 4 ≤ i → i + n ≤ 24 → take n (drop i (head_with x y p)) ≡ take n (drop i p)
  part_between i n k l =
      before_written i n 24 y (written 3 x p) l (omega (arith, hops_kept)) ∙ ap (take n) (drop_written i 3 x p (omega arith) (omega arith))

-- a header's own hops and giaddr, written again
pub head_own : (p : List ℕ) → 28 ≤ length p → head_with (take 1 (drop 3 p)) (take 4 (drop 24 p)) p ≡ p
head_own p h =
    ap (written 24 (take 4 (drop 24 p))) (written_same 3 1 p (omega arith)) ∙ written_same 24 4 p (omega arith)

pub head_bytes : (x y p : List ℕ) → Bytes x → Bytes y → Bytes p → Bytes (head_with x y p)
head_bytes x y p bx by bp = bytes_written 24 y (written 3 x p) by (bytes_written 3 x p bx bp)
