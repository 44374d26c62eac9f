-- Laws of `blocks`: a turn of the loop of the code, blocks one after the other, and what is left behind whole blocks.
use mathlib.Core.Path.{◌≡◌, sym, ap, ap₂, ◌∙◌}
use mathlib.Core.List.{List, ◌++◌}
use Prim.Native.Nat.{ℕ, zero, suc, ◌+◌, ◌-◌, ◌*◌, ◌/◌, ◌%◌, ◌≤◌, ◌<◌}
use native.Mathlib.Nat.{zero-add}
use native.Mathlib.Omega.{arith}
use lib.ListN.{length, take, drop, length-append, length-drop}
use lib.Seq.{take-append-le, drop-append-le, take_all, take_at, drop_at, drop-drop}
use Rattle.md5_block.specs.declared.Words.{Words}
use Rattle.md5_block.specs.Block.{compress}
use Rattle.md5_digest.specs.Block.{block_size, load, blocks, whole}

-- less than a block, and a block in front
module _ (s : List ℕ) (w : Words) where
  pub blocks_few : length s < block_size → blocks (length s / block_size) s w ≡ w
  unfolding blocks
  blocks_few h =
      let e : length s / block_size ≡ 0 = omega arith in
      rw e

  pub blocks_turn : block_size ≤ length s
      → blocks (length s / block_size) s w ≡ blocks (length (drop block_size s) / block_size) (drop block_size s) (compress w (load (take block_size s)))
  unfolding blocks
  blocks_turn h =
      let e : length s / block_size ≡ suc (length (drop block_size s) / block_size) = omega (arith, length-drop block_size s) in
      ap (λ (n : ℕ). blocks n s w) e

  pub blocks_one : length s ≡ block_size → blocks (length s / block_size) s w ≡ compress w (load s)
  unfolding blocks
  blocks_one h =
      let e : length s / block_size ≡ 1 = omega arith in
      ap (λ (n : ℕ). blocks n s w) e ∙ ap (λ (l : List ℕ). compress w (load l)) (take_all block_size s (omega arith))

-- the first q blocks of b, and m more of what follows them
blocks_on : (q m : ℕ) (b t : List ℕ) (w : Words) → q * block_size ≤ length b
    → blocks m (drop (q * block_size) b ++ t) (blocks q b w) ≡ blocks (q + m) (b ++ t) w
unfolding blocks
blocks_on zero m b t w h =
    let z : 0 * block_size ≡ 0 = omega arith in
    ap₂ (λ (i j : ℕ). blocks m (drop i b ++ t) (blocks 0 b w)) z z ∙ ap (λ (k : ℕ). blocks k (b ++ t) w) (sym (zero-add m))
blocks_on (suc q) m b t w h =
    let v = compress w (load (take block_size b)) in
    let e : suc (q + m) ≡ suc q + m = omega arith in
    let z : suc q * block_size ≡ block_size + q * block_size = omega arith in
    ap (λ (l : List ℕ). blocks m (l ++ t) (blocks q (drop block_size b) v)) (ap (λ (k : ℕ). drop k b) z ∙ sym (drop-drop (q * block_size) block_size b))
    ∙ blocks_on q m (drop block_size b) t v (omega (arith, length-drop block_size b))
    ∙ ap₂ (λ (x y : List ℕ). blocks (q + m) x (compress w (load y)))
    (sym (drop-append-le block_size b t (omega arith))) (sym (take-append-le block_size b t (omega arith)))
    ∙ ap (λ (k : ℕ). blocks k (b ++ t) w) e

-- ---- whole blocks, and what is left behind them

abbrev pub rest : List ℕ → List ℕ
rest b = drop (length b / block_size * block_size) b

pub length_rest : (b : List ℕ) → length (rest b) ≡ length b % block_size
length_rest b = length-drop (length b / block_size * block_size) b ∙ omega arith

-- the last bytes of s as the code takes them, from the last whole block on
pub part_rest : (s : List ℕ) → let from = length s - length s % block_size in take (length s - from) (drop from s) ≡ rest s
part_rest s =
    let from = length s - length s % block_size in
    let e : from ≡ length s / block_size * block_size = omega arith in
    take_all (length s - from) (drop from s) (omega (arith, length-drop from s)) ∙ ap (λ (n : ℕ). drop n s) e

-- the whole blocks of b may go first
module _ (b t : List ℕ) where
  pub count_append : length b / block_size + length (rest b ++ t) / block_size ≡ length (b ++ t) / block_size
  count_append = omega (arith, length-append b t, length-append (rest b) t, length_rest b)

  pub whole_append : (w : Words) → whole (rest b ++ t) (whole b w) ≡ whole (b ++ t) w
  whole_append w =
      blocks_on (length b / block_size) (length (rest b ++ t) / block_size) b t w (omega arith) ∙ ap (λ (n : ℕ). blocks n (b ++ t) w) count_append

-- a block in front
pub whole_front : (a t : List ℕ) (w : Words) → length a ≡ block_size → whole (a ++ t) w ≡ whole t (compress w (load a))
whole_front a t w l =
    blocks_turn (a ++ t) w (omega (arith, length-append a t))
    ∙ ap₂ (λ (x y : List ℕ). whole x (compress w (load y))) (drop_at a t block_size l) (take_at a t block_size l)

-- ---- as the code comes to them

-- a block alone is all of what it is taken from
pub load_block : (s : List ℕ) → length s ≡ block_size → load (take block_size s) ≡ load s
load_block s l = ap load (take_all block_size s (omega arith))

-- a block a in front of t, taken by its words
pub whole_turn : (s a t : List ℕ) (v u : Words) → s ≡ a ++ t → length a ≡ block_size → u ≡ compress v (load (take block_size a)) → whole t u ≡ whole s v
whole_turn s a t v u e l h = rw (h, load_block a l, e) (sym (whole_front a t v l))
