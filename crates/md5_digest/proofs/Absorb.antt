-- Laws of `absorb`: bytes absorbed one piece after the other are absorbed as one, and the two cases that the code goes by.
use mathlib.Core.Path.{◌≡◌, refl, sym, ap, ap₂, ◌∙◌}
use mathlib.Core.List.{List, [], ◌++◌, append_assoc}
use Prim.Native.Nat.{ℕ, ◌+◌, ◌-◌, ◌*◌, ◌/◌, ◌%◌, ◌≤◌, ◌<◌}
use native.Mathlib.Omega.{arith}
use lib.ListN.{length, take, drop, length-append, take-append-drop, drop_of_length-le}
use lib.Seq.{length-take-le, drop-append-le, take_all, drop-drop}
use Rattle.octets.specs.Bytes.{written, zeros, filled}
use Rattle.octets.proofs.Written.{length_written, take_written, written_last}
use Rattle.octets.proofs.Filled.{filled_parts, length_filled, take_filled, drop_filled, cleared_from, written_zeros}
use Rattle.md5_block.specs.declared.Words.{Words}
use Rattle.md5_digest.specs.declared.Digest.{Digest}
use Rattle.md5_block.specs.Block.{compress}
use Rattle.md5_digest.specs.Block.{block_size, load, blocks, whole}
use Rattle.md5_digest.specs.Message.{start}
use Rattle.md5_digest.specs.Entries.{fresh, held, settle, absorb}
use Rattle.md5_digest.proofs.Whole.{blocks_few, blocks_one, rest, length_rest, part_rest, count_append, whole_append}

-- ---- bytes b that are to be digested after the words w, of a total of n

settle_eq : (n : ℕ) {v w : Words} {b e : List ℕ} → v ≡ w → b ≡ e
    → ◌≡◌ {A = Digest} (record { words = v; tail = filled block_size b; total = n }) (record { words = w; tail = filled block_size e; total = n })
settle_eq n p q = λ i. record { words = p i; tail = filled block_size (q i); total = n }

-- the whole blocks of b may go first
settle_append : (b t : List ℕ) (w : Words) (n : ℕ) → settle (rest b ++ t) (whole b w) n ≡ settle (b ++ t) w n
unfolding settle
settle_append b t w n =
    let q : ℕ = length b / block_size in
    let m : ℕ = length (rest b ++ t) / block_size in
    let z : q * block_size + m * block_size ≡ (q + m) * block_size = omega arith in
    settle_eq n (whole_append b t w)
    (ap (drop (m * block_size)) (sym (drop-append-le (q * block_size) b t (omega arith)))
    ∙ drop-drop (m * block_size) (q * block_size) (b ++ t)
    ∙ ap (λ (j : ℕ). drop j (b ++ t)) (z ∙ ap (λ (j : ℕ). j * block_size) (count_append b t)))

-- a block in front goes through the block function
settle_block : (a t : List ℕ) (w : Words) (n : ℕ) → length a ≡ block_size → settle (a ++ t) w n ≡ settle t (compress w (load a)) n
settle_block a t w n l =
    let whole : length a ≤ length a / block_size * block_size = omega arith in
    sym (settle_append a t w n)
    ∙ ap₂ (λ (r : List ℕ) (v : Words). settle (r ++ t) v n) (drop_of_length-le a whole) (blocks_one a w l)

-- ---- a fresh state

pub fresh_long : length fresh.tail ≡ block_size
unfolding fresh
fresh_long = refl

pub fresh_total : fresh.total ≡ 0
unfolding fresh
fresh_total = refl

pub absorb_none : absorb fresh [] ≡ fresh
unfolding absorb settle fresh
absorb_none = cc (filled_parts block_size [], blocks_few [] start (omega arith))

pub absorb_fresh : (s : List ℕ) → (absorb fresh s).words ≡ blocks (length s / block_size) s start
unfolding absorb settle fresh
absorb_fresh s = refl

-- ---- a state with a piece more

pub absorb_words : (d : Digest) (s : List ℕ) → (absorb d s).words ≡ whole (held d ++ s) d.words
unfolding absorb settle
absorb_words d s = refl

pub absorb_total : (d : Digest) (s : List ℕ) → (absorb d s).total ≡ d.total + length s
unfolding absorb settle
absorb_total d s = refl

module _ (d : Digest) (l : length d.tail ≡ block_size) where
  length_held : length (held d) ≡ d.total % block_size
  length_held = length-take-le (d.total % block_size) d.tail (omega arith)

  length_left : (s : List ℕ) → length (rest (held d ++ s)) ≡ (d.total + length s) % block_size
  length_left s = length_rest (held d ++ s) ∙ omega (arith, length-append (held d) s, length_held)

  -- the tail past the bytes in use is 0
  pub tail_absorbed : (s : List ℕ)
      → (length (absorb d s).tail ≡ block_size)
      × (drop ((d.total + length s) % block_size) (absorb d s).tail ≡ zeros (block_size - (d.total + length s) % block_size))
  unfolding absorb settle
  tail_absorbed s =
      let r = rest (held d ++ s) in
      let e = length_left s in
      (length_filled block_size r (omega arith), drop_filled block_size r ((d.total + length s) % block_size) e)

  -- two pieces, one after the other, are one
  pub absorb_append : (s t : List ℕ) → absorb (absorb d s) t ≡ absorb d (s ++ t)
  unfolding absorb settle
  absorb_append s t =
      let b = held d ++ s in
      let n : ℕ = d.total + length s in
      let e : n + length t ≡ d.total + length (s ++ t) = omega (arith, length-append s t) in
      ap (λ (h : List ℕ). settle (h ++ t) (blocks (length b / block_size) b d.words) (n + length t))
      (take_filled block_size (rest b) (n % block_size) (length_left s))
      ∙ settle_append b t d.words (n + length t)
      ∙ ap₂ (λ (k : ℕ) (v : List ℕ). settle v d.words k) e (append_assoc (held d) s t)

  -- a piece that does not fill the tail
  pub absorb_short : (s : List ℕ) → d.total % block_size + length s < block_size
      → absorb d s ≡ record { words = d.words; tail = filled block_size (held d ++ s); total = d.total + length s }
  unfolding absorb settle
  absorb_short s h =
      let few : length (held d ++ s) < block_size = omega (arith, length-append (held d) s, length_held) in
      let none : length (held d ++ s) / block_size * block_size ≡ 0 = omega arith in
      settle_eq (d.total + length s) (blocks_few (held d ++ s) d.words few) (ap (λ (k : ℕ). drop k (held d ++ s)) none)

  -- a piece that fills the tail: the full tail, then what is left of the piece
  pub absorb_long : (s : List ℕ) (gap : ℕ) → d.total % block_size + gap ≡ block_size → gap ≤ length s
      → absorb d s ≡ settle (drop gap s) (compress d.words (load (held d ++ take gap s))) (d.total + length s)
  unfolding absorb
  absorb_long s gap g h =
      let n : ℕ = d.total + length s in
      let f : length (held d ++ take gap s) ≡ block_size = omega (arith, length-append (held d) (take gap s), length_held, length-take-le gap s h) in
      ap (λ (v : List ℕ). settle v d.words n)
      (ap (λ (v : List ℕ). held d ++ v) (sym (take-append-drop gap s)) ∙ sym (append_assoc (held d) (take gap s) (drop gap s)))
      ∙ settle_block (held d ++ take gap s) (drop gap s) d.words n f

-- ---- the tail, as the code writes it

-- a piece behind the bytes in use, and zeros behind that
pub tail_short : (tail s : List ℕ) (used : ℕ) → length tail ≡ block_size → used + length s < block_size
    → written (used + length s) (zeros (block_size - used - length s)) (written used s tail) ≡ filled block_size (take used tail ++ s)
tail_short tail s used l h =
    let n : length (written used s tail) ≡ length tail = length_written used s tail (omega arith) in
    let e : block_size - used - length s ≡ length (written used s tail) - (used + length s) = omega arith in
    ap (λ (k : ℕ). written (used + length s) (zeros k) (written used s tail)) e
    ∙ cleared_from (used + length s) (written used s tail) (omega arith)
    ∙ ap₂ filled (n ∙ l) (take_written used s tail (omega arith))

-- the bytes that fill it
pub tail_full : (tail s : List ℕ) (used gap : ℕ) → length tail ≡ block_size → used + gap ≡ block_size → gap ≤ length s
    → take block_size (written used (take gap s) tail) ≡ take used tail ++ take gap s
tail_full tail s used gap l g h =
    let k = length-take-le gap s h in
    let n = length_written used (take gap s) tail (omega arith) in
    take_all block_size (written used (take gap s) tail) (omega arith) ∙ written_last used (take gap s) tail (omega arith)

-- ---- as the code comes to them

-- what is left behind the whole blocks of s, written over a tail of zeros
pub settled_lem : (s tail : List ℕ) (w words : Words) (total : ℕ) → let from = length s - length s % block_size in
    words ≡ whole s w → tail ≡ written 0 (take (length s - from) (drop from s)) (zeros block_size)
    → ◌≡◌ {A = Digest} (record { words = words; tail = tail; total = total }) (settle s w total)
unfolding settle
settled_lem s tail w words total e f =
    let kept = f ∙ ap (λ (r : List ℕ). written 0 r (zeros block_size)) (part_rest s) ∙ written_zeros block_size (rest s) in
    λ i. record { words = e i; tail = kept i; total = total }
