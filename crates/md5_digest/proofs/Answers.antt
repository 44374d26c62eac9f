-- Laws of the entries' answers: each by the limit on its total, and as the code comes to it.
use mathlib.Core.Path.{◌≡◌, refl, sym, ap, ap₂, ◌∙◌}
use mathlib.Core.List.{List, ◌∷◌, ◌++◌, append_assoc}
use Prim.Native.Nat.{ℕ, suc, ◌+◌, ◌-◌, ◌*◌, ◌/◌, ◌%◌, ◌≤◌, ◌<◌}
use native.Mathlib.Omega.{arith}
use borrow.Author.Tests.{le-leb, lt-leb}
use lib.ListN.{length, take, set, length-append, length-replicate}
use lib.Seq.{take-append-add, set_at}
use Rattle.std.specs.Prelude.{Ok, Err}
use Rattle.octets.specs.Bytes.{written, zeros}
use Rattle.octets.specs.Numbers.{le}
use Rattle.octets.proofs.Written.{take_written}
use Rattle.octets.proofs.Filled.{take_zeros, filled_parts, written_zeros}
use Rattle.octets.proofs.LowFirst.{le_length}
use Rattle.refusal.specs.declared.Refusal.TheVariants.{TooLong}
use Rattle.md5_block.specs.declared.Words.{Words}
use Rattle.md5_digest.specs.declared.Digest.{Digest}
use Rattle.md5_block.specs.Block.{compress}
use Rattle.md5_digest.specs.Block.{block_size, load, blocks, whole}
use Rattle.md5_digest.specs.Message.{start, padding, padded, output, md5}
use Rattle.md5_digest.specs.Entries.{digest_most, digest_size, fresh, held, absorb, feed_of, finish_of, md5_of, after_rest}
use Rattle.md5_digest.proofs.Whole.{blocks_one, whole_front}
use Rattle.md5_digest.proofs.Absorb.{fresh_long, fresh_total, absorb_fresh, absorb_words, absorb_total, absorb_append}

-- ---- the entries' answers, by the limit

pub feed_taken : (d : Digest) (s : List ℕ) → d.total + length s ≤ digest_most → feed_of d s ≡ Ok (absorb d s)
unfolding feed_of
feed_taken d s h = rw (le-leb (d.total + length s) digest_most h)

pub feed_refused : (d : Digest) (s : List ℕ) → digest_most < d.total + length s → feed_of d s ≡ Err TooLong
unfolding feed_of
feed_refused d s h = rw (lt-leb (d.total + length s) digest_most h)

pub finish_taken : (d : Digest) → d.total ≤ digest_most → finish_of d ≡ Ok (output (absorb d (padding d.total)).words)
unfolding finish_of
finish_taken d h = rw (le-leb d.total digest_most h)

pub finish_refused : (d : Digest) → digest_most < d.total → finish_of d ≡ Err TooLong
unfolding finish_of
finish_refused d h = rw (lt-leb d.total digest_most h)

pub md5_taken : (s : List ℕ) → length s ≤ digest_most → md5_of s ≡ Ok (md5 s)
unfolding md5_of
md5_taken s h = rw (le-leb (length s) digest_most h)

pub md5_refused : (s : List ℕ) → digest_most < length s → md5_of s ≡ Err TooLong
unfolding md5_of
md5_refused s h = rw (lt-leb (length s) digest_most h)

pub output_size : (w : Words) → length (output w) ≡ digest_size
unfolding output
output_size w = simp (length-append, le_length) refl

pub md5_size : (s : List ℕ) → length (md5 s) ≡ digest_size
unfolding md5
md5_size s = output_size (blocks (length (padded s) / block_size) (padded s) start)

pub padded_long : (s : List ℕ) → length (padded s) ≡ block_size * (1 + (length s + 8) / block_size)
unfolding padded padding
padded_long s = simp (length-append, length-replicate, le_length) (omega arith)

-- a fresh state that has taken s ends in the digest of s
pub md5_of_fresh : (s : List ℕ) → length s ≤ digest_most → finish_of (absorb fresh s) ≡ Ok (md5 s)
unfolding md5 padded
md5_of_fresh s h =
    let e : (absorb fresh s).total ≡ length s = omega (arith, absorb_total fresh s, fresh_total) in
    cc (finish_taken (absorb fresh s) (omega arith), absorb_append fresh fresh_long s (padding (length s)), absorb_fresh (s ++ padding (length s)))

-- ---- as the code comes to them

-- the words after all of s and its padding
pub md5_all : (s : List ℕ) (w : Words) → length s ≤ digest_most → w ≡ whole (s ++ padding (length s)) start
    → Ok (output w) ≡ md5_of s
unfolding md5 padded
md5_all s w h e = rw e (sym (md5_taken s h))

-- the words after the bytes held and the padding
pub finish_all : (d : Digest) (w : Words) → d.total ≤ digest_most → w ≡ whole (held d ++ padding d.total) d.words
    → Ok (output w) ≡ finish_of d
finish_all d w h e = rw (e, ← (absorb_words d (padding d.total))) (sym (finish_taken d h))

-- a first block, and the rest of the message
pub after_rest_lem : (w : Words) (s : List ℕ) → block_size + length s ≤ digest_most → after_rest w s ≡ whole (s ++ padding (block_size + length s)) w
unfolding after_rest
after_rest_lem w s h = rw (le-leb (block_size + length s) digest_most h)

pub after_none : (w : Words) (s : List ℕ) → digest_most < block_size + length s → after_rest w s ≡ w
unfolding after_rest
after_none w s h = rw (lt-leb (block_size + length s) digest_most h)

pub md5_in_two : (first s : List ℕ) → length first ≡ block_size → block_size + length s ≤ digest_most
    → md5 (first ++ s) ≡ output (after_rest (compress start (load first)) s)
unfolding md5 padded
md5_in_two first s l h =
    let n : length (first ++ s) ≡ block_size + length s = omega (arith, length-append first s) in
    ap (λ (v : Words). output v)
    (ap (λ (k : ℕ). whole (first ++ s ++ padding k) start) n
    ∙ ap (λ (b : List ℕ). whole b start) (append_assoc first s (padding (block_size + length s)))
    ∙ whole_front first (s ++ padding (block_size + length s)) start l
    ∙ sym (after_rest_lem (compress start (load first)) s h))

-- where the rest is a digest, it makes one block with its padding
digest_padded : (w : Words) → length (output w ++ padding (block_size + digest_size)) ≡ block_size
unfolding padding
digest_padded w = simp (length-append, le_length, output_size) refl

pub after_digest : (v w : Words) → after_rest v (output w) ≡ compress v (load (output w ++ padding (block_size + digest_size)))
after_digest v w =
    let l = output_size w in
    after_rest_lem v (output w) (omega arith)
    ∙ ap (λ (n : ℕ). whole (output w ++ padding (block_size + n)) v) l
    ∙ blocks_one (output w ++ padding (block_size + digest_size)) v (digest_padded w)

-- what is left of a message, the single 1 bit and the count of bits, written into zeros
pub last_bytes : (r : List ℕ) (n : ℕ) → length r ≡ n % block_size → let size = block_size * (1 + (length r + 8) / block_size) in
    take size (written (size - 8) (le 8 (n * 8)) (set (written 0 r (zeros (2 * block_size))) (length r) 0x80)) ≡ r ++ padding n
unfolding padding
last_bytes r n l =
    let size : ℕ = block_size * (1 + (length r + 8) / block_size) in
    let k : ℕ = (119 - n % block_size) % block_size in
    let count = le 8 (n * 8) in
    let m = le_length 8 (n * 8) in
    let e : size - 8 ≡ length r + suc k = omega arith in
    let f : size ≡ length r + suc k + length count = omega arith in
    let g : 2 * block_size - length r ≡ suc (127 - length r) = omega arith in
    let q = r ++ 0x80 ∷ zeros (127 - length r) in
    let room : set (written 0 r (zeros (2 * block_size))) (length r) 0x80 ≡ q =
    ap (λ (b : List ℕ). set b (length r) 0x80) (written_zeros (2 * block_size) r ∙ filled_parts (2 * block_size) r ∙ ap (λ (j : ℕ). r ++ zeros j) g)
    ∙ set_at r 0 (zeros (127 - length r)) 0x80 (length r) refl in
    let long : length q ≡ 2 * block_size = length-append r (0x80 ∷ zeros (127 - length r)) ∙ omega (arith, length-replicate {A = ℕ} (127 - length r) 0) in
    ap (λ (b : List ℕ). take size (written (size - 8) count b)) room
    ∙ ap₂ (λ (i j : ℕ). take i (written j count q)) f e
    ∙ take_written (length r + suc k) count q (omega arith)
    ∙ ap (λ (b : List ℕ). b ++ count)
    (take-append-add r (0x80 ∷ zeros (127 - length r)) (suc k) ∙ ap (λ (b : List ℕ). r ++ 0x80 ∷ b) (take_zeros k (127 - length r) (omega arith)))
    ∙ append_assoc r (0x80 ∷ zeros k) count
