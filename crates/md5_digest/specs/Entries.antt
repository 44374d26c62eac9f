-- What the entries answer: the digest in progress, the limit on its total and the refusals (docs/RULES.md, 'Digests').
-- Every state has an answer, also one that no run of feeds makes.
use Rattle.std.specs.Prelude.{ℕ, ◌+◌, ◌*◌, ◌/◌, ◌%◌, cond, List, ◌++◌, leb, length, take, drop, Result, Ok, Err}
use Rattle.octets.specs.Bytes.{zeros, filled}
use Rattle.refusal.specs.declared.Refusal.{Refusal}
use Rattle.refusal.specs.declared.Refusal.TheVariants.{TooLong}
use Rattle.md5_block.specs.declared.Words.{Words}
use Rattle.md5_digest.specs.declared.Digest.{Digest}
use Rattle.md5_digest.specs.Block.{block_size, blocks, whole}
use Rattle.md5_digest.specs.Message.{start, padding, output, md5}

-- the most bytes that one digest takes
abbrev pub digest_most : ℕ
digest_most = 65535

unfoldable pub fresh : Digest
fresh = record { words = start; tail = zeros block_size; total = 0 }

-- the bytes of the tail that count
abbrev pub held : Digest → List ℕ
held d = take (d.total % block_size) d.tail

-- the state after the words w and the bytes b, of n in all: whole blocks go through the block function, what is left stays in the tail,
-- zeros behind it
unfoldable pub settle : List ℕ → Words → ℕ → Digest
settle b w n =
    record {
      words = blocks (length b / block_size) b w;
      tail = filled block_size (drop (length b / block_size * block_size) b);
      total = n;
    }

-- the bytes held, and the new ones behind them
unfoldable pub absorb : Digest → List ℕ → Digest
absorb d s = settle (held d ++ s) d.words (d.total + length s)

-- the bytes of a digest
abbrev pub digest_size : ℕ
digest_size = 16

-- zeros, which are handed over in the place of a digest that is refused
abbrev pub no_digest : List ℕ
no_digest = zeros digest_size

unfoldable pub feed_of : Digest → List ℕ → Result Digest Refusal
feed_of d s =
    cond (leb (d.total + length s) digest_most)
    (Ok (absorb d s))
    (Err TooLong)

unfoldable pub finish_of : Digest → Result (List ℕ) Refusal
finish_of d =
    cond (leb d.total digest_most)
    (Ok (output (absorb d (padding d.total)).words))
    (Err TooLong)

-- the digest of a whole message
unfoldable pub md5_of : List ℕ → Result (List ℕ) Refusal
md5_of s =
    cond (leb (length s) digest_most)
    (Ok (md5 s))
    (Err TooLong)

-- the words after the rest of a message whose first block led to w, and after its padding; past the limit w itself
unfoldable pub after_rest : Words → List ℕ → Words
after_rest w s = cond (leb (block_size + length s) digest_most) (whole (s ++ padding (block_size + length s)) w) w
