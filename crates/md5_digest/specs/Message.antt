-- RFC 1321, sections 3.1 to 3.5: padding, the starting words, and the digest of a whole message, of any length.
use Rattle.std.specs.Prelude.{ℕ, ◌-◌, ◌*◌, ◌/◌, ◌%◌, List, ◌∷◌, ◌++◌, length}
use Rattle.octets.specs.Bytes.{zeros}
use Rattle.octets.specs.Numbers.{le}
use Rattle.md5_block.specs.declared.Words.{Words}
use Rattle.md5_digest.specs.Block.{block_size, blocks}

-- sections 3.1 and 3.2, what follows a message of n bytes: a single 1 bit, 0 bits until the length is 56 bytes past a multiple of 64, and the
-- number of the message's bits in 8 bytes (119 is 64 + 55: the byte with the 1 bit is one of the 56)
unfoldable pub padding : ℕ → List ℕ
padding n = 0x80 ∷ zeros ((119 - n % block_size) % block_size) ++ le 8 (n * 8)

-- section 3.3
abbrev pub start : Words
start = record { a = 0x67452301; b = 0xefcdab89; c = 0x98badcfe; d = 0x10325476 }

-- section 3.5: A, B, C, D, beginning with the low-order byte of A
unfoldable pub output : Words → List ℕ
output w = le 4 w.a ++ le 4 w.b ++ le 4 w.c ++ le 4 w.d

-- a message with its padding
unfoldable pub padded : List ℕ → List ℕ
padded s = s ++ padding (length s)

unfoldable pub md5 : List ℕ → List ℕ
md5 s = output (blocks (length (padded s) / block_size) (padded s) start)
