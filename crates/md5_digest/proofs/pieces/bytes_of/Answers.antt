-- `md5_digest::bytes_of` meets its contract: word after word is written.
use mathlib.Core.Path.{◌≡◌, refl}
use Rattle.octets.specs.Bytes.{written, zeros}
use Rattle.octets.specs.Numbers.{le}
use Rattle.md5_block.specs.declared.Words.{Words}
use Rattle.md5_digest.specs.Message.{output}
use Rattle.md5_digest.specs.Entries.{digest_size}
use Rattle.md5_digest.proofs.pieces.bytes_of.Goals as goal

all_written : (w : Words) → written 12 (le 4 w.d) (written 8 (le 4 w.c) (written 4 (le 4 w.b) (written 0 (le 4 w.a) (zeros digest_size)))) ≡ output w
unfolding output le written
all_written w = refl

pub returns : goal.returns
returns c =
    rw (c.put_little-4.ensures, c.put_little-3.ensures, c.put_little-2.ensures, c.put_little.ensures) (all_written c.args.w)
