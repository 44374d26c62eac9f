-- `hmac_md5::hmac` meets its contract: the two refusals, and the two digests of `hmac`.
-- the words after a first block
use mathlib.Core.Path.{◌≡◌, ap, ◌∙◌}
use mathlib.Core.List.{List, map}
use Prim.Native.Nat.{ℕ}
use lib.Bits.{bit_xor}
use Rattle.octets.specs.Bytes.{filled}
use Rattle.md5_block.specs.declared.Words.{Words}
use Rattle.md5_block.specs.Block.{compress}
use Rattle.md5_digest.specs.Block.{block_size, load}
use Rattle.md5_digest.specs.Message.{start}
use Rattle.hmac_md5.specs.Hmac.{ipad, opad}
use Rattle.hmac_md5.proofs.Masks.{hmac_made}
use native.Mathlib.Omega.{arith}
use Rattle.hmac_md5.proofs.hmac.Goals as goal

abbrev first : List ℕ → Words
first block = compress start (load block)

pub returns : goal.returns
returns c = let key : c.padded_key-padded.result ≡ filled block_size c.args.key.now = c.padded_key-padded.ensures in
    cc (hmac_made c.args.key.now c.args.message.now c.last_block-last.result c.words_after_first-inner.result
    c.words_after_first-outer.result c.words_after_rest.result (omega arith) (omega arith)
    (c.words_after_first-inner.ensures ∙ ap first (c.masked_block.ensures ∙ ap (map (λ (b : ℕ). bit_xor b ipad)) key))
    (c.words_after_first-outer.ensures ∙ ap first (c.masked_block-2.ensures ∙ ap (map (λ (b : ℕ). bit_xor b opad)) key))
    c.words_after_rest.ensures c.last_block-last.ensures)
