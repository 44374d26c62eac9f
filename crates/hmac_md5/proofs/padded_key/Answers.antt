-- `hmac_md5::padded_key` meets its contract: the key over zeros.
use mathlib.Core.Path.{◌∙◌}
use Rattle.octets.proofs.Filled.{written_zeros}
use Rattle.md5_digest.specs.Block.{block_size}
use Rattle.hmac_md5.proofs.padded_key.Goals as goal

pub returns : goal.returns
returns c = c.copy.ensures ∙ written_zeros block_size _
