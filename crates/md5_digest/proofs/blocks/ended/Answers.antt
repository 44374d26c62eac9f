-- `md5_digest::ended` meets its contract: the room holds what is left and its padding (`last_bytes` in proofs/Answers.antt).
use Prim.Native.Nat.{ℕ, ◌+◌, ◌*◌, ◌/◌}
use mathlib.Core.Path.{◌≡◌, ap, ◌∙◌}
use mathlib.Core.List.{List, ◌++◌}
use lib.ListN.{length, take}
use Rattle.md5_digest.specs.Block.{block_size, whole}
use Rattle.md5_digest.specs.Message.{padding}
use Rattle.md5_digest.proofs.Answers.{last_bytes}
use borrow.Author.Rules.{rules}
use Rattle.md5_digest.proofs.blocks.ended.Goals as goal

pub returns : goal.returns
returns c = let bytes : take (block_size * (1 + (length c.args.rest.now + 8) / block_size)) c.put_little.new.to ≡ c.args.rest.now ++ padding c.args.total =
    rw (c.put_little.ensures, c.copy.ensures) (last_bytes c.args.rest.now c.args.total (search rules)) in
    c.whole_blocks.ensures ∙ ap (λ (b : List ℕ). whole b c.args.w) bytes
