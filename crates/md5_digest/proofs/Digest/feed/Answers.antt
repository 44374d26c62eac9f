-- `md5_digest::Digest::feed` meets its contract: the two tests are the limit of `feed_of`.
use Rattle.md5_digest.proofs.Answers.{feed_refused}
use native.Mathlib.Omega.{arith}
use Rattle.md5_digest.proofs.Digest.feed.Goals as goal

pub returns-then-total-piece : goal.returns-then-total-piece
returns-then-total-piece c = cc (feed_refused c.args.self c.args.piece.now (omega arith))
