-- `digest_steps::digest_feed` meets its contract: where the piece is refused, what is lent stays, and is the state that it was put together to.
use Rattle.std.proofs.Common.{ap, sym, ◌∙◌, rules}
use Rattle.md5_digest.specs.declared.Digest.{Digest}
use Rattle.md5_digest.specs.Entries.{feed_of}
use Rattle.digest_steps.specs.State.{state_of}
use Rattle.digest_steps.proofs.Lent.{four_back}
use Rattle.digest_steps.proofs.digest_feed.Goals as goal

pub returns-in-Err-clause-words : goal.returns-in-Err-clause-words
returns-in-Err-clause-words c =
    let e = c.in-Err.ensures ∙ ap (λ (d : Digest). feed_of d c.args.piece.now) c.state_of.ensures in
    rw (← e) (sym (four_back _ _ _ (search rules)))

pub returns-in-Err-clause-tail : goal.returns-in-Err-clause-tail
unfolding state_of
returns-in-Err-clause-tail c =
    let e = c.in-Err.ensures ∙ ap (λ (d : Digest). feed_of d c.args.piece.now) c.state_of.ensures in
    rw (← e)

pub returns-in-Err-clause-total : goal.returns-in-Err-clause-total
unfolding state_of
returns-in-Err-clause-total c =
    let e = c.in-Err.ensures ∙ ap (λ (d : Digest). feed_of d c.args.piece.now) c.state_of.ensures in
    rw (← e)
