-- The proofs of specs/Promises.antt: a run of feeds from any state is one `absorb` of the joined pieces.
use mathlib.Core.Path.{◌≡◌, sym, ap, ◌∙◌}
use mathlib.Core.List.{List, [], ◌∷◌, ◌++◌, append_assoc, append-nil}
use Prim.Native.Nat.{ℕ, ◌+◌, ◌≤◌}
use native.Mathlib.Decide.{dec_le}
use native.Mathlib.Omega.{arith}
use lib.ListN.{length, length-append}
use Rattle.std.specs.Prelude.{Result}
use Rattle.refusal.specs.declared.Refusal.{Refusal}
use Rattle.refusal.specs.Number.{result_number, given_or}
use Rattle.md5_digest.specs.declared.Digest.{Digest}
use Rattle.md5_digest.specs.Block.{block_size}
use Rattle.md5_digest.specs.Entries.{digest_most, fresh, absorb, feed_of, finish_of}
use Rattle.md5_digest.specs.Promises.{fed_all, joined, AnyCutting, PiecesTaken, TailZero, RefusedKept, PaddedSize}
use Rattle.md5_digest.proofs.Absorb.{fresh_long, fresh_total, absorb_none, absorb_total, absorb_append, tail_absorbed}
use Rattle.md5_digest.proofs.Answers.{feed_taken, feed_refused, padded_long, md5_of_fresh}

-- ---- runs of feeds

fed_all_lem : (ps : List (List ℕ)) (d : Digest) (s : List ℕ) → length d.tail ≡ block_size → d.total + length (s ++ joined ps) ≤ digest_most
    → fed_all (absorb d s) ps ≡ absorb d (s ++ joined ps)
unfolding fed_all joined
fed_all_lem [] d s l h = ap (absorb d) (sym (append-nil s))
fed_all_lem (p ∷ ps) d s l h =
    let whole : s ++ p ++ joined ps ≡ s ++ (p ++ joined ps) = append_assoc s p (joined ps) in
    let n : length (s ++ (p ++ joined ps)) ≡ length s + (length p + length (joined ps)) = simp length-append in
    ap (λ (f : Result Digest Refusal). fed_all (given_or (absorb d s) f) ps) (feed_taken (absorb d s) p (omega (arith, absorb_total d s)))
    ∙ ap (λ (e : Digest). fed_all e ps) (absorb_append d l s p)
    ∙ fed_all_lem ps d (s ++ p) l (omega (arith, ap length whole))
    ∙ ap (absorb d) whole

from_fresh : (ps : List (List ℕ)) → length (joined ps) ≤ digest_most → fed_all fresh ps ≡ absorb fresh (joined ps)
from_fresh ps h = ap (λ (d : Digest). fed_all d ps) (sym absorb_none) ∙ fed_all_lem ps fresh [] fresh_long (omega (arith, fresh_total))

pub any_cutting : AnyCutting
any_cutting pieces h = ap finish_of (from_fresh pieces h) ∙ md5_of_fresh (joined pieces) h

pub pieces_taken : PiecesTaken
pieces_taken pieces piece h =
    let s = joined pieces in
    ap (λ (d : Digest). result_number (feed_of d piece)) (from_fresh pieces (omega arith))
    ∙ ap result_number (feed_taken (absorb fresh s) piece (omega (arith, absorb_total fresh s, fresh_total)))

-- ---- any state

pub tail_zero : TailZero
tail_zero d piece l h =
    elim (dec_le (d.total + length piece) digest_most) [
      | yes k ↦ rw (feed_taken d piece k, absorb_total d piece) (tail_absorbed d l piece)
      | no k ↦ absurd (omega (arith, sym h ∙ ap result_number (feed_refused d piece (omega arith))))
    ]

pub refused_kept : RefusedKept
refused_kept d piece h =
    elim (dec_le (d.total + length piece) digest_most) [
      | yes k ↦ absurd (h (ap result_number (feed_taken d piece k)))
      | no k ↦ let e = feed_refused d piece (omega arith) in (e, ap (given_or d) e)
    ]

pub padded_size : PaddedSize
padded_size = padded_long
