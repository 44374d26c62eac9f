-- The limit on a digest's total, in numbers, for every state and every message (docs/RULES.md, 'Digests'). The one proof is in proofs/Limits.antt.
use Rattle.std.specs.Prelude.{ℕ, ◌+◌, ◌≡◌, List, length}
use Rattle.octets.specs.Bytes.{zeros}
use Rattle.refusal.specs.Number.{result_number, given_or}
use Rattle.md5_digest.specs.declared.Digest.{Digest}
use Rattle.md5_digest.specs.Entries.{no_digest, feed_of, finish_of, md5_of}

pub record Md5Limits : Type 0 where
  pub fed : (d : Digest) (piece : List ℕ) → d.total + length piece ≡ 65535 → result_number (feed_of d piece) ≡ 0
  pub not_fed : (d : Digest) (piece : List ℕ) → d.total + length piece ≡ 65536
      → (result_number (feed_of d piece) ≡ 14) × (given_or d (feed_of d piece) ≡ d)
  pub finished : (d : Digest) → d.total ≡ 65535 → result_number (finish_of d) ≡ 0
  pub not_finished : (d : Digest) → d.total ≡ 65536 → (result_number (finish_of d) ≡ 14) × (given_or no_digest (finish_of d) ≡ zeros 16)
  pub digested : (message : List ℕ) → length message ≡ 65535 → result_number (md5_of message) ≡ 0
  pub not_digested : (message : List ℕ) → length message ≡ 65536
      → (result_number (md5_of message) ≡ 14) × (given_or no_digest (md5_of message) ≡ zeros 16)
