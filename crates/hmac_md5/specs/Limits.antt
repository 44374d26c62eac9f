-- The limits, in numbers, for every key and every text: RFC 2104 takes a key of up to 64 bytes as it is and digests a longer one; the entry takes
-- keys to 64 bytes, and texts to 65,535 bytes less the block that the key fills (docs/RULES.md, 'Digests'). The one proof is in proofs/Limits.antt.
use Rattle.std.specs.Prelude.{ℕ, ◌≤◌, ◌≡◌, List, length}
use Rattle.octets.specs.Bytes.{zeros}
use Rattle.refusal.specs.Number.{result_number, given_or}
use Rattle.md5_digest.specs.Message.{md5}
use Rattle.md5_digest.specs.Entries.{no_digest}
use Rattle.hmac_md5.specs.Hmac.{key_for, hmac_of}

pub record HmacLimits : Type 0 where
  pub key_as_it_is : (key : List ℕ) → length key ≡ 64 → key_for key ≡ key
  pub key_digested : (key : List ℕ) → length key ≡ 65 → key_for key ≡ md5 key
  pub taken : (key text : List ℕ) → length key ≡ 64 → length text ≡ 65471 → result_number (hmac_of key text) ≡ 0
  pub key_refused : (key text : List ℕ) → length key ≡ 65
      → (result_number (hmac_of key text) ≡ 14) × (given_or no_digest (hmac_of key text) ≡ zeros 16)
  pub text_refused : (key text : List ℕ) → length key ≤ 64 → length text ≡ 65472
      → (result_number (hmac_of key text) ≡ 14) × (given_or no_digest (hmac_of key text) ≡ zeros 16)
