-- Demand 1 of the digest in progress, the whole digest and HMAC: their one number, 14, is given exactly where a total would pass its limit or a key
-- is too long.
use mathlib.Core.Path.{◌≡◌, ap}
use mathlib.Core.Logic.{◌≢◌}
use mathlib.Core.List.{List}
use Prim.Native.Nat.{ℕ, ◌+◌, ◌≤◌, ◌<◌}
use native.Mathlib.Decide.{dec_le}
use native.Mathlib.Omega.{arith}
use lib.ListN.{length}
use Rattle.refusal.specs.Number.{number_of, done, result_number, given_or}
use Rattle.refusal.specs.Lowest.{NothingBelow, Lowest}
use Rattle.refusal.specs.declared.Refusal.{Refusal}
use Rattle.refusal.specs.declared.Refusal.TheVariants.{TooLong}
use Rattle.refusal.proofs.Lowest.{lowest}
use Rattle.md5_digest.specs.declared.Digest.{Digest}
use Rattle.md5_digest.specs.Block.{block_size}
use Rattle.md5_digest.specs.Entries.{digest_most, no_digest, feed_of, finish_of, md5_of}
use Rattle.md5_digest.proofs.Answers.{feed_taken, feed_refused, finish_taken, finish_refused, md5_taken, md5_refused}
use Rattle.hmac_md5.specs.Hmac.{key_most, hmac_of}
use Rattle.hmac_md5.proofs.Masks.{hmac_key_refused, hmac_text_refused, hmac_taken}
use Rattle.demands.specs.Demand1.{DigestApplies, passes_limit, HmacApplies, long_key, long_text}
use Rattle.std.specs.Prelude.{Err, None, Some}
use Rattle.octets.specs.Bytes.{zeros}

-- ---- digests

-- an answer that goes by the limit alone
limited : (n number : ℕ) → (n ≤ digest_most → number ≡ done) → (digest_most < n → number ≡ number_of TooLong) → Lowest (DigestApplies n) number
limited n number taken too_long =
    elim (dec_le n digest_most) [
      | yes h ↦ rw (taken h) (lowest (DigestApplies n) None (none_long h))
      | no h ↦ rw (too_long (omega arith)) (lowest (DigestApplies n) (Some TooLong) (passes_limit (omega arith), only_long))
    ]
  where
    none_long : n ≤ digest_most → (r : Refusal) → DigestApplies n r → ⊥
    none_long h r (passes_limit l) = omega arith

    only_long : NothingBelow (DigestApplies n) (number_of TooLong)
    only_long q l (passes_limit h) = omega arith

pub feed_number : (d : Digest) (s : List ℕ) → Lowest (DigestApplies (d.total + length s)) (result_number (feed_of d s))
feed_number d s = limited _ _ (λ h. ap result_number (feed_taken d s h)) (λ h. ap result_number (feed_refused d s h))

pub finish_number : (d : Digest) → Lowest (DigestApplies d.total) (result_number (finish_of d))
finish_number d = limited _ _ (λ h. ap result_number (finish_taken d h)) (λ h. ap result_number (finish_refused d h))

pub digest_number : (s : List ℕ) → Lowest (DigestApplies (length s)) (result_number (md5_of s))
digest_number s = limited _ _ (λ h. ap result_number (md5_taken s h)) (λ h. ap result_number (md5_refused s h))

-- ---- HMAC

module _ (key text : List ℕ) where
  only_long : NothingBelow (HmacApplies key text) (number_of TooLong)
  only_long q l (long_key h) = omega arith
  only_long q l (long_text h) = omega arith

  none_long : length key ≤ key_most → block_size + length text ≤ digest_most → (r : Refusal) → HmacApplies key text r → ⊥
  none_long h g r (long_key l) = omega arith
  none_long h g r (long_text l) = omega arith

  pub hmac_number : Lowest (HmacApplies key text) (result_number (hmac_of key text))
  hmac_number =
      elim (dec_le (length key) key_most) [
        | no h ↦ rw (hmac_key_refused key text (omega arith)) (lowest (HmacApplies key text) (Some TooLong) (long_key (omega arith), only_long))
        | yes h ↦ elim (dec_le (block_size + length text) digest_most) [
          | no g ↦ rw (hmac_text_refused key text h (omega arith)) (lowest (HmacApplies key text) (Some TooLong) (long_text (omega arith), only_long))
          | yes g ↦ rw (hmac_taken key text h g) (lowest (HmacApplies key text) None (none_long h g))
        ]
      ]

-- ---- what a refusal leaves: zeros

pub finish_zeros : (d : Digest) → result_number (finish_of d) ≢ done → (finish_of d ≡ Err TooLong) × (given_or no_digest (finish_of d) ≡ zeros 16)
finish_zeros d h =
    elim (dec_le d.total digest_most) [
      | yes l ↦ absurd (h (ap result_number (finish_taken d l)))
      | no l ↦ let e = finish_refused d (omega arith) in (e, ap (given_or no_digest) e)
    ]

pub digest_zeros : (s : List ℕ) → result_number (md5_of s) ≢ done → (md5_of s ≡ Err TooLong) × (given_or no_digest (md5_of s) ≡ zeros 16)
digest_zeros s h =
    elim (dec_le (length s) digest_most) [
      | yes l ↦ absurd (h (ap result_number (md5_taken s l)))
      | no l ↦ let e = md5_refused s (omega arith) in (e, ap (given_or no_digest) e)
    ]

pub hmac_zeros : (key text : List ℕ) → result_number (hmac_of key text) ≢ done
    → (hmac_of key text ≡ Err TooLong) × (given_or no_digest (hmac_of key text) ≡ zeros 16)
hmac_zeros key text h =
    elim (dec_le (length key) key_most) [
      | no l ↦ let e = hmac_key_refused key text (omega arith) in (e, ap (given_or no_digest) e)
      | yes l ↦ elim (dec_le (block_size + length text) digest_most) [
        | no g ↦ let e = hmac_text_refused key text l (omega arith) in (e, ap (given_or no_digest) e)
        | yes g ↦ absurd (h (ap result_number (hmac_taken key text l g)))
      ]
    ]
