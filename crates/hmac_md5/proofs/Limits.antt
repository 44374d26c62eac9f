-- The proof of specs/Limits.antt: the cases of the key and of the entry, at the limits and one past each.
use mathlib.Core.Path.{ap}
use mathlib.Core.Bool.{Bool, cond}
use native.Mathlib.Omega.{arith}
use borrow.Author.Tests.{le-leb, lt-leb}
use lib.ListN.{length}
use Rattle.md5_digest.specs.Block.{block_size}
use Rattle.md5_digest.specs.Message.{md5}
use Rattle.refusal.specs.Number.{result_number, given_or}
use Rattle.md5_digest.specs.Entries.{no_digest}
use Rattle.hmac_md5.specs.Limits.{HmacLimits}
use Rattle.hmac_md5.proofs.Masks.{hmac_key_refused, hmac_text_refused, hmac_taken}

pub hmac_limits : HmacLimits
hmac_limits = record {
  key_as_it_is = λ key e. rw (le-leb (length key) block_size (omega arith));
  key_digested = λ key e. ap (λ (t : Bool). cond t key (md5 key)) (lt-leb (length key) block_size (omega arith));
  taken = λ key text k t. ap result_number (hmac_taken key text (omega arith) (omega arith));
  key_refused = λ key text k. let r = hmac_key_refused key text (omega arith) in (ap result_number r, ap (given_or no_digest) r);
  text_refused = λ key text k t. let r = hmac_text_refused key text k (omega arith) in (ap result_number r, ap (given_or no_digest) r);
}
