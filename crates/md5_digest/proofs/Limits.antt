-- The proof of specs/Limits.antt: each entry's two cases, at the limit and one past it.
use mathlib.Core.Path.{ap}
use native.Mathlib.Omega.{arith}
use Rattle.refusal.specs.Number.{result_number, given_or}
use Rattle.md5_digest.specs.Entries.{no_digest}
use Rattle.md5_digest.specs.Limits.{Md5Limits}
use Rattle.md5_digest.proofs.Answers.{feed_taken, feed_refused, finish_taken, finish_refused, md5_taken, md5_refused}

pub md5_limits : Md5Limits
md5_limits = record {
  fed = λ d piece e. ap result_number (feed_taken d piece (omega arith));
  not_fed = λ d piece e. let r = feed_refused d piece (omega arith) in (ap result_number r, ap (given_or d) r);
  finished = λ d e. ap result_number (finish_taken d (omega arith));
  not_finished = λ d e. let r = finish_refused d (omega arith) in (ap result_number r, ap (given_or no_digest) r);
  digested = λ message e. ap result_number (md5_taken message (omega arith));
  not_digested = λ message e. let r = md5_refused message (omega arith) in (ap result_number r, ap (given_or no_digest) r);
}
