-- Demand 1, proved: the entries' numbers, and what a refusal leaves, each from the file that shows it.
use Rattle.md5_digest.proofs.Promises.{refused_kept}
use Rattle.delayed_auth.specs.Check.{check_of}
use Rattle.delayed_auth.specs.Key.{keyed_of}
use Rattle.delayed_auth.specs.Seal.{seal_of}
use Rattle.demands.specs.Demand1.{Demand1}
use Rattle.demands.proofs.DemandCheck.{check_number, check_keeps, key_number_lem, key_empty}
use Rattle.demands.proofs.DemandSeal.{seal_number, seal_keeps}
use Rattle.demands.proofs.DemandKnown.{known_number}
use Rattle.demands.proofs.DemandDigests.{feed_number, finish_number, finish_zeros, digest_number, digest_zeros, hmac_number, hmac_zeros}
use Rattle.demands.proofs.DemandJudge.{judge_number, judge_keeps}
use Rattle.demands.proofs.DemandCompare.{compare_number_lem, compare_keeps}
use Rattle.demands.proofs.DemandPieces.{piece_number, piece_keeps, end_number, end_keeps}
use Rattle.demands.proofs.DemandCards.{read_number_lem, read_keeps, write_number_lem, write_keeps, move_number, move_keeps}

pub demand_1 : Demand1
demand_1 = record {
  check = check_number;
  check_keeps = λ b m. check_keeps (check_of b m) b.marks b.received;
  key = key_number_lem;
  key_empty = λ b m. key_empty b (keyed_of b m);
  seal = seal_number;
  seal_keeps = λ b id m. seal_keeps (seal_of b id m) m b.sent;
  known = known_number;
  feed = feed_number;
  feed_keeps = refused_kept;
  finish = finish_number;
  finish_zeros = finish_zeros;
  digest = digest_number;
  digest_zeros = digest_zeros;
  hmac_mac = hmac_number;
  hmac_zeros = hmac_zeros;
  card_read = read_number_lem;
  card_read_keeps = read_keeps;
  card_write = write_number_lem;
  card_write_keeps = write_keeps;
  card_move = move_number;
  card_move_keeps = move_keeps;
  card_feed = piece_number;
  card_feed_keeps = piece_keeps;
  card_finish = end_number;
  card_finish_keeps = end_keeps;
  judge = judge_number;
  judge_keeps = judge_keeps;
  compare = compare_number_lem;
  compare_keeps = compare_keeps;
}
