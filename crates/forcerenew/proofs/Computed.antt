-- The examples of specs/Examples.antt, computed, down to MD5 for the MAC.
use mathlib.Core.Path.{refl}
use Rattle.octets.specs.Bytes.{written, filled, same_bytes}
use Rattle.octets.specs.Numbers.{le, value, little_at, be, big_at}
use Rattle.md5_block.specs.Word.{rotl, auxiliary, word_no, additive, rotations}
use Rattle.md5_block.specs.Block.{step_with, step_at, steps, round, compress}
use Rattle.md5_digest.specs.Block.{load_to, load, blocks}
use Rattle.md5_digest.specs.Message.{md5, padded, padding, output}
use Rattle.hmac_md5.specs.Hmac.{masked, hmac}
use Rattle.dhcp_message.specs.Options.{decode_at}
use Rattle.dhcp_message.specs.Message.{checked_tokens, checked_of}
use Rattle.dhcp_message.specs.Shape.{shape_of}
use Rattle.dhcp_message.specs.Said.{said_by, form_of}
use Rattle.dhcp_message.specs.Types.{message_type_of}
use Rattle.dhcp_message.specs.Replay.{is_new}
use Rattle.forcerenew.specs.Rows.{marks_known, sound_rows, server_at}
use Rattle.forcerenew.specs.Shown.{goes_with, shown_at, shown_of}
use Rattle.forcerenew.specs.Judging.{judge_of}
use Rattle.forcerenew.specs.Examples.{NonceExamples}

pub nonce_examples : NonceExamples
unfolding rotl auxiliary word_no additive rotations step_with step_at steps round compress load_to load blocks md5 padded padding output masked hmac
    written filled same_bytes le value little_at be big_at decode_at checked_tokens checked_of shape_of said_by form_of message_type_of is_new
    marks_known sound_rows
    server_at goes_with shown_at shown_of judge_of
nonce_examples = record {
  ack_shows = refl;
  order_shows = refl;
  first_nonce = refl;
  first_stored = refl;
  other_stored = refl;
  same_nonce = refl;
  same_unheard = refl;
  same_bytes_first = refl;
  ack_answer = refl;
  order_believed = refl;
  order_first = refl;
  order_stored = refl;
  order_answer = refl;
  number_1_nonces = refl;
  number_1_counters = refl;
  number_1_marks = refl;
  number_2 = refl;
  number_3 = refl;
  number_4 = refl;
  number_5 = refl;
  number_6 = refl;
  number_7 = refl;
  number_10 = refl;
  number_19_length = refl;
  number_19_protocol = refl;
  number_19_algorithm = refl;
  number_19_method = refl;
  number_20_nonce = refl;
  number_20_order = refl;
  number_20_type_0 = refl;
  number_20_type_3 = refl;
  number_20_twice = refl;
  number_20_longer = refl;
  number_20_none = refl;
  number_21 = refl;
  number_11 = refl;
  number_12 = refl;
  no_rows = refl;
  ordinary_ack = refl;
  ordinary_order = refl;
}
