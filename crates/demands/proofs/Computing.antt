-- What bench examples and worked runs are computed with: `unfolding computing` opens every definition from a check, a seal and a judgement by a nonce down
-- to MD5 and the bytes of a message.
use Prim.Native.Nat.{ℕ}
use Rattle.octets.specs.Bytes.{written, filled, same_bytes}
use Rattle.octets.specs.Numbers.{le, value, little_at, be, big_at}
use Rattle.md5_block.specs.Word.{rotl, auxiliary, word_no, additive, rotations}
use Rattle.md5_block.specs.Block.{step_with, step_at, steps, round, compress}
use Rattle.md5_digest.specs.Block.{load_to, load, blocks}
use Rattle.md5_digest.specs.Message.{md5, padded, padding, output}
use Rattle.hmac_md5.specs.Hmac.{masked, hmac}
use Rattle.dhcp_message.specs.Options.{decode_at}
use Rattle.dhcp_message.specs.Message.{checked_tokens, checked_of}
use Rattle.dhcp_message.specs.Shape.{shape_of}
use Rattle.dhcp_message.specs.Types.{message_type_of}
use Rattle.dhcp_message.specs.Said.{said_by, said_of, named, form_of}
use Rattle.dhcp_message.specs.Image.{image_of}
use Rattle.dhcp_message.specs.Replay.{is_new}
use Rattle.key_book.specs.Book.{all_below, sized, ascending, key_sizes, mark_fits, marks_fit, sound, place_from, row_in, key_fits, key_in}
use Rattle.delayed_auth.specs.Admit.{admitted_said, admitted_form}
use Rattle.delayed_auth.specs.Check.{judged_row, judged_said, check_of}
use Rattle.delayed_auth.specs.Seal.{plan_row, plan_form, plan_of, sealed_message, seal_of}
use Rattle.forcerenew.specs.Rows.{marks_known, sound_rows, server_at}
use Rattle.forcerenew.specs.Shown.{goes_with, shown_at, shown_of}
use Rattle.forcerenew.specs.Judging.{judge_of}

unfoldable pub computing : ℕ
unfolding rotl auxiliary word_no additive rotations step_with step_at steps round compress load_to load blocks md5 padded padding output masked hmac
    written filled le value little_at be big_at decode_at checked_tokens checked_of said_by said_of named form_of image_of is_new all_below sized
    ascending key_sizes
    mark_fits marks_fit sound place_from row_in key_fits key_in admitted_said admitted_form same_bytes judged_row judged_said check_of plan_row
    plan_form plan_of
    sealed_message seal_of shape_of message_type_of marks_known sound_rows server_at goes_with shown_at shown_of judge_of
computing = 0
