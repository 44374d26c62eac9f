-- specs/Example9.antt: the lines are computed, down to MD5 for each MAC; the limit goes by the length.
use Prim.Native.Nat.{ℕ}
use mathlib.Core.Path.{refl}
use native.Mathlib.Omega.{arith}
use lib.ListN.{replicate, length-replicate}
use Rattle.md5_block.specs.Word.{rotl, auxiliary, word_no, additive, rotations}
use Rattle.md5_block.specs.Block.{step_with, step_at, steps, round, compress}
use Rattle.md5_digest.specs.Block.{load_to, load, blocks}
use Rattle.md5_digest.specs.Message.{md5, padded, padding, output}
use Rattle.hmac_md5.specs.Hmac.{masked, hmac}
use Rattle.octets.specs.Bytes.{written, filled, same_bytes}
use Rattle.octets.specs.Numbers.{le, value, little_at, big_at}
use Rattle.dhcp_message.specs.Options.{decode_at}
use Rattle.dhcp_message.specs.Message.{checked_tokens, checked_of}
use Rattle.dhcp_message.specs.Said.{said_by, said_of, form_of}
use Rattle.dhcp_message.specs.Image.{image_of}
use Rattle.dhcp_message.specs.Replay.{is_new}
use Rattle.key_book.specs.Book.{sound, sized, ascending, key_sizes, mark_fits, marks_fit, all_below, place_from, row_in, key_fits, key_in}
use Rattle.delayed_auth.specs.Admit.{admitted_said}
use Rattle.delayed_auth.specs.Check.{judged_row, judged_said, check_of}
use Rattle.book_card.specs.Layout.{mark_size, row_kind}
use Rattle.book_card.specs.Reader.{form_in, mark_in, front_of, front_from, rows_in_front, read_card}
use Rattle.book_card.specs.Reading.{slots_of, loaded, read_of, rows_in, read_book}
use Rattle.file_verdict.specs.Files.{readable, loaded_of, book_loaded, message_line, line_for}
use Rattle.file_verdict.specs.Example9.{Example9}
use Rattle.file_verdict.proofs.Contents.{readable_fits, readable_too_large}

pub example_9 : Example9
unfolding hmac masked md5 padded padding blocks compress round steps step_at step_with rotl auxiliary word_no additive rotations load load_to output
    said_of checked_of checked_tokens decode_at said_by form_of image_of written sound sized ascending key_sizes mark_fits marks_fit all_below
    place_from row_in key_fits key_in is_new same_bytes judged_row judged_said admitted_said check_of le value little_at big_at mark_size row_kind
    form_in mark_in front_of front_from rows_in_front read_card filled slots_of loaded read_of rows_in read_book readable loaded_of book_loaded
    message_line line_for
example_9 = record {
  put_right = refl;
  mac_bit_off = refl;
  old_counter = refl;
  no_message = refl;
  no_card = refl;
  bad_card = λ x message. refl;
  new_card = λ message. refl;
  not_heard_lem = refl;
  heard = refl;
  bad_mark = λ message. refl;
  largest = λ x. let l = length-replicate {A = ℕ} 65535 x in readable_fits (replicate 65535 x) (omega arith);
  too_large = λ x. let l = length-replicate {A = ℕ} 65536 x in readable_too_large (replicate 65536 x) (omega arith);
}
