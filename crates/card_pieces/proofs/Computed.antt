-- specs/Examples.antt, computed.
use mathlib.Core.Path.{refl}
use Rattle.key_book.specs.Book.{sized, mark_fits}
use Rattle.octets.specs.Bytes.{written, filled}
use Rattle.octets.specs.Numbers.{value, little_at}
use Rattle.book_card.specs.Layout.{mark_size, row_kind}
use Rattle.book_card.specs.Reader.{form_in, mark_in, front_of, record_length, wants, front_from, low_after}
use Rattle.book_card.specs.Reading.{set_row, put_row}
use Rattle.card_pieces.specs.Runs.{run, run_from, put_rows, outcome}
use Rattle.card_pieces.specs.Pieces.{state_with, fresh, within, form_by, form_after, settled, reads_on, state_fed, spare_fed, feed_of, feed_spare, has_ended}
use Rattle.card_pieces.specs.Pieces.{finish_of, copied, finish_book}
use Rattle.card_pieces.specs.Laws.{fed_all, spare_all}
use Rattle.card_pieces.specs.Examples.{PiecesExample}

pub pieces_example : PiecesExample
unfolding sized mark_fits written filled value little_at mark_size row_kind form_in mark_in front_of record_length wants front_from low_after set_row put_row
    run run_from put_rows outcome state_with fresh within form_by form_after settled reads_on state_fed spare_fed feed_of feed_spare has_ended finish_of
    copied finish_book fed_all spare_all
pieces_example = record {
  cut_kept = refl;
  cut_spare = refl;
  cut_end = refl;
  cut_answer = refl;
  old_state = refl;
  old_book = refl;
  new_state = refl;
  new_answer = refl;
  byte_behind = refl;
  bad_length = refl;
  good_length = refl;
  least_length = refl;
  past_length = refl;
  past_close = refl;
  mixed_forms = refl;
  id_again = refl;
  second_row_lem = refl;
  first_fits = refl;
  no_room_lem = refl;
  tail_read = refl;
  tail_unread = refl;
  most_kept = refl;
  many_kept = refl;
  many_rows = refl;
  none_may_follow = refl;
  last_row = refl;
}
