-- specs/Examples.antt, computed.
use mathlib.Core.Path.{refl}
use Rattle.key_book.specs.Book.{all_below, sized, ascending, key_sizes, mark_fits, marks_fit, sound, key_fits, key_in}
use Rattle.octets.specs.Bytes.{written, filled}
use Rattle.octets.specs.Numbers.{le, value, little_at}
use Rattle.book_card.specs.Layout.{mark_size, row_kind}
use Rattle.book_card.specs.Card.{record_of, row_record, close, row_records, card_of}
use Rattle.book_card.specs.Reader.{form_in, mark_in, front_of, front_from, rows_in_front, read_card}
use Rattle.book_card.specs.Reading.{slots_of, loaded, read_of, rows_in, read_book}
use Rattle.book_card.specs.Writing.{rows_from, rows_of, write_of, room_after}
use Rattle.book_card.specs.Moving.{all_heard, holds, move_of, room_moved}
use Rattle.card_laws.specs.Examples.{Example1, MarkedCards, OrderedBytes, FrontExample, Example2}

pub example_1 : Example1
unfolding all_below sized ascending key_sizes mark_fits marks_fit sound key_fits key_in le value little_at mark_size row_kind record_of row_record close
    row_records card_of form_in mark_in front_of front_from rows_in_front read_card written filled slots_of loaded read_of rows_in read_book rows_from rows_of
    write_of room_after all_heard holds move_of room_moved
example_1 = record {
  old_card = refl;
  old_size = refl;
  new_card = refl;
  new_size = refl;
  written_size = refl;
  written_bytes = refl;
  read_old = (refl, refl);
  read_new = (refl, refl);
  to_new = (refl, refl);
  to_old = (refl, refl);
}

pub marked_cards : MarkedCards
unfolding mark_fits le value little_at mark_size row_kind record_of row_record close row_records card_of form_in mark_in front_of front_from rows_in_front
    read_card all_heard holds move_of
marked_cards = record {
  not_heard_lem = refl;
  received_before = refl;
  other_mark = refl;
  room_first = refl;
  no_old_form = refl;
  its_number = refl;
  mixed = (refl, refl);
  unmixed = (refl, refl);
}

pub ordered_bytes : OrderedBytes
unfolding mark_fits le value little_at mark_size row_kind record_of row_record close row_records card_of form_in mark_in front_of front_from rows_in_front
    read_card
ordered_bytes = record { old_card = refl; old_rows = refl; new_card = refl; new_rows = refl }

pub front_example : FrontExample
unfolding mark_fits value little_at mark_size row_kind mark_in front_of front_from rows_in_front
front_example = record { whole = refl; cut = refl; one_byte_more = λ x. refl; other_form = refl; id_again = refl }

pub example_2 : Example2
unfolding sized le value little_at mark_size row_kind record_of close row_records card_of form_in front_of front_from rows_in_front read_card read_of rows_in
    all_heard holds move_of room_moved
example_2 = record {
  no_rows = refl;
  no_rows_read = refl;
  both_forms = (refl, refl);
  moved_to_old = (refl, refl);
  moved_to_new = (refl, refl);
  one_byte_more = λ x. refl;
  one_byte_more_read = λ x. refl;
  its_number = refl;
}
