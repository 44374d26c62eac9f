-- specs/Examples.antt, computed.
use mathlib.Core.Path.{refl}
use Rattle.octets.specs.Bytes.{written, filled}
use Rattle.octets.specs.Numbers.{value, little_at}
use Rattle.key_book.specs.Book.{sized, mark_fits}
use Rattle.key_book.specs.Halving.{halved_in, halved, taken, known_of}
use Rattle.book_card.specs.Layout.{mark_size, row_kind}
use Rattle.book_card.specs.Reader.{form_in, mark_in, front_of, front_from, rows_in_front, read_card}
use Rattle.book_card.specs.Reading.{slots_of, loaded, read_of, rows_in, read_book}
use Rattle.file_verdict.specs.Files.{readable, loaded_of, book_loaded}
use Rattle.known_verdict.specs.Argument.{digits_only, value_behind, id_behind, id_in}
use Rattle.known_verdict.specs.Asked.{known_line}
use Rattle.known_verdict.specs.Examples.{IdExamples, KnownExamples}

pub id_examples : IdExamples
unfolding digits_only value_behind id_behind id_in
id_examples = record {
  seven = refl;
  zeros_before = refl;
  zero_id = refl;
  largest = refl;
  too_large = refl;
  digit_more = refl;
  nothing = refl;
  letter = refl;
  sign = refl;
  space_behind = refl;
  before_zero = refl;
  behind_nine = refl;
}

pub known_examples : KnownExamples
unfolding digits_only value_behind id_behind id_in known_line halved_in halved taken known_of written filled value little_at sized mark_fits
    mark_size row_kind form_in mark_in front_of front_from rows_in_front read_card slots_of loaded read_of rows_in read_book readable loaded_of
    book_loaded
known_examples = record {
  in_row = refl;
  new_card = refl;
  not_there = refl;
  bad_card = λ x. refl;
  no_card = refl;
  bad_argument = λ card. refl;
  no_argument = λ card. refl;
}
