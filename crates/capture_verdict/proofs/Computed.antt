-- specs/Examples.antt, computed, down to MD5 for the MAC.
use Prim.Native.Nat.{ℕ}
use mathlib.Core.Path.{◌≡◌, refl}
use mathlib.Core.List.{List}
use Rattle.book_card.specs.Layout.{mark_size, row_kind}
use Rattle.book_card.specs.Reader.{form_in, mark_in, front_of, front_from, rows_in_front, read_card}
use Rattle.book_card.specs.Reading.{slots_of, loaded, read_of, rows_in, read_book}
use Rattle.card_laws.specs.Examples.{card_b, new_card_b}
use Rattle.demands.proofs.Computing.{computing}
use Rattle.verdict_line.specs.Decimal.{decimal, digits_to}
use Rattle.verdict_line.specs.Line.{accepted_line, worded_line, numbered_line}
use Rattle.file_verdict.specs.Files.{readable, loaded_of, book_loaded}
use Rattle.capture.specs.Records.{number_at, is_ethernet, file_header_of, record_header_of, records_to, records_from, records_of}
use Rattle.capture.specs.Frame.{field_at, is_whole_udp, lengths_fit, is_dhcp_port, is_dhcp, datagram_place, place_of, payload_of}
use Rattle.capture_verdict.specs.Lines.{record_line, marks_by, received_by, lines_of, lines_to_failure, lines_of_files}
use Rattle.capture_verdict.specs.Examples.{RecordingExample}
use Rattle.std.specs.Prelude.{None, Option, Some}

-- what the book on a card is computed with
unfoldable loading : ℕ
unfolding computing mark_size row_kind form_in mark_in front_of front_from rows_in_front read_card slots_of loaded read_of rows_in read_book readable loaded_of
    book_loaded lines_of_files
loading = 0

-- both cards give one book
same_lines : (capture : Option (List ℕ)) → lines_of_files (Some new_card_b) capture ≡ lines_of_files (Some card_b) capture
unfolding loading
same_lines None = refl
same_lines (Some capture) = refl

pub recording_example : RecordingExample
unfolding loading accepted_line worded_line numbered_line decimal digits_to number_at is_ethernet file_header_of record_header_of records_to
    records_from records_of
    field_at is_whole_udp lengths_fit is_dhcp_port is_dhcp datagram_place place_of payload_of record_line marks_by received_by lines_of lines_to_failure
recording_example = record {
  by_book_b = refl;
  by_new_card = same_lines;
  not_heard_lem = refl;
  no_record = refl;
  read_failed = refl;
  no_capture = refl;
  bad_card = λ capture. refl;
}
