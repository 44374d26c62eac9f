-- Record by record: what the records in front of the bytes are (capture, `RecordsSay` and `RecordHeaderSays`), as lines.
use Prim.Native.Nat.{ℕ}
use mathlib.Core.Path.{◌≡◌, ap}
use mathlib.Core.List.{List, [], ◌++◌}
use Rattle.key_book.specs.Book.{Book}
use Rattle.capture.specs.declared.Order.{Order}
use Rattle.capture.specs.Records.{Records, records_from}
use Rattle.capture.proofs.Records.{records_say, cut_by_header, cut_by_frame, next_by_header}
use Rattle.capture_verdict.specs.Lines.{lines_for, lines_from, lines_in, lines_of}
use Rattle.capture_verdict.specs.Laws.{ByRecord}

-- the lines by the records
by_records : (order : Order) (b : Book) (n : ℕ) (s : List ℕ) {records : Records} → records_from order s ≡ records → lines_from order b n s ≡ lines_for
    b n records
unfolding lines_from
by_records order b n s e = ap (lines_for b n) e

pub by_record : ByRecord
unfolding lines_of lines_from
by_record = record {
  short_file = λ b capture h. ap (lines_in b) (records_say.short_header capture h);
  other_header = λ b header rest h e. ap (lines_in b) (records_say.other_header header rest h e);
  opened = λ b order header rest h e. ap (lines_in b) (records_say.behind_header order header rest h e);
  at_end_lem = λ order b n. by_records order b n [] (records_say.at_end_lem order);
  header_short = λ order b n s p h. by_records order b n s (records_say.header_cut order s p h);
  header_cut = λ order b n header rest h e. by_records order b n (header ++ rest) (cut_by_header order header rest h e);
  frame_short = λ order b n captured original header rest h e l. by_records order b n (header ++ rest) (cut_by_frame order header rest h e l);
  next = λ order b n original header frame rest h e. by_records order b n (header ++ (frame ++ rest)) (next_by_header order header frame rest h e);
}
