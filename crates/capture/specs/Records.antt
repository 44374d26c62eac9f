-- A classic capture's bytes as its records: docs/RULES.md, 'A recording'. `RecordsSay` (Laws.antt) has the recursion without the count.
use Rattle.std.specs.Prelude.{ℕ, zero, suc, ◌+◌, Bool, true, false, cond, ◌&&◌, List, [], ◌∷◌, ◌++◌, ltb, eqb, length, take, drop, None, Option, Some}
use Rattle.octets.specs.Numbers.{little_at, big_at}
use Rattle.capture.specs.Layout.{file_header_size, number_size, magic_at, magic, link_type_at, ethernet, record_header_size, captured_at, original_at}
use Rattle.capture.specs.Layout.{frame_most}
use Rattle.capture.specs.declared.Order.{Order}
use Rattle.capture.specs.declared.Order.TheVariants.{LowFirst, HighFirst}
use Rattle.capture.specs.declared.RecordHeader.{RecordHeader}

-- ---- the headers

-- the number at an offset of a header
unfoldable pub number_at : Order → List ℕ → ℕ → ℕ
number_at LowFirst s at = little_at s at number_size
number_at HighFirst s at = big_at s at number_size

-- whether a file's header, read in this order, is that of a capture of Ethernet frames
unfoldable pub is_ethernet : Order → List ℕ → Bool
is_ethernet order s = eqb (number_at order s magic_at) magic && eqb (number_at order s link_type_at) ethernet

unfoldable pub file_header_of : List ℕ → Option Order
file_header_of s =
    cond (ltb (length s) file_header_size) None (cond (is_ethernet LowFirst s) (Some LowFirst) (cond (is_ethernet HighFirst s) (Some HighFirst) None))

-- a header that says so many bytes were captured, and so many the frame had
abbrev pub header_with : (captured original : ℕ) → Option RecordHeader
header_with captured original = Some (record { captured = captured; original = original })

unfoldable pub record_header_of : Order → List ℕ → Option RecordHeader
record_header_of order s =
    cond (ltb (length s) record_header_size) None
    (cond (ltb frame_most (number_at order s captured_at)) None (header_with (number_at order s captured_at) (number_at order s original_at)))

-- ---- the records

-- the captured bytes of a frame, and how many bytes the frame had
pub record Record : Type 0 where
  pub frame : List ℕ
  pub original : ℕ

-- the records in the file's order, and whether the file is cut behind the last of them
pub record Records : Type 0 where
  pub whole : List Record
  pub cut : Bool

abbrev pub at_end : Records
at_end = record { whole = []; cut = false }

abbrev pub cut_here : Records
cut_here = record { whole = []; cut = true }

abbrev pub before : Record → Records → Records
before r rs = record { whole = r ∷ rs.whole; cut = rs.cut }

-- records in front of others
abbrev pub in_front : List Record → Records → Records
in_front rs others = record { whole = rs ++ others.whole; cut = others.cut }

-- the record at the front of the bytes, by its header, and what `rest` makes of those behind it
abbrev pub record_then : List ℕ → (List ℕ → Records) → Option RecordHeader → Records
record_then s rest None = cut_here
record_then s rest (Some a) =
    cond (ltb (length s) (record_header_size + a.captured)) cut_here
    (before (record { frame = take a.captured (drop record_header_size s); original = a.original }) (rest (drop (record_header_size + a.captured) s)))

-- at most so many records
unfoldable pub records_to : ℕ → Order → List ℕ → Records
records_to zero order s = at_end
records_to (suc most) order s = cond (eqb (length s) 0) at_end (record_then s (records_to most order) (record_header_of order s))

-- all of them: each has a byte at least
unfoldable pub records_from : Order → List ℕ → Records
records_from order s = records_to (length s) order s

abbrev pub records_by : List ℕ → Option Order → Option Records
records_by file None = None
records_by file (Some order) = Some (records_from order (drop file_header_size file))

-- a whole file's records, none where its header is another
unfoldable pub records_of : List ℕ → Option Records
records_of file = records_by file (file_header_of file)
