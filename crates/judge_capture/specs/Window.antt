-- The window of the file that the room holds: its bytes between two offsets. What a read gives no contract knows, so each statement has the bytes that
-- were read as a part: nothing is lost before them, and nothing altered.
use Rattle.std.specs.Prelude.{ℕ, ◌+◌, ◌-◌, ◌≤◌, ◌<◌, ◌≡◌, Bool, true, false, cond, List, [], ◌++◌, leb, length, take, drop}
use Rattle.std.specs.Prelude.{Err, IfOk, None, Ok, Option, Result, Some}
use Rattle.verdict_line.specs.declared.Line.TheVariants.{Cut as CutLine}
use Rattle.verdict_line.specs.Line.{numbered_most, line_of}
use Rattle.capture.specs.declared.Order.{Order}
use Rattle.capture.specs.Layout.{file_header_size, record_header_size}
use Rattle.capture.specs.Records.{file_header_of, record_header_of, cut_here, records_from}
use Rattle.judge_capture.specs.declared.Gathered.{Gathered}
use Rattle.judge_capture.specs.declared.Gathered.TheVariants.{Enough, Ended, Failed}
use Rattle.judge_capture.specs.declared.Next.{Next}
use Rattle.judge_capture.specs.declared.Next.TheVariants.{Record, AtEnd, Cut, Failed as NextFailed}
use Rattle.judge_capture.specs.declared.Opening.{Opening}
use Rattle.judge_capture.specs.declared.Window.{Window}
use Rattle.capture.specs.Records.{header_with}

abbrev pub window : List ℕ → ℕ → ℕ → List ℕ
window room from have = take (have - from) (drop from room)

abbrev pub in_window : List ℕ → Window → List ℕ
in_window room w = window room w.from w.end

-- the window has the bytes that were there before, and behind them those that were read
pub record Grown (old room : List ℕ) (from have : ℕ) : Type 0 where
  pub ordered : from ≤ have
  pub within : have ≤ length room
  pub read : List ℕ
  pub holds : window room from have ≡ old ++ read

-- what was gathered, where so many bytes were wanted
abbrev pub Gathers : List ℕ → ℕ → List ℕ → Gathered → Type 0
Gathers old want room (Enough w) = Grown old room w.from w.end × (want ≤ w.end - w.from)
Gathers old want room (Ended left) = Grown old room 0 left × (left < want)
Gathers old want room Failed = length old < want

-- a window at the room's front
abbrev pub AtFront : Gathered → Type 0
AtFront (Enough w) = w.from ≡ 0
AtFront (Ended left) = Unit {0}
AtFront Failed = Unit {0}

-- a frame of so many bytes at the front of the window, and that length handed on
pub record FrameThere (old room : List ℕ) (captured original at end whole have : ℕ) : Type 0 where
  pub grown : Grown old room at have
  pub frame_ends : end - at ≡ captured
  pub frame_ordered : at ≤ end
  pub frame_within : end ≤ have
  pub handed_on : whole ≡ original

-- the file ended before so many bytes
pub record FrameShort (old : List ℕ) (captured : ℕ) : Type 0 where
  pub read : List ℕ
  pub short : length (old ++ read) < captured

abbrev pub FrameGathers : List ℕ → List ℕ → ℕ → ℕ → Next → Type 0
FrameGathers old room captured original (Record frame whole until) = FrameThere old room captured original frame.from frame.end whole until
FrameGathers old room captured original AtEnd = ⊥
FrameGathers old room captured original Cut = FrameShort old captured
FrameGathers old room captured original NextFailed = length old < captured

-- the bytes begin with a record's header, and the window with the frame that it tells of
pub record RecordThere (order : Order) (old room : List ℕ) (at end original have : ℕ) : Type 0 where
  pub frame_ordered : at ≤ end
  pub frame_within : end ≤ have
  pub within : have ≤ length room
  pub header : List ℕ
  pub header_size_lem : length header ≡ record_header_size
  pub header_says : record_header_of order header ≡ header_with (end - at) original
  pub read : List ℕ
  pub holds : old ++ read ≡ header ++ window room at have

-- the bytes, with what was read behind them, are a file that is cut in its first record
pub record CutThere (order : Order) (old : List ℕ) : Type 0 where
  pub read : List ℕ
  pub cut : records_from order (old ++ read) ≡ cut_here

-- they have no whole record
pub record NoneWhole (order : Order) (old : List ℕ) : Type 0 where
  pub read : List ℕ
  pub whole_none : (records_from order (old ++ read)).whole ≡ []

abbrev pub NextIs : Order → List ℕ → List ℕ → Next → Type 0
NextIs order old room (Record frame original until) = RecordThere order old room frame.from frame.end original until
NextIs order old room AtEnd = old ≡ []
NextIs order old room Cut = CutThere order old
NextIs order old room NextFailed = NoneWhole order old

-- whether the line `cut` is written
abbrev pub is_cut : Next → Bool
is_cut (Record frame original until) = false
is_cut AtEnd = false
is_cut Cut = true
is_cut NextFailed = true

-- what is written behind the last record's line where this comes next
abbrev pub end_line : Next → List ℕ
end_line next = cond (is_cut next) (line_of CutLine) []

-- the lines that wait have so many bytes, or none where there may have been no room for one more; nothing is written where there was
abbrev pub RoomMade : {E : Type 0} → ℕ → ℕ → Result ℕ E → Type 0
RoomMade size room (Ok left) = left ≡ cond (leb (size + numbered_most) room) size 0
RoomMade size room (Err error) = room < size + numbered_most

-- there is room for one more
abbrev pub RoomFor : {E : Type 0} → ℕ → Result ℕ E → Type 0
RoomFor room waiting = IfOk waiting (λ left. left + numbered_most ≤ room)

abbrev pub WaitsWithin : {E : Type 0} → ℕ → Result ℕ E → Type 0
WaitsWithin room waiting = IfOk waiting (λ size. size ≤ room)

-- a header of this order stands at the room's front, and the window behind it
pub record CaptureThere (room : List ℕ) (order : Order) (from have : ℕ) : Type 0 where
  pub behind_header : from ≡ file_header_size
  pub ordered : from ≤ have
  pub within : have ≤ length room
  pub header_says : file_header_of (window room 0 file_header_size) ≡ Some order

abbrev pub OpensAs : List ℕ → Option Opening → Type 0
OpensAs room None = Unit {0}
OpensAs room (Some a) = CaptureThere room a.order a.window.from a.window.end
