-- A header taken from the front of the window, and a frame behind it: what the calls that gather them and read the header answered, put together.
use Prim.Native.Nat.{ℕ, ◌-◌, ◌≤◌, ◌<◌}
use mathlib.Core.Path.{◌≡◌, refl, sym, ap, ◌∙◌}
use mathlib.Core.Logic.{◌≢◌}
use mathlib.Core.List.{List, [], ◌∷◌, ◌++◌, append_assoc}
use native.Mathlib.Omega.{arith}
use lib.ListN.{length, drop, length-append, length-drop}
use lib.Seq.{length-take-le}
use Rattle.capture.specs.declared.Order.{Order}
use Rattle.capture.specs.Layout.{file_header_size, record_header_size, frame_most}
use Rattle.capture.specs.Records.{Records, file_header_of, record_header_of, records_from}
use Rattle.capture.proofs.Headers.{record_header_says}
use Rattle.capture.proofs.Records.{records_say, cut_by_header, cut_by_frame}
use Rattle.judge_capture.specs.Window.{window, Grown, FrameShort, FrameGathers, CutThere, NoneWhole, NextIs, CaptureThere}
use Rattle.judge_capture.specs.declared.Next.{Next}
use Rattle.judge_capture.specs.declared.Next.TheVariants.{Record, AtEnd, Cut, Failed}
use Rattle.judge_capture.proofs.Windows.{window_parts}
use Rattle.std.specs.Prelude.{None, Some}
use Rattle.capture.specs.Records.{header_with}

-- an empty window at the file's end
pub at_end_lem : {old room : List ℕ} {left : ℕ} → Grown old room 0 left → left ≡ 0 → old ≡ []
at_end_lem {old} {room} g e = none old g.read (sym g.holds ∙ rw e)
  where
    none : (xs ys : List ℕ) → xs ++ ys ≡ [] → xs ≡ []
    none [] ys h = refl
    none (x ∷ xs) ys h = absurd (let l = ap length h in omega arith)

pub window_size_lem : (room : List ℕ) (from have : ℕ) → from ≤ have → have ≤ length room → length (window room from have) ≡ have - from
window_size_lem room from have o w = let d = length-drop from room in length-take-le (have - from) (drop from room) (omega arith)

-- the captured length is within what a frame may have
pub captured_most : (order : Order) (s : List ℕ) {captured original : ℕ} → record_header_of order s ≡ header_with captured original → captured ≤ frame_most
captured_most order s {captured} {original} e = ((record_header_says.record_there order s captured original).0 e).captured_most

-- the bytes that were there and those that were read, by their number
grown_size : {old room : List ℕ} {from have : ℕ} (g : Grown old room from have) → length (old ++ g.read) ≡ have - from
grown_size {room = room} {from} {have} g = sym (ap length g.holds) ∙ window_size_lem room from have g.ordered g.within

-- the file ended inside a frame, or inside a record's header
pub frame_short : {old room : List ℕ} {left captured : ℕ} → Grown old room 0 left → left < captured → FrameShort old captured
frame_short g h = record { read = g.read; short = omega (arith, grown_size g) }

pub header_short : (order : Order) {old room : List ℕ} {left : ℕ} → Grown old room 0 left → left ≢ 0 → left < record_header_size → CutThere order old
header_short order {old} g p h =
    let l = grown_size g in
    record { read = g.read; cut = records_say.header_cut order (old ++ g.read) (omega arith) (omega arith) }

-- no record fits into less than a header
pub none_whole : (order : Order) (old : List ℕ) → length old < record_header_size → NoneWhole order old
none_whole order old h = record { read = []; whole_none = by old h }
  where
    by : (s : List ℕ) → length s < record_header_size → (records_from order (s ++ [])).whole ≡ []
    by [] l = ap (λ (x : Records). x.whole) (records_say.at_end_lem order)
    by (x ∷ s) l =
        let n = length-append (x ∷ s) [] in
        ap (λ (x : Records). x.whole) (records_say.header_cut order ((x ∷ s) ++ []) (omega arith) (omega arith))

-- a header between two offsets, at the front of the window
module _ {old room : List ℕ} {at behind end : ℕ} (g : Grown old room at end) (o : at ≤ behind) (w : behind ≤ end) where
  abbrev header : List ℕ
  header = window room at behind

  abbrev rest : List ℕ
  rest = window room behind end

  header_there : length header ≡ behind - at
  header_there = let h = g.within in window_size_lem room at behind o (omega arith)

  bytes : old ++ g.read ≡ header ++ rest
  bytes = sym g.holds ∙ window_parts room at behind end o w

  -- and more that was read behind it
  bytes_more : (more : List ℕ) → old ++ (g.read ++ more) ≡ header ++ (rest ++ more)
  bytes_more more = sym (append_assoc old g.read more) ∙ ap (λ (s : List ℕ). s ++ more) bytes ∙ append_assoc header rest more

  pub capture_there : {order : Order} → at ≡ 0 → behind - at ≡ file_header_size → file_header_of header ≡ Some order → CaptureThere room order behind end
  capture_there f z e =
      let n : behind ≡ file_header_size = omega arith in
      record { behind_header = n; ordered = w; within = g.within; header_says = rw (f, n) at e }

  module _ (order : Order) (z : behind - at ≡ record_header_size) where
    pub header_cut : record_header_of order header ≡ None → CutThere order old
    header_cut e = record {
      read = g.read;
      cut = ap (records_from order) bytes ∙ cut_by_header order header rest (header_there ∙ z) e;
    }

    pub record_there : {captured original : ℕ} (after : List ℕ) → record_header_of order header ≡ header_with captured original
        → (r : Next) → FrameGathers rest after captured original r → NextIs order old after r
    record_there after e (Record frame whole until) f = record {
      frame_ordered = f.frame_ordered;
      frame_within = f.frame_within;
      within = f.grown.within;
      header = header;
      header_size_lem = header_there ∙ z;
      header_says = rw (f.frame_ends, f.handed_on) e;
      read = g.read ++ f.grown.read;
      holds = bytes_more f.grown.read ∙ ap (λ (s : List ℕ). header ++ s) (sym f.grown.holds);
    }
    record_there after e AtEnd f = absurd f
    record_there {captured} {original} after e Cut f = record {
      read = g.read ++ f.read;
      cut = ap (records_from order) (bytes_more f.read) ∙ cut_by_frame order header (rest ++ f.read) (header_there ∙ z) e f.short;
    }
    record_there after e Failed f = record {
      read = g.read;
      whole_none = ap (λ (x : Records). x.whole) (ap (records_from order) bytes ∙ cut_by_frame order header rest (header_there ∙ z) e f);
    }
