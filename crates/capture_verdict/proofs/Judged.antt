-- One record, by whether it has a payload: its line, the marks, the received counters and the book afterwards. The only law file that unfolds
-- `record_line`, `marks_by` and `received_by`.
use Prim.Native.Nat.{ℕ, ◌+◌, ◌-◌}
use mathlib.Core.Path.{◌≡◌, sym, ap, ◌∙◌}
use mathlib.Core.List.{List}
use native.Mathlib.Omega.{arith}
use lib.ListN.{take, drop}
use Rattle.key_book.specs.Book.{Book}
use Rattle.delayed_auth.specs.Check.{check_of, marks_after, received_after}
use Rattle.demands.specs.Demand3.{check, book_after}
use Rattle.verdict_line.specs.declared.Line.TheVariants.{Skipped}
use Rattle.file_verdict.specs.Files.{verdict_line}
use Rattle.capture.specs.Frame.{place_of, payload_of}
use Rattle.capture.proofs.Frames.{payload_at_lem}
use Rattle.capture_verdict.specs.Lines.{record_line, marks_by, received_by, book_by}
use Rattle.std.specs.Prelude.{None, Some}
use Rattle.capture.specs.Frame.{placed_at}

-- the payload as the part of its frame between two offsets
pub payload_part : (frame : List ℕ) (original at size : ℕ) → place_of frame original ≡ placed_at at size
    → payload_of frame original ≡ Some (take (at + size - at) (drop at frame))
payload_part frame original at size e =
    let n : at + size - at ≡ size = omega arith in
    payload_at_lem frame original at size e ∙ ap (λ (k : ℕ). Some (take k (drop at frame))) (sym n)

module _ (b : Book) (frame : List ℕ) (original : ℕ) where
  module _ (e : payload_of frame original ≡ None) where
    pub line_skipped : Skipped ≡ record_line b frame original
    unfolding record_line
    line_skipped = rw e

    pub marks_kept : b.marks ≡ marks_by b frame original
    unfolding marks_by
    marks_kept = rw e

    pub received_kept : b.received ≡ received_by b frame original
    unfolding received_by
    received_kept = rw e

    pub book_kept : book_by b frame original ≡ b
    book_kept = rw (sym marks_kept, sym received_kept)

  module _ {message : List ℕ} (e : payload_of frame original ≡ Some message) where
    pub line_judged : verdict_line (check_of b message) ≡ record_line b frame original
    unfolding record_line
    line_judged = rw e

    pub marks_judged : marks_after (check_of b message) b.marks ≡ marks_by b frame original
    unfolding marks_by
    marks_judged = rw e

    pub received_judged : received_after (check_of b message) b.received ≡ received_by b frame original
    unfolding received_by
    received_judged = rw e

    pub book_judged : book_by b frame original ≡ book_after b (check message)
    book_judged = rw (sym marks_judged, sym received_judged)
