-- What the comparison answers and leaves, by the case that was met: the laws of `report_of` and `report_for` for the code.
use Prim.Native.Nat.{ℕ, ◌≤◌}
use mathlib.Core.Path.{◌≡◌, sym, ap, ◌∙◌}
use mathlib.Core.List.{List}
use native.Mathlib.Nat.{zero-add}
use lib.ListN.{length}
use Rattle.refusal.specs.declared.Refusal.{Refusal}
use Rattle.verdict_line.specs.declared.Line.TheVariants.{Refused, Unreadable}
use Rattle.verdict_line.specs.Line.{line_of, PutAt}
use Rattle.file_verdict.specs.Files.{readable}
use Rattle.comparison.specs.Entry.{comparison_most, text_for, compare_of, room_compared}
use Rattle.comparison.proofs.Entries.{size_is, room_by_lem}
use Rattle.comparison_verdict.specs.Report.{report_by, report_of, report_for}
use Rattle.std.specs.Prelude.{Err, None, Ok, Option, Result, Some, ℕ}

module _ (first second : List ℕ) where
  -- a room with the lines at its front
  pub lines_put : (room : List ℕ) {answer : Result ℕ Refusal} {lines : List ℕ} {n : ℕ} → answer ≡ Ok n → answer ≡ compare_of first second (length room)
      → lines ≡ room_compared first second room → PutAt room 0 (text_for first second) lines n × (length (text_for first second) ≤ length room)
  lines_put room m a l =
      let z = size_is first second (length room) (sym a ∙ m) in
      (record { place = z.0 ∙ sym (zero-add _); content = l ∙ sym (room_by_lem first second room (sym m ∙ a)) }, z.1)

  -- what is written of the two messages, by the answer
  pub report_refused : {answer : Result ℕ Refusal} {r : Refusal} → answer ≡ Err r → answer ≡ compare_of first second comparison_most
      → line_of (Refused r) ≡ report_of first second
  unfolding report_of
  report_refused m a = ap (report_by (text_for first second)) (sym m ∙ a)

  pub report_lines : {answer : Result ℕ Refusal} {n : ℕ} → answer ≡ Ok n → answer ≡ compare_of first second comparison_most
      → text_for first second ≡ report_of first second
  unfolding report_of
  report_lines m a = ap (report_by (text_for first second)) (sym m ∙ a)

-- of two files
module _ (first second : Option (List ℕ)) where
  pub first_none : readable first ≡ None → line_of Unreadable ≡ report_for first second
  unfolding report_for
  first_none e = rw e

  pub second_none : {s : List ℕ} → readable first ≡ Some s → readable second ≡ None → line_of Unreadable ≡ report_for first second
  unfolding report_for
  second_none e f = rw (e, f)

  pub both_judged : {s t : List ℕ} → readable first ≡ Some s → readable second ≡ Some t → report_of s t ≡ report_for first second
  unfolding report_for
  both_judged e f = rw (e, f)
