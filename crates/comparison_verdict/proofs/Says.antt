-- `ReportSays` (specs/Laws.antt): which of the two files may be judged (file_verdict, proofs/Contents.antt), then what the comparison answers by the checks of
-- the two messages, whose lines fit the room (comparison, proofs/Fitting.antt). The three kinds of what is written are told apart by their lengths and a byte.
use Prim.Native.Nat.{ℕ, ◌≤◌, ◌<◌}
use mathlib.Core.Path.{◌≡◌, refl, sym, ap, ◌∙◌}
use mathlib.Core.Logic.{◌≢◌, ◌⊎◌, inl, inr}
use mathlib.Core.Bool.{Bool, true, false}
use mathlib.Core.List.{List, [], ◌∷◌, ◌++◌}
use native.Mathlib.Omega.{arith}
use borrow.Author.Tests.{leb-true, leb-false}
use lib.Dec.{leb}
use lib.ListN.{length, get_or, length-append}
use Rattle.refusal.specs.Number.{number_of}
use Rattle.refusal.specs.declared.Refusal.{Refusal}
use Rattle.refusal.specs.declared.Refusal.TheVariants.{NoRoomForReport}
use Rattle.octets.specs.Bytes.{Bytes}
use Rattle.dhcp_message.specs.Message.{Passes27}
use Rattle.dhcp_message.specs.Shape.{shape_of}
use Rattle.dhcp_message.proofs.Passing.{passing, tokens_of}
use Rattle.dhcp_message.proofs.Lowest.{shape_given}
use Rattle.verdict_line.specs.declared.Line.TheVariants.{Refused, Unreadable}
use Rattle.verdict_line.specs.Decimal.{decimal, digits_to}
use Rattle.verdict_line.specs.Line.{refused_word, worded_line, line_of}
use Rattle.verdict_line.proofs.Digits.{length_one}
use Rattle.verdict_line.proofs.Lines.{worded_length}
use Rattle.verdict_line.proofs.Says.{longest_line}
use Rattle.file_verdict.specs.Files.{file_most, readable}
use Rattle.file_verdict.proofs.Contents.{readable_none, readable_fits, readable_too_large}
use Rattle.comparison.specs.Difference.{parts_of, differences_of, relay_only, relay_only_line, lines_of, last_line, text_of}
use Rattle.comparison.specs.Entry.{comparison_most, text_for, compare_of}
use Rattle.comparison.proofs.Fitting.{lines_fit}
use Rattle.comparison.proofs.Entries.{CompareCase, in_first, in_second, in_room, all_written, compare_case}
use Rattle.comparison.proofs.Entries.{answer_first, answer_second, answer_lines, size_is}
use Rattle.comparison_verdict.specs.Report.{report_by, report_of, report_for}
use Rattle.comparison_verdict.specs.Laws.{NotJudged, OfBytes, HasNumber, ReportSays}
use Rattle.comparison_verdict.proofs.Answers.{report_refused, report_lines, first_none, second_none, both_judged}
use Rattle.std.specs.Prelude.{Err, None, Ok, Option, Result, Some, ℕ}

-- ---- which files may be judged

fits_or_not : (s : List ℕ) → (length s ≤ file_most) ⊎ (file_most < length s)
fits_or_not s = on (leb (length s) file_most) refl
  where
    on : (t : Bool) → leb (length s) file_most ≡ t → (length s ≤ file_most) ⊎ (file_most < length s)
    on true e = inl (leb-true (length s) file_most e)
    on false e = inr (leb-false (length s) file_most e)

none_readable : (file : Option (List ℕ)) → NotJudged file → readable file ≡ None
none_readable None h = readable_none
none_readable (Some s) h = readable_too_large s h

not_judged : (file : Option (List ℕ)) → readable file ≡ None → NotJudged file
not_judged None e = tt
not_judged (Some s) e = on (fits_or_not s)
  where
    on : (length s ≤ file_most) ⊎ (file_most < length s) → file_most < length s
    on (inl h) = let g = sym (readable_fits s h) ∙ e in let z : ◌≡◌ {A = ℕ} 0 1 = cc in absurd (omega arith)
    on (inr h) = h

module _ (first second : List ℕ) (h : length first ≤ file_most) (k : length second ≤ file_most) where
  two_judged : report_for (Some first) (Some second) ≡ report_of first second
  two_judged = sym (both_judged (Some first) (Some second) (readable_fits first h) (readable_fits second k))

-- one of two files is not judged
module _ (first second : Option (List ℕ)) where
  unreadable_by : NotJudged first ⊎ NotJudged second → report_for first second ≡ line_of Unreadable
  unreadable_by (inl h) = sym (first_none first second (none_readable first h))
  unreadable_by (inr h) = on (readable first) refl
    where
      on : (x : Option (List ℕ)) → readable first ≡ x → report_for first second ≡ line_of Unreadable
      on None e = sym (first_none first second e)
      on (Some s) e = sym (second_none first second e (none_readable second h))

-- ---- what the comparison answers

-- a message is refused by checks 2 to 7 with its number, and with no other
module _ (m : List ℕ) (b : Bytes m) where
  refused_by : {r : Refusal} → HasNumber m r → shape_of m ≡ Err r
  refused_by {r} h = (shape_given.refused m b r).1 h

  refused_low_by : {r : Refusal} → shape_of m ≡ Err r → number_of r < 8
  refused_low_by {r} e = ((shape_given.refused m b r).0 e).2

-- a message that passes may be judged
passes_small : (m : List ℕ) → Passes27 m → length m ≤ file_most
passes_small m p = let t = tokens_of m p in omega (arith, (passing m t.tokens t.rest t.checked).short)

-- ---- what is written is told apart

-- the lines are no other line of eleven bytes
text_apart : (first second s : List ℕ) → length s ≡ 11 → relay_only_line ≢ s → text_for first second ≢ s
unfolding text_for text_of
text_apart first second s n f e = on (lines_of (differences_of (parts_of first) (parts_of second))) (relay_only (parts_of first) (parts_of second)) e
  where
    on : (front : List ℕ) (t : Bool) → front ++ last_line t ≡ s → ⊥
    on [] true e = f e
    on (x ∷ xs) true e = omega (arith, ap length e, length-append (x ∷ xs) (last_line true))
    on front false e = omega (arith, ap length e, length-append front (last_line false))

abbrev byte_at : ℕ → List ℕ → ℕ
byte_at k s = get_or s k 0

refused_not_unreadable : (r : Refusal) → line_of (Refused r) ≢ line_of Unreadable
unfolding worded_line
refused_not_unreadable r e = omega (arith, ap (byte_at 0) e)

refused_22 : length (line_of (Refused NoRoomForReport)) ≡ 11
unfolding worded_line decimal digits_to
refused_22 = refl

text_not_22 : relay_only_line ≢ line_of (Refused NoRoomForReport)
unfolding worded_line
text_not_22 e = omega (arith, ap (byte_at 2) e)

refused_low : (r : Refusal) → number_of r < 8 → line_of (Refused r) ≢ line_of (Refused NoRoomForReport)
refused_low r h e =
    omega (arith, ap length e, refused_22, worded_length refused_word (number_of r), length_one (number_of r) (omega arith))

-- ---- two messages

module _ (first second : List ℕ) where
  never_unreadable : report_of first second ≢ line_of Unreadable
  unfolding report_of
  never_unreadable = on (compare_of first second comparison_most)
    where
      on : (c : Result ℕ Refusal) → report_by (text_for first second) c ≢ line_of Unreadable
      on (Err r) e = refused_not_unreadable r e
      on (Ok n) e = text_apart first second (line_of Unreadable) refl (λ f. omega (arith, ap (byte_at 0) f)) e

  report_fits : length (report_of first second) ≤ comparison_most
  unfolding report_of
  report_fits = on (compare_of first second comparison_most) refl
    where
      on : (c : Result ℕ Refusal) → compare_of first second comparison_most ≡ c → length (report_by (text_for first second) c) ≤ comparison_most
      on (Err r) e = omega (arith, longest_line.refused_most r)
      on (Ok n) e = (size_is first second comparison_most e).1

  first_number : {r : Refusal} → shape_of first ≡ Err r → report_of first second ≡ line_of (Refused r)
  first_number e = sym (report_refused first second refl (answer_first first second comparison_most e))

  second_number : {r : Refusal} → Passes27 first → shape_of second ≡ Err r → report_of first second ≡ line_of (Refused r)
  second_number p e = sym (report_refused first second refl (answer_second first second comparison_most p e))

  both_lines : Passes27 first → Passes27 second → length (text_for first second) ≤ comparison_most → report_of first second ≡ text_for first second
  both_lines p q h = sym (report_lines first second refl (answer_lines first second comparison_most p q h))

  module _ (b : Bytes first) (d : Bytes second) where
    not_22 : report_of first second ≢ line_of (Refused NoRoomForReport)
    not_22 = on (compare_of first second comparison_most) (compare_case first second comparison_most)
      where
        on : (c : Result ℕ Refusal) → CompareCase first second comparison_most c → report_of first second ≢ line_of (Refused NoRoomForReport)
        on c (in_first r e) = rw (first_number e) (refused_low r (refused_low_by first b e))
        on c (in_second r p e) = rw (second_number p e) (refused_low r (refused_low_by second d e))
        on c (in_room p q l) = absurd (omega (arith, lines_fit first second b d p q))
        on c (all_written p q l) = rw (both_lines p q l) (text_apart first second _ refused_22 text_not_22)

-- ---- two files

module _ (first second : Option (List ℕ)) where
  unreadable_only : report_for first second ≡ line_of Unreadable → NotJudged first ⊎ NotJudged second
  unreadable_only h = on (readable first) (readable second) refl refl
    where
      on : (x y : Option (List ℕ)) → readable first ≡ x → readable second ≡ y → NotJudged first ⊎ NotJudged second
      on None y e f = inl (not_judged first e)
      on (Some s) None e f = inr (not_judged second f)
      on (Some s) (Some t) e f = absurd (never_unreadable s t (both_judged first second e f ∙ h))

  written_fits : length (report_for first second) ≤ comparison_most
  written_fits = on (readable first) (readable second) refl refl
    where
      on : (x y : Option (List ℕ)) → readable first ≡ x → readable second ≡ y → length (report_for first second) ≤ comparison_most
      on None y e f = rw (← (first_none first second e)) (omega arith)
      on (Some s) None e f = rw (← (second_none first second e f)) (omega arith)
      on (Some s) (Some t) e f = rw (← (both_judged first second e f)) (report_fits s t)

unreadable_not_22 : {s : List ℕ} → s ≡ line_of Unreadable → s ≢ line_of (Refused NoRoomForReport)
unreadable_not_22 e f = refused_not_unreadable NoRoomForReport (sym f ∙ e)

never_22 : (first second : Option (List ℕ)) → OfBytes first → OfBytes second → report_for first second ≢ line_of (Refused NoRoomForReport)
never_22 None second b d = unreadable_not_22 (unreadable_by None second (inl tt))
never_22 (Some s) None b d = unreadable_not_22 (unreadable_by (Some s) None (inr tt))
never_22 (Some s) (Some t) b d = on (fits_or_not s) (fits_or_not t)
  where
    on : (length s ≤ file_most) ⊎ (file_most < length s) → (length t ≤ file_most) ⊎ (file_most < length t)
        → report_for (Some s) (Some t) ≢ line_of (Refused NoRoomForReport)
    on (inl h) (inl k) = rw (two_judged s t h k) (not_22 s t b d)
    on (inl h) (inr k) = unreadable_not_22 (unreadable_by (Some s) (Some t) (inr k))
    on (inr h) k = unreadable_not_22 (unreadable_by (Some s) (Some t) (inl h))

pub report_says : ReportSays
report_says = record {
  unreadable = λ first second. (unreadable_only first second, unreadable_by first second);
  first_refused = λ first second b h k r n. two_judged first second h k ∙ first_number first second (refused_by first b n);
  second_refused = λ first second d p k r n.
      two_judged first second (passes_small first p) k ∙ second_number first second p (refused_by second d n);
  lines = λ first second b d p q.
      two_judged first second (passes_small first p) (passes_small second q) ∙ both_lines first second p q (lines_fit first second b d p q);
  never_22 = never_22;
  fits = written_fits;
}
