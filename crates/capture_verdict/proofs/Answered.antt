-- The lines are the answers of demand 3's run of checks: record by record, by whether it has a payload (proofs/Judged.antt).
use Prim.Native.Nat.{ℕ}
use mathlib.Core.Path.{◌≡◌, refl, sym, ap, ◌∙◌}
use mathlib.Core.List.{List, [], ◌∷◌}
use Rattle.key_book.specs.Book.{Book}
use Rattle.demands.specs.Demand3.{check, State, state_after, answers, ending}
use Rattle.capture.specs.Records.{Record}
use Rattle.capture.specs.Frame.{payload_of}
use Rattle.capture_verdict.specs.Lines.{record_line, book_by, record_lines, book_at_end, lines_in, lines_of}
use Rattle.capture_verdict.specs.Laws.{check_then, checks_of, Tells, nothing, skips, says, VerdictsAreAnswers}
use Rattle.capture_verdict.proofs.Judged.{line_skipped, book_kept, line_judged, book_judged}
use Rattle.std.specs.Prelude.{None, Option, Some}

lines_tell : (b : State) (records : List Record) → Tells records (answers b (checks_of records)) (record_lines b.book records)
lines_tell b [] = nothing
lines_tell b (r ∷ rs) = on (payload_of r.frame r.original) refl (λ b. lines_tell b rs)
  where
    on : (p : Option (List ℕ)) → payload_of r.frame r.original ≡ p → ((b : State) → Tells rs (answers b (checks_of rs)) (record_lines b.book rs))
        → Tells (r ∷ rs) (answers b (check_then p (checks_of rs)))
        (record_line b.book r.frame r.original ∷ record_lines (book_by b.book r.frame r.original) rs)
    on None e go = rw (sym (line_skipped b.book r.frame r.original e), book_kept b.book r.frame r.original e) (skips e (go b))
    on (Some m) e go =
        rw (sym (line_judged b.book r.frame r.original e), book_judged b.book r.frame r.original e) (says e (go (state_after b (check m))))

book_ends : (b : State) (records : List Record) → book_at_end b.book records ≡ (ending b (checks_of records)).book
book_ends b [] = refl
book_ends b (r ∷ rs) = on (payload_of r.frame r.original) refl (λ b. book_ends b rs)
  where
    on : (p : Option (List ℕ)) → payload_of r.frame r.original ≡ p → ((b : State) → book_at_end b.book rs ≡ (ending b (checks_of rs)).book)
        → book_at_end (book_by b.book r.frame r.original) rs ≡ (ending b (check_then p (checks_of rs))).book
    on None e go = ap (λ (b : Book). book_at_end b rs) (book_kept b.book r.frame r.original e) ∙ go b
    on (Some m) e go = ap (λ (b : Book). book_at_end b rs) (book_judged b.book r.frame r.original e) ∙ go (state_after b (check m))

pub verdicts_are_answers : VerdictsAreAnswers
unfolding lines_of
verdicts_are_answers = record { lines_tell = lines_tell; book_ends = book_ends; numbered_so = λ b capture records e. ap (lines_in b) e }
