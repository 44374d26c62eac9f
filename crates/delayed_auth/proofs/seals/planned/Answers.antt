-- `delayed_auth::planned` meets its contract: each end is one leaf of `plan_of` (proofs/Plans.antt).
-- ---- what is known from the form on
use mathlib.Core.Path.{◌≡◌, sym, ap, ◌∙◌}
use Rattle.refusal.proofs.Raised.{raised, asked_there, asked_none}
use Rattle.key_book.specs.Lent.{book_in}
use Rattle.key_book.specs.Book.{row_of}
use Rattle.delayed_auth.proofs.Finding.{sound_ascends}
use Rattle.delayed_auth.specs.Admit.{admitted_form}
use Rattle.delayed_auth.proofs.Admits.{full_passed, RowFacts, row_facts}
use Rattle.delayed_auth.proofs.Plans.{plan_refused, plan_unknown, plan_spent, plan_ready, case_plan}
use native.Mathlib.Omega.{arith}
use Rattle.delayed_auth.proofs.seals.planned.Goals as goal
use Rattle.delayed_auth.proofs.seals.planned.Goals.{In_ok-auth, In_ok-row}
use Rattle.std.specs.Prelude.{Ok, Err, Some}

full : (c : In_ok-auth) → Ok c.in_ok-auth.auth ≡ admitted_form (book_in c.args.book) c.args.message.now
full c = sym c.in_ok-auth.was ∙ c.admitted.ensures

row : (c : In_ok-row) → row_of (book_in c.args.book) c.args.id ≡ Some c.in_ok-row.row
row c = sym c.row_of.ensures ∙ asked_there _ _ (sym c.ok_or.ensures.value ∙ c.in_ok-row.was)

facts : (c : In_ok-row) → RowFacts (book_in c.args.book) c.in_ok-row.row
facts c = row_facts _ _ _ (full_passed _ _ _ (sym c.in_ok-auth.was ∙ c.admitted.ensures)).0 (row c)

pub row_of-requires : goal.row_of-requires
row_of-requires c = sound_ascends _ (full_passed _ _ _ (full (goal.at.row_of-requires c).In_ok-auth)).0

pub returns-in_err-row : goal.returns-in_err-row
returns-in_err-row c =
    let none = asked_none _ _ (sym c.ok_or.ensures.value ∙ c.in_err-row.was) in
    raised c.from_residual-in_err-row.result c.from_residual-in_err-row.ensures.1 ∙ ap Err (sym none.1)
    ∙ case_plan _ _ _ _ (plan_unknown (full (goal.at.returns-in_err-row c).In_ok-auth) (sym c.row_of.ensures ∙ none.0))

pub offset_bounds-book-row : goal.offset_bounds-book-row
offset_bounds-book-row c = omega (arith, (facts (goal.at.offset_bounds-book-row c).In_ok-row).few)

pub bounds-book-row : goal.bounds-book-row
bounds-book-row c = (facts (goal.at.bounds-book-row c).In_ok-row).in_sent

pub returns-then-book-row : goal.returns-then-book-row
returns-then-book-row c =
    case_plan _ _ _ _ (plan_spent (full (goal.at.returns-then-book-row c).In_ok-auth) (row (goal.at.returns-then-book-row c).In_ok-row) c.if-book-row.true)

pub returns-in_err-auth : goal.returns-in_err-auth
returns-in_err-auth c =
    raised c.from_residual.result c.from_residual.ensures.1 ∙ case_plan _ _ _ _ (plan_refused (sym c.in_err-auth.was ∙ c.admitted.ensures))

pub returns : goal.returns
returns c =
    case_plan _ _ _ _ (plan_ready (full (goal.at.returns c).In_ok-auth) (row (goal.at.returns c).In_ok-row) c.if-book-row.false)
