-- `delayed_auth::judged_full` meets its contract: each end is one leaf of `check_of` (proofs/Judging.antt).
-- ---- what is known at the start, and of the row found
use mathlib.Core.Path.{◌≡◌, sym, ap, ◌∙◌}
use mathlib.Core.Bool.{true}
use lib.ListN.{length}
use Rattle.std.specs.Prelude.{Err}
use Rattle.refusal.proofs.Raised.{raised, asked_there, asked_none}
use Rattle.hmac_md5.specs.Hmac.{hmac}
use Rattle.dhcp_message.specs.Said.{says, form_of}
use Rattle.dhcp_message.specs.Image.{image_of}
use Rattle.dhcp_message.specs.Seal.{FullForm}
use Rattle.dhcp_message.proofs.Seals.{full_form}
use Rattle.key_book.specs.Lent.{book_in}
use Rattle.key_book.specs.Book.{sound, row_of, key_of}
use Rattle.delayed_auth.proofs.Finding.{sound_ascends}
use Rattle.delayed_auth.specs.Admit.{admitted_said}
use Rattle.octets.specs.Bytes.{same_bytes}
use Rattle.octets.proofs.Comparing.{same_equal, same_differ}
use Rattle.delayed_auth.specs.Check.{new_to}
use Rattle.delayed_auth.proofs.Macs.{mac_in, mac_compared}
use Rattle.delayed_auth.proofs.Admits.{full_passed, form_said_lem, RowFacts, row_facts}
use Rattle.delayed_auth.proofs.Judging.{check_unknown, check_replay, check_wrong, check_accepts, case_check}
use native.Mathlib.Omega.{arith}
use Rattle.delayed_auth.proofs.checks.judged_full.Goals as goal
use Rattle.delayed_auth.proofs.checks.judged_full.Goals.{After-is_new, After-same, In_ok-row, Start}
use Rattle.std.specs.Prelude.{Ok, Some}

passed : (s : Start) → (sound (book_in s.args.book) ≡ true) × (form_of s.args.message.now ≡ Ok s.args.auth)
passed s = full_passed _ _ _ s.requires

said : (s : Start)
    → says s.args.auth.counter s.args.auth.id (mac_in s.args.message.now s.args.auth) ≡ admitted_said
    (book_in s.args.book) s.args.message.now
said s = form_said_lem _ _ (Ok s.args.auth) s.requires

form : (s : Start) → FullForm s.args.message.now s.args.auth
form s = full_form _ _ (full_passed _ _ _ s.requires).1

row : (c : In_ok-row) → row_of (book_in c.args.book) c.args.auth.id ≡ Some c.in_ok-row.row
row c = sym c.row_of.ensures ∙ asked_there _ _ (sym c.ok_or.ensures.value ∙ c.in_ok-row.was)

facts : (c : In_ok-row) → RowFacts (book_in c.args.book) c.in_ok-row.row
facts c = row_facts _ _ _ (full_passed _ _ _ c.requires).0 (row c)

new : (c : After-is_new)
    → new_to (book_in c.args.book) c.in_ok-row.row
    c.args.auth.counter ≡ c.is_new.result
new c = sym c.is_new.ensures

compared : (c : After-same)
    → same_bytes (mac_in c.args.message.now c.args.auth) (hmac (key_of
    (book_in c.args.book) c.in_ok-row.row)
    (image_of c.args.message.now)) ≡ c.same.result
compared c =
    mac_compared _ _ _ _ _ c.args.auth c.same.ensures c.mac_of-mac.ensures c.key_of.ensures.content

pub row_of-requires : goal.row_of-requires
row_of-requires c = sound_ascends _ (passed (goal.at.row_of-requires c).Start).0

pub returns-in_err-row : goal.returns-in_err-row
returns-in_err-row c =
    let none = asked_none _ _ (sym c.ok_or.ensures.value ∙ c.in_err-row.was) in
    raised c.from_residual.result c.from_residual.ensures.1 ∙ ap Err (sym none.1)
    ∙ case_check _ _ _ (check_unknown (said (goal.at.returns-in_err-row c).Start) (sym c.row_of.ensures ∙ none.0))

pub bounds-book-row : goal.bounds-book-row
bounds-book-row c = (facts (goal.at.bounds-book-row c).In_ok-row).in_marks

pub offset_bounds-book-row : goal.offset_bounds-book-row
offset_bounds-book-row c = omega (arith, (facts (goal.at.offset_bounds-book-row c).In_ok-row).few)

pub bounds-book-row-2 : goal.bounds-book-row-2
bounds-book-row-2 c = (facts (goal.at.bounds-book-row-2 c).In_ok-row).in_received

pub returns-then-not-is_new : goal.returns-then-not-is_new
returns-then-not-is_new c =
    case_check _ _ _ (check_replay (said (goal.at.returns-then-not-is_new c).Start) (row (goal.at.returns-then-not-is_new c).In_ok-row)
    (new (goal.at.returns-then-not-is_new c).After-is_new ∙ c.if-not-is_new.true))

pub mac_of-mac-requires : goal.mac_of-mac-requires
mac_of-mac-requires c = (
  (passed (goal.at.mac_of-mac-requires c).Start).1,
  omega (
    arith,
    ap length c.key_of.ensures.content,
    (facts (goal.at.mac_of-mac-requires c).In_ok-row).key_short,
  ),
)

pub overflow_add-from : goal.overflow_add-from
overflow_add-from c = let f = form (goal.at.overflow_add-from c).Start in omega (arith, f.inside, f.most)

pub overflow_add-to : goal.overflow_add-to
overflow_add-to c = let f = form (goal.at.overflow_add-to c).Start in omega (arith, f.inside, f.most)

pub slice_bounds-same-end : goal.slice_bounds-same-end
slice_bounds-same-end c = omega (arith, (form (goal.at.slice_bounds-same-end c).Start).inside)

pub returns-then-not-same : goal.returns-then-not-same
returns-then-not-same c =
    let wrong = same_differ _ _ (compared (goal.at.returns-then-not-same c).After-same ∙ c.if-not-same.true) in
    case_check _ _ _ (check_wrong (said (goal.at.returns-then-not-same c).Start) (row (goal.at.returns-then-not-same c).In_ok-row)
    (new (goal.at.returns-then-not-same c).After-is_new ∙ c.if-not-is_new.false) wrong)

pub returns : goal.returns
returns c =
    let right = same_equal _ _ (compared (goal.at.returns c).After-same ∙ c.if-not-same.false) in
    case_check _ _ _ (check_accepts (said (goal.at.returns c).Start) (row (goal.at.returns c).In_ok-row)
    (new (goal.at.returns c).After-is_new ∙ c.if-not-is_new.false) right)
