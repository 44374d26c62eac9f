-- specs/Crossed.antt, computed as in proofs/Shuffled.antt; a book that differs in secret B by the law of demands/specs/History.antt.
use mathlib.Core.Path.{◌≡◌, refl, sym, ap, ap₂, subst, ◌∙◌}
use mathlib.Core.Bool.{true, false, true≢false}
use Rattle.std.proofs.lemmas.Option.{same_Some}
use mathlib.Core.List.{List, [], ◌∷◌, ◌++◌}
use Prim.Native.Nat.{ℕ}
use native.Mathlib.Omega.{arith}
use lib.ListN.{get_or, drop}
use Rattle.refusal.specs.declared.Refusal.TheVariants.{WrongMac}
use Rattle.dhcp_message.specs.Options.{Token, opt}
use Rattle.dhcp_message.specs.Said.{says, said_of, named}
use Rattle.dhcp_message.specs.Bench.{some_mac}
use Rattle.dhcp_message.specs.Relay.{added, replaced, removed, Permitted, unchanged, changed}
use Rattle.dhcp_message.proofs.Replays.{counter_old}
use Rattle.key_book.specs.Book.{Book, Sound, row_of, key_of}
use Rattle.key_book.proofs.Says.{sound_says}
use Rattle.delayed_auth.specs.Check.{new_to, check_of}
use Rattle.demands.specs.Accepts.{Accepts}
use Rattle.demands.specs.Demand3.{check, state_at, Carried, same, relayed, no_check, Rearranged}
use Rattle.demands.specs.History.{names_it, under_it, OnlyOthersDiffer}
use Rattle.demands.proofs.Below.{never}
use Rattle.demands.proofs.Stages.{check_accepts, end_check}
use Rattle.demands.proofs.Steps.{SameIds, row_kept}
use Rattle.demands.proofs.Demand3.{demand_3, ids_at, never_new}
use Rattle.demands.proofs.History.{history}
use Rattle.worked_runs.specs.Calls.{alone}
use Rattle.worked_runs.specs.Crossed.{id_a, book, changed_b, auth_a, auth_b, relay_info, other_info, plain, behind}
use Rattle.worked_runs.specs.Crossed.{forged, stale, first, second, place, Crossed}
use Rattle.demands.proofs.Computing.{computing}
use Rattle.worked_runs.proofs.Network.{◌and◌, order_of, before, before_all, in_order, rearranged, relays}
use Rattle.std.specs.Prelude.{Err, Some}

is_sound : Sound book
unfolding computing
is_sound = (sound_says book).0 refl

-- ---- a book that differs in secret B

changed_sound : Sound changed_b
unfolding computing
changed_sound = (sound_says changed_b).0 refl

pub name_a : named (plain (auth_a ++ relay_info)) ≡ Some id_a
unfolding computing
name_a = refl

row_a : row_of book id_a ≡ Some 0
unfolding computing
row_a = refl

pub key_a : key_of book 0 ≡ key_of changed_b 0
unfolding computing
key_a = refl

-- what holds of secret A's row holds of the row found
pub in_row : (P : ℕ → Type 0) → P 0 → (k : ℕ) → row_of book id_a ≡ Some k → P k
in_row P h k e = subst P (same_Some _ _ (sym row_a ∙ e)) h

others_differ : OnlyOthersDiffer id_a book changed_b
others_differ = record {
  room = refl;
  ids = refl;
  key = in_row (λ k. key_of book k ≡ key_of changed_b k) key_a;
  mark = in_row (λ k. get_or book.marks k 0 ≡ get_or changed_b.marks k 0) refl;
  received = in_row (λ k. get_or book.received k 0 ≡ get_or changed_b.received k 0) refl;
  sent = in_row (λ k. get_or book.sent k 0 ≡ get_or changed_b.sent k 0) refl;
}

-- ---- the messages as they were relayed

-- taken out by one relay, and added by the next
taken_a : Permitted (plain (auth_a ++ relay_info)) (behind 3 3 auth_a)
unfolding computing
taken_a =
    let front : List Token = opt 90 (drop 2 auth_a) ∷ [] in
    relays _ _ tt (front ++ (opt 82 (drop 2 relay_info) ∷ [])) front (omega arith, refl) (removed front (drop 2 relay_info) [] refl refl)
    3 3 (omega arith) (omega arith) refl (omega arith)

added_a : Permitted (behind 3 3 auth_a) (behind 1 1 (relay_info ++ auth_a))
unfolding computing
added_a =
    let back : List Token = opt 90 (drop 2 auth_a) ∷ [] in
    relays _ _ tt back (opt 82 (drop 2 relay_info) ∷ back) (omega arith, refl) (added [] (drop 2 relay_info) back (omega arith) refl refl refl)
    1 1 (omega arith) (omega arith) refl (omega arith)

replaced_b : Permitted (plain (relay_info ++ auth_b)) (behind 2 2 (other_info ++ auth_b))
unfolding computing
replaced_b =
    let back : List Token = opt 90 (drop 2 auth_b) ∷ [] in
    relays _ _ tt (opt 82 (drop 2 relay_info) ∷ back) (opt 82 (drop 2 other_info) ∷ back) (omega arith, refl)
    (replaced [] (drop 2 relay_info) (drop 2 other_info) back (omega arith) refl refl) 2 2 (omega arith) (omega arith) refl (omega arith)

relayed_a : Carried (check (plain (auth_a ++ relay_info))) (check (behind 1 1 (relay_info ++ auth_a)))
relayed_a = relayed taken_a.passes (changed taken_a (changed added_a unchanged))

relayed_b : Carried (check (plain (relay_info ++ auth_b))) (check (behind 2 2 (other_info ++ auth_b)))
relayed_b = relayed replaced_b.passes (changed replaced_b unchanged)

-- ---- the checks put in are not accepted there

wrong_mac : check_of book forged ≡ Err WrongMac
unfolding computing
wrong_mac = refl

forged_refused : (k c : ℕ) → Accepts book forged k c → ⊥
forged_refused k c a = let e = end_check book forged _ (check_accepts is_sound a) in never (cc wrong_mac)

stale_says : said_of stale ≡ says 10 id_a some_mac
unfolding computing
stale_says = refl

stale_on : (b : Book) → SameIds book b → new_to b 0 10 ≡ false → (k c : ℕ) → Accepts b stale k c → ⊥
stale_on b w h k c a =
    let said : says 10 id_a some_mac ≡ says c a.id a.mac = sym stale_says ∙ a.form in
    let counter : 10 ≡ c = cc in
    let name : id_a ≡ a.id = cc in
    let here : 0 ≡ k = same_Some _ _ (sym row_a ∙ sym (row_kept book b w id_a) ∙ ap (row_of b) name ∙ a.secret) in
    true≢false (sym a.new ∙ ap₂ (new_to b) (sym here) (sym counter) ∙ h)

-- a counter that is not new to secret A at the start is never new to it
stale_refused : (k c : ℕ) → Accepts (state_at (alone book) second 8).book stale k c → ⊥
stale_refused =
    stale_on (state_at (alone book) second 8).book (ids_at (alone book) is_sound second 8)
    (never_new (alone book) is_sound second 0 8 0 10 (omega arith) (omega arith) old)
  where
    old : new_to book 0 10 ≡ false
    old = counter_old 10 10 (omega arith)

-- ---- the second run

-- back from a place in the second run to the step of the first
from : ℕ → ℕ
from p = get_or (7 ∷ 4 ∷ 3 ∷ 1 ∷ 6 ∷ 2 ∷ 5 ∷ 0 ∷ []) p 7

orders : in_order first place ≡ true
unfolding computing order_of before before_all in_order
orders = refl

made : Rearranged (alone book) first second place
unfolding from
made =
    rearranged (alone book) first second place from
    (refl and refl and refl and refl and refl and refl and refl and tt)
    ((_, refl, same) and (_, refl, same) and (_, refl, same) and (_, refl, same) and (_, refl, same)
    and (_, refl, relayed_a) and (_, refl, relayed_b) and tt)
    orders
    ((check forged, refl, no_check forged_refused) and tt and tt and tt and tt and tt and tt and tt and (check stale, refl, no_check stale_refused) and tt)

pub crossed : Crossed
unfolding computing
crossed = record {
  is_sound = is_sound;
  first_answers = refl;
  first_marks = refl;
  first_received = refl;
  first_sent = refl;
  accepted_a = refl;
  seals_a = refl;
  seals_none = refl;
  changed_sound = changed_sound;
  others_differ = others_differ;
  check_of_a = names_it name_a;
  seal_of_a = under_it;
  unseen = history.others_unseen (alone book) (alone changed_b) is_sound changed_sound id_a others_differ first;
  made = made;
  same_run = demand_3.any_order (alone book) is_sound first second place made;
}
