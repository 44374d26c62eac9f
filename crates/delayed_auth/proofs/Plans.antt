-- The ends of a seal: each plan as one case, and back; and what a plan leads to. The only law file that unfolds `plan_of` and its stages, and `seal_of`.
use mathlib.Core.Path.{◌≡◌, refl, sym, ap, ◌∙◌}
use mathlib.Core.Logic.{◌≢◌}
use mathlib.Core.Bool.{Bool, true, false}
use mathlib.Core.List.{List}
use Prim.Native.Nat.{ℕ, ◌+◌}
use borrow.Author.Tests.{eq-eqb, ne_eqb, eqb-true, eqb-false}
use lib.Dec.{eqb}
use lib.ListN.{get_or, set}
use Rattle.refusal.specs.declared.Refusal.{Refusal}
use Rattle.refusal.specs.declared.Refusal.TheVariants.{UnknownSecret, CounterSpent}
use Rattle.dhcp_message.specs.Said.{form_of}
use Rattle.dhcp_message.specs.declared.Auth.{Auth}
use Rattle.key_book.specs.Book.{Book, row_of, key_of}
use Rattle.delayed_auth.specs.Admit.{admitted_form}
use Rattle.delayed_auth.specs.Seal.{counter_most, sealed_message, plan_counter, plan_row, plan_form, plan_of, outcome_by, seal_of}
use Rattle.delayed_auth.specs.Seal.{Outcome, sealing_of, message_after, sent_after}
use Rattle.delayed_auth.proofs.Admits.{full_passed, RowFacts, row_facts}
use Rattle.std.specs.Prelude.{Err, None, Ok, Option, Result, Some, ℕ}
use Rattle.delayed_auth.specs.declared.Plan.{Plan}
use Rattle.delayed_auth.specs.Seal.{plan_for}

pub data PlanCase (b : Book) (id : ℕ) (m : List ℕ) : Result Plan Refusal → Type 0 where
  plan_refused : {r : Refusal} → Err r ≡ admitted_form b m → PlanCase b id m (Err r)
  plan_unknown : {a : Auth} → Ok a ≡ admitted_form b m → row_of b id ≡ None → PlanCase b id m (Err UnknownSecret)
  plan_spent : {a : Auth} {k : ℕ} → Ok a ≡ admitted_form b m → row_of b id ≡ Some k → get_or b.sent k 0 ≡ counter_most
      → PlanCase b id m (Err CounterSpent)
  plan_ready : {a : Auth} {k : ℕ} → Ok a ≡ admitted_form b m → row_of b id ≡ Some k → get_or b.sent k 0 ≢ counter_most → PlanCase b id m (plan_for a k)

module _ (b : Book) (id : ℕ) (m : List ℕ) where
  pub plan_case : PlanCase b id m (plan_of b id m)
  unfolding plan_of plan_form plan_row
  plan_case = on (admitted_form b m) refl
    where
      counter : (a : Auth) → Ok a ≡ admitted_form b m → (k : ℕ) → row_of b id ≡ Some k → (t : Bool) → eqb (get_or b.sent k 0) counter_most ≡ t
          → PlanCase b id m (plan_counter a k t)
      counter a e k f true p = plan_spent e f (eqb-true _ _ p)
      counter a e k f false p = plan_ready e f (eqb-false _ _ p)

      row : (a : Auth) → Ok a ≡ admitted_form b m → (o : Option ℕ) → row_of b id ≡ o → PlanCase b id m (plan_row b a o)
      row a e None f = plan_unknown e f
      row a e (Some k) f = counter a e k f (eqb (get_or b.sent k 0) counter_most) refl

      on : (f : Result Auth Refusal) → f ≡ admitted_form b m → PlanCase b id m (plan_form b id f)
      on (Err r) e = plan_refused e
      on (Ok a) e = row a e (row_of b id) refl

  plan_row_lem : (a : Auth) (o : Option ℕ) → Ok a ≡ admitted_form b m → row_of b id ≡ o → plan_row b a o ≡ plan_of b id m
  unfolding plan_of plan_form
  plan_row_lem a o e f = ap (plan_row b a) (sym f) ∙ ap (plan_form b id) e

  pub case_plan : (p : Result Plan Refusal) → PlanCase b id m p → p ≡ plan_of b id m
  unfolding plan_of plan_form plan_row
  case_plan p (plan_refused e) = ap (plan_form b id) e
  case_plan p (plan_unknown {a} e f) = plan_row_lem a None e f
  case_plan p (plan_spent {a} {k} e f h) = rw (eq-eqb (get_or b.sent k 0) counter_most h) at (plan_row_lem a (Some k) e f)
  case_plan p (plan_ready {a} {k} e f h) = rw (ne_eqb (get_or b.sent k 0) counter_most h) at (plan_row_lem a (Some k) e f)

  pub seal_planned : (p : Result Plan Refusal) → p ≡ plan_of b id m → outcome_by b id m p ≡ seal_of b id m
  unfolding seal_of
  seal_planned p e = ap (outcome_by b id m) e

-- ---- a plan that is ready

pub record ReadyFacts (b : Book) (m : List ℕ) (a : Auth) (k : ℕ) : Type 0 where
  pub full : form_of m ≡ Ok a
  pub left : get_or b.sent k 0 ≢ counter_most
  pub row : RowFacts b k

pub ready_facts : (b : Book) (id : ℕ) (m : List ℕ) (a : Auth) (k : ℕ) → plan_for a k ≡ plan_of b id m → ReadyFacts b m a k
ready_facts b id m a k e = on (rw (← e) at (plan_case b id m))
  where
    on : PlanCase b id m (plan_for a k) → ReadyFacts b m a k
    on (plan_ready {a} {k} e f h) = let w = full_passed b m a e in record { full = w.1; left = h; row = row_facts b id k w.0 f }

-- ---- what the entry returns, and what it leaves in the message and in the sent counters

module _ (b : Book) (id : ℕ) (m : List ℕ) where
  abbrev Ends : Result ℕ Refusal → List ℕ → List ℕ → Type 0
  Ends answer message sent =
      (answer ≡ sealing_of (seal_of b id m)) × ((message ≡ message_after (seal_of b id m) m) × (sent ≡ sent_after (seal_of b id m) b.sent))

  ends_by : (p : Result Plan Refusal) → p ≡ plan_of b id m
      → let o = outcome_by b id m p in Ends (sealing_of o) (message_after o m) (sent_after o b.sent)
  ends_by p e =
      let o = seal_planned b id m p e in
      (ap sealing_of o, (ap (λ (x : Outcome). message_after x m) o, ap (λ (x : Outcome). sent_after x b.sent) o))

  pub ends_refused : (r : Refusal) → Err r ≡ plan_of b id m → Ends (Err r) m b.sent
  ends_refused r e = ends_by (Err r) e

  pub ends_sealed : (a : Auth) (k : ℕ) → plan_for a k ≡ plan_of b id m → (key n : List ℕ) → key ≡ key_of b k
      → let c = get_or b.sent k 0 + 1 in n ≡ sealed_message key m a c id → Ends (Ok c) n (set b.sent k c)
  ends_sealed a k e key n f g =
      let w = ends_by (plan_for a k) e in
      (w.0, (g ∙ ap (λ (x : List ℕ). sealed_message x m a (get_or b.sent k 0 + 1) id) f ∙ w.1.0, w.1.1))
