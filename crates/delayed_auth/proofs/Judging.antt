-- The ends of a check, each as one case: what is so where the answer is this one (`check_case`), and that the answer is this one where that is
-- so (`case_check`). The only law file that unfolds `check_of` and its stages.
use mathlib.Core.Path.{◌≡◌, refl, sym, ap, ◌∙◌}
use mathlib.Core.Logic.{◌≢◌}
use mathlib.Core.Bool.{Bool, true, false}
use mathlib.Core.List.{List}
use Prim.Native.Nat.{ℕ}
use Rattle.refusal.specs.declared.Refusal.{Refusal}
use Rattle.refusal.specs.Number.{given_or}
use Rattle.refusal.specs.declared.Refusal.TheVariants.{UnknownSecret, Replay, WrongMac}
use Rattle.hmac_md5.specs.Hmac.{hmac}
use Rattle.dhcp_message.specs.Said.{Said, refused, says}
use Rattle.dhcp_message.specs.Image.{image_of}
use Rattle.key_book.specs.Book.{Book, row_of, key_of}
use Rattle.delayed_auth.specs.Admit.{admitted_said, admitted_form}
use Rattle.octets.specs.Bytes.{same_bytes}
use Rattle.delayed_auth.specs.Check.{new_to, judged_by, judged_row, judged_said, check_of, marks_after, received_after}
use Rattle.octets.proofs.Comparing.{same_equal, same_differ, equal_same, differ_same}
use Rattle.delayed_auth.proofs.Admits.{form_said_lem, RowFacts, said_facts}
use Rattle.std.specs.Prelude.{Err, None, Option, Result, Some}
use Rattle.delayed_auth.specs.declared.Accepted.{Accepted}
use Rattle.delayed_auth.specs.Check.{accepting}

pub data CheckCase (b : Book) (m : List ℕ) : Result Accepted Refusal → Type 0 where
  check_refused : {r : Refusal} → refused r ≡ admitted_said b m → CheckCase b m (Err r)
  check_unknown : {c id : ℕ} {mac : List ℕ} → says c id mac ≡ admitted_said b m → row_of b id ≡ None → CheckCase b m (Err UnknownSecret)
  check_replay : {c id k : ℕ} {mac : List ℕ} → says c id mac ≡ admitted_said b m → row_of b id ≡ Some k → new_to b k c ≡ false
      → CheckCase b m (Err Replay)
  check_wrong : {c id k : ℕ} {mac : List ℕ} → says c id mac ≡ admitted_said b m → row_of b id ≡ Some k → new_to b k c ≡ true
      → mac ≢ hmac (key_of b k) (image_of m) → CheckCase b m (Err WrongMac)
  check_accepts : {c id k : ℕ} {mac : List ℕ} → says c id mac ≡ admitted_said b m → row_of b id ≡ Some k → new_to b k c ≡ true
      → mac ≡ hmac (key_of b k) (image_of m) → CheckCase b m (accepting k c)

-- the parts of what is accepted
pub accepting_parts : {j c k d : ℕ} → accepting j c ≡ accepting k d → (j ≡ k) × (c ≡ d)
accepting_parts {j} {c} e =
    let none : Accepted = record { row = j; counter = c } in
    let same = ap (given_or none) e in
    (ap (λ (a : Accepted). a.row) same, ap (λ (a : Accepted). a.counter) same)

module _ (b : Book) (m : List ℕ) where
  row_case : (c id : ℕ) (mac : List ℕ) → says c id mac ≡ admitted_said b m → (o : Option ℕ) → row_of b id ≡ o → CheckCase b m (judged_row b m c mac o)
  unfolding judged_row
  row_case c id mac e None f = check_unknown e f
  row_case c id mac e (Some k) f = on (new_to b k c) refl (same_bytes mac (hmac (key_of b k) (image_of m))) refl
    where
      on : (new : Bool) → new_to b k c ≡ new → (right : Bool) → same_bytes mac (hmac (key_of b k) (image_of m)) ≡ right
          → CheckCase b m (judged_by k c new right)
      on false p right q = check_replay e f p
      on true p false q = check_wrong e f p (same_differ _ _ q)
      on true p true q = check_accepts e f p (same_equal _ _ q)

  pub check_case : CheckCase b m (check_of b m)
  unfolding check_of judged_said
  check_case = on (admitted_said b m) refl
    where
      on : (x : Said) → x ≡ admitted_said b m → CheckCase b m (judged_said b m x)
      on (refused r) e = check_refused e
      on (says c id mac) e = row_case c id mac e (row_of b id) refl

  judged_said_lem : (x : Said) → x ≡ admitted_said b m → judged_said b m x ≡ check_of b m
  unfolding check_of
  judged_said_lem x e = ap (judged_said b m) e

  judged_row_lem : (c id : ℕ) (mac : List ℕ) (o : Option ℕ) → says c id mac ≡ admitted_said b m → row_of b id ≡ o → judged_row b m c mac o ≡ check_of b m
  unfolding judged_said
  judged_row_lem c id mac o e f = ap (judged_row b m c mac) (sym f) ∙ judged_said_lem (says c id mac) e

  pub case_check : (v : Result Accepted Refusal) → CheckCase b m v → v ≡ check_of b m
  unfolding judged_said judged_row
  case_check v (check_refused {r} e) = judged_said_lem (refused r) e
  case_check v (check_unknown {c} {id} {mac} e f) = judged_row_lem c id mac None e f
  case_check v (check_replay {c} {id} {k} {mac} e f h) = rw h at (judged_row_lem c id mac (Some k) e f)
  case_check v (check_wrong {c} {id} {k} {mac} e f h g) =
      rw (h, differ_same mac (hmac (key_of b k) (image_of m)) g) at (judged_row_lem c id mac (Some k) e f)
  case_check v (check_accepts {c} {id} {k} {mac} e f h g) =
      rw (h, equal_same mac (hmac (key_of b k) (image_of m)) g) at (judged_row_lem c id mac (Some k) e f)

  -- 1 to 9, by the form
  pub form_checked : (r : Refusal) → Err r ≡ admitted_form b m → Err r ≡ check_of b m
  form_checked r e = case_check (Err r) (check_refused (form_said_lem b m (Err r) e))

  pub accepted_facts : (k c : ℕ) → accepting k c ≡ check_of b m → RowFacts b k
  accepted_facts k c e = on (rw (← e) at check_case)
    where
      on : CheckCase b m (accepting k c) → RowFacts b k
      on (check_accepts {c} {id} {k} {mac} e f h g) = said_facts b m c id k mac e f

  -- what the entry returns, and what it leaves in the marks and in the received counters
  pub check_ends : (v : Result Accepted Refusal) → v ≡ check_of b m
      → (v ≡ check_of b m)
      × ((marks_after v b.marks ≡ marks_after (check_of b m) b.marks) × (received_after v b.received ≡ received_after (check_of b m) b.received))
  check_ends v e = (e, (ap (λ (x : Result Accepted Refusal). marks_after x b.marks) e, ap (λ (x : Result Accepted Refusal). received_after x b.received) e))
