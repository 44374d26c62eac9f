-- What a seal answers (docs/RULES.md, 'Seal'): numbers 1 to 9, then 10 for the given id, then 13, else the counter it wrote; and what it
-- leaves in the message and in the row of sent counters. Counter, id and MAC found in the message don't matter.
use Rattle.std.specs.Prelude.{ℕ, ◌+◌, ◌-◌, ◌^◌, Bool, true, false, List, ◌++◌, eqb, get_or, set, Err, None, Ok, Option, Result, Some}
use Rattle.refusal.specs.Number.{result_number}
use Rattle.refusal.specs.declared.Refusal.{Refusal}
use Rattle.refusal.specs.declared.Refusal.TheVariants.{UnknownSecret, CounterSpent}
use Rattle.octets.specs.Bytes.{zeros}
use Rattle.hmac_md5.specs.Hmac.{hmac}
use Rattle.dhcp_message.specs.Layout.{mac_size}
use Rattle.dhcp_message.specs.Image.{image_of}
use Rattle.dhcp_message.specs.Seal.{fields, sealed_with}
use Rattle.dhcp_message.specs.declared.Auth.{Auth}
use Rattle.key_book.specs.Book.{Book, row_of, key_of}
use Rattle.delayed_auth.specs.Admit.{admitted_form}
use Rattle.delayed_auth.specs.declared.Plan.{Plan}

-- the largest counter
abbrev pub counter_most : ℕ
counter_most = 2 ^ 64 - 1

-- ---- what a seal goes by: option 90 as it was found and the row of the given id, or the refusal

abbrev pub plan_for : Auth → (row : ℕ) → Result Plan Refusal
plan_for a k = Ok (record { auth = a; row = k })

-- 13, by whether the sent counter is the largest
abbrev pub plan_counter : Auth → (row : ℕ) → (spent : Bool) → Result Plan Refusal
plan_counter a k true = Err CounterSpent
plan_counter a k false = plan_for a k

-- 10, for the given id
unfoldable pub plan_row : Book → Auth → Option ℕ → Result Plan Refusal
plan_row b a None = Err UnknownSecret
plan_row b a (Some k) = plan_counter a k (eqb (get_or b.sent k 0) counter_most)

-- 1 to 9
unfoldable pub plan_form : Book → (id : ℕ) → Result Auth Refusal → Result Plan Refusal
plan_form b id (Err r) = Err r
plan_form b id (Ok a) = plan_row b a (row_of b id)

unfoldable pub plan_of : Book → (id : ℕ) → List ℕ → Result Plan Refusal
plan_of b id m = plan_form b id (admitted_form b m)

-- ---- what it does

-- The message with counter and id written and the MAC of the resulting image. The image doesn't read the MAC's place, here zero.
unfoldable pub sealed_message : List ℕ → List ℕ → Auth → (counter id : ℕ) → List ℕ
sealed_message key m a counter id = sealed_with a (fields counter id ++ hmac key (image_of (sealed_with a (fields counter id ++ zeros mac_size) m))) m

-- All that a seal does: the row whose sent counter it stores (which the entry doesn't return), the counter, and the message as it leaves it;
-- or the refusal, which leaves the message as it was.
pub data Outcome : Type 0 where
  sealed : (row counter : ℕ) (message : List ℕ) → Outcome
  unsealed : Refusal → Outcome

-- with the row's sent counter plus 1
abbrev pub outcome_by : Book → (id : ℕ) → List ℕ → Result Plan Refusal → Outcome
outcome_by b id m (Ok got) = sealed got.row (get_or b.sent got.row 0 + 1) (sealed_message (key_of b got.row) m got.auth (get_or b.sent got.row 0 + 1) id)
outcome_by b id m (Err r) = unsealed r

unfoldable pub seal_of : Book → (id : ℕ) → List ℕ → Outcome
seal_of b id m = outcome_by b id m (plan_of b id m)

-- what the entry returns
abbrev pub sealing_of : Outcome → Result ℕ Refusal
sealing_of (sealed row counter message) = Ok counter
sealing_of (unsealed r) = Err r

-- the message and the sent counters afterwards
abbrev pub message_after : Outcome → List ℕ → List ℕ
message_after (sealed row counter message) m = message
message_after (unsealed r) m = m

abbrev pub sent_after : Outcome → List ℕ → List ℕ
sent_after (sealed row counter message) sent = set sent row counter
sent_after (unsealed r) sent = sent

abbrev pub outcome_number : Outcome → ℕ
outcome_number o = result_number (sealing_of o)
