-- What a check answers (docs/RULES.md, 'Check'; RFC 3118, section 5.3): numbers 1 to 12 in their order, else the row and the counter; and
-- what it stores. Nothing but the named row's mark and received counter changes, and these only where the message is accepted.
use Rattle.std.specs.Prelude.{ℕ, Bool, true, false, List, get_or, set, Err, None, Ok, Option, Result, Some}
use Rattle.refusal.specs.declared.Refusal.TheVariants.{UnknownSecret, Replay, WrongMac}
use Rattle.octets.specs.Bytes.{same_bytes}
use Rattle.hmac_md5.specs.Hmac.{hmac}
use Rattle.dhcp_message.specs.Said.{Said, refused, says}
use Rattle.dhcp_message.specs.Image.{image_of}
use Rattle.dhcp_message.specs.Replay.{is_new}
use Rattle.key_book.specs.Limits.{heard}
use Rattle.key_book.specs.Book.{Book, heard_at, row_of, key_of}
use Rattle.delayed_auth.specs.Admit.{admitted_said}
use Rattle.delayed_auth.specs.declared.Accepted.{Accepted}
use Rattle.refusal.specs.declared.Refusal.{Refusal}

-- whether a counter is new to row k: the row is not heard, or its received counter is below
abbrev pub new_to : Book → ℕ → ℕ → Bool
new_to b k counter = is_new (heard_at b k) (get_or b.received k 0) counter

-- accepted, with the row and the message's counter
abbrev pub accepting : (row counter : ℕ) → Result Accepted Refusal
accepting row counter = Ok (record { row = row; counter = counter })

-- 11 and 12, by whether the counter is new to the row and whether the MAC is right
abbrev pub judged_by : ℕ → ℕ → (new right : Bool) → Result Accepted Refusal
judged_by row counter false right = Err Replay
judged_by row counter true false = Err WrongMac
judged_by row counter true true = accepting row counter

-- 10, and then by the row
unfoldable pub judged_row : Book → List ℕ → (counter : ℕ) (mac : List ℕ) → Option ℕ → Result Accepted Refusal
judged_row b m counter mac None = Err UnknownSecret
judged_row b m counter mac (Some k) = judged_by k counter (new_to b k counter) (same_bytes mac (hmac (key_of b k) (image_of m)))

-- 1 to 9, and then by what the message says
unfoldable pub judged_said : Book → List ℕ → Said → Result Accepted Refusal
judged_said b m (refused r) = Err r
judged_said b m (says counter id mac) = judged_row b m counter mac (row_of b id)

unfoldable pub check_of : Book → List ℕ → Result Accepted Refusal
check_of b m = judged_said b m (admitted_said b m)

-- the marks after an answer
abbrev pub marks_after : Result Accepted Refusal → List ℕ → List ℕ
marks_after (Ok a) marks = set marks a.row heard
marks_after (Err r) marks = marks

-- the received counters after an answer
abbrev pub received_after : Result Accepted Refusal → List ℕ → List ℕ
received_after (Ok a) received = set received a.row a.counter
received_after (Err r) received = received
