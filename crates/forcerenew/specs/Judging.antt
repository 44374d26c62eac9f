-- What a judgement answers and what it stores (docs/RULES.md, 'FORCERENEW by nonce'; RFC 6704, section 3.1): 1, then 2 to 7, 10, 19, 20, 21, 11, 12,
-- the first in this order that applies; else what is done to the named row. Nothing else changes, and a refusal changes nothing.
use Rattle.std.specs.Prelude.{ℕ, ◌*◌, Bool, true, false, cond, ◌&&◌, List, set, Err, None, Ok, Option, Result, Some}
use Rattle.refusal.specs.declared.Refusal.{Refusal}
use Rattle.refusal.specs.declared.Refusal.TheVariants.{UnsoundBook, UnknownSecret, Replay, WrongMac, NoNonce}
use Rattle.octets.specs.Bytes.{written, same_bytes}
use Rattle.hmac_md5.specs.Hmac.{hmac}
use Rattle.dhcp_message.specs.Replay.{is_new}
use Rattle.forcerenew.specs.Layout.{value_size, gives_nonce, orders_renewal}
use Rattle.forcerenew.specs.Rows.{not_heard, heard, Servers, sound_rows, Server, server_at, has_nonce, has_heard}
use Rattle.forcerenew.specs.Shown.{Shown, unread, unfit, gives, orders, shown_of}
use Rattle.forcerenew.specs.declared.Heeded.{Heeded}

-- all that a judgement does
pub data Judgement : Type 0 where
  -- a nonce that is new to the row is stored, its counter is 0 and it is not heard
  takes : (counter : ℕ) (nonce : List ℕ) → Judgement
  -- the nonce that the row has already: nothing changes
  knows : (counter : ℕ) → Judgement
  -- the order is believed: its counter is stored and the row is heard
  renews : (counter : ℕ) → Judgement
  refused : Refusal → Judgement

-- a nonce, by whether the row has it
abbrev pub given : (counter : ℕ) (nonce : List ℕ) (known : Bool) → Judgement
given counter nonce true = knows counter
given counter nonce false = takes counter nonce

-- an order, by whether the row has a nonce, whether the counter is new to it, and whether the MAC is right: 21, 11, 12
abbrev pub ordered : (counter : ℕ) (there new right : Bool) → Judgement
ordered counter false new right = refused NoNonce
ordered counter true false right = refused Replay
ordered counter true true false = refused WrongMac
ordered counter true true true = renews counter

-- whether a nonce is the row's
abbrev pub known_to : Server → List ℕ → Bool
known_to w nonce = has_nonce w && same_bytes nonce w.nonce

-- whether a counter is new to a row
abbrev pub new_to : Server → ℕ → Bool
new_to w counter = is_new (has_heard w) w.counter counter

-- by the row
abbrev pub judged_row : Server → Shown → Judgement
judged_row w (unread r) = refused r
judged_row w (unfit r) = refused r
judged_row w (gives counter nonce) = given counter nonce (known_to w nonce)
judged_row w (orders counter mac image) = ordered counter (has_nonce w) (new_to w counter) (same_bytes mac (hmac w.nonce image))

-- 2 to 7, then 10, and then by the row
abbrev pub judged_shown : Option Server → Shown → Judgement
judged_shown o (unread r) = refused r
judged_shown None (unfit r) = refused UnknownSecret
judged_shown None (gives counter nonce) = refused UnknownSecret
judged_shown None (orders counter mac image) = refused UnknownSecret
judged_shown (Some w) (unfit r) = judged_row w (unfit r)
judged_shown (Some w) (gives counter nonce) = judged_row w (gives counter nonce)
judged_shown (Some w) (orders counter mac image) = judged_row w (orders counter mac image)

unfoldable pub judge_of : Servers → ℕ → List ℕ → Judgement
judge_of s k m = cond (sound_rows s) (judged_shown (server_at s k) (shown_of m)) (refused UnsoundBook)

-- ---- what is returned

-- accepted, with option 90's type and the message's counter
abbrev pub heeding : (kind counter : ℕ) → Result Heeded Refusal
heeding kind counter = Ok (record { kind = kind; counter = counter })

abbrev pub judged_of : Judgement → Result Heeded Refusal
judged_of (takes counter nonce) = heeding gives_nonce counter
judged_of (knows counter) = heeding gives_nonce counter
judged_of (renews counter) = heeding orders_renewal counter
judged_of (refused r) = Err r

-- ---- what is stored in row k

abbrev pub nonces_after : ℕ → Judgement → List ℕ → List ℕ
nonces_after k (takes counter nonce) nonces = written (value_size * k) nonce nonces
nonces_after k (knows counter) nonces = nonces
nonces_after k (renews counter) nonces = nonces
nonces_after k (refused r) nonces = nonces

abbrev pub counters_after : ℕ → Judgement → List ℕ → List ℕ
counters_after k (takes counter nonce) counters = set counters k 0
counters_after k (knows counter) counters = counters
counters_after k (renews counter) counters = set counters k counter
counters_after k (refused r) counters = counters

abbrev pub row_marks_after : ℕ → Judgement → List ℕ → List ℕ
row_marks_after k (takes counter nonce) marks = set marks k not_heard
row_marks_after k (knows counter) marks = marks
row_marks_after k (renews counter) marks = set marks k heard
row_marks_after k (refused r) marks = marks

abbrev pub servers_after : ℕ → Judgement → Servers → Servers
servers_after k j s = record {
  nonces = nonces_after k j s.nonces;
  counters = counters_after k j s.counters;
  marks = row_marks_after k j s.marks;
}
