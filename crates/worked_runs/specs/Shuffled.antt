-- A second run of demand 3, worked out: neither `Rearranged` nor acceptance is empty. Two secrets, of which one is heard and the other is not: its first
-- counter is 0. In the second run their checks have changed places and gone past the seal, both messages were relayed, one twice and with option 82 put
-- before option 90, and a forged check was put in. Both messages are shown again, and the one of counter 0 relayed in the second run.
-- And two servers, of which one has given no nonce yet and the other is heard. In the second run the ACK of the first, its FORCERENEW, and both shown
-- again have gone past checks and the seal in their order, the ACK shown for the other row has gone past them, and the FORCERENEW was put in before the
-- ACK and for the other row.
-- The MACs are those of an outside implementation of HMAC-MD5. Its one proof is proofs/Shuffled.antt.
use Rattle.std.specs.Prelude.{ℕ, ◌≡◌, List, [], ◌∷◌, ◌++◌, get_or, Err, Ok}
use Rattle.refusal.specs.declared.Refusal.TheVariants.{Replay, WrongMac, NoNonce}
use Rattle.dhcp_message.specs.Layout.{cookie_at, magic_cookie}
use Rattle.octets.specs.Bytes.{zeros, up_from}
use Rattle.dhcp_message.specs.Image.{head_with}
use Rattle.dhcp_message.specs.Bench.{message_of, full_auth, some_mac}
use Rattle.key_book.specs.Book.{Book, Sound, book_of}
use Rattle.delayed_auth.specs.Check.{check_of}
use Rattle.forcerenew.specs.Rows.{Servers, servers_of}
use Rattle.forcerenew.specs.Judging.{judge_of, judged_of}
use Rattle.demands.specs.Demand3.{Step, check, seal, judge, State, checked, wrote, judged, book_after, rows_after, answers, ending, Rearranged, SameRun}
use Rattle.delayed_auth.specs.Check.{accepting}
use Rattle.forcerenew.specs.Judging.{heeding}

-- Book B (docs/RULES.md, 'Bench examples') with a second row: id 8, not heard, sent 3, key 5, 6, 7, 8
abbrev pub book : Book
book = book_of (7 ∷ 8 ∷ []) (4 ∷ 4 ∷ []) (1 ∷ 2 ∷ 3 ∷ 4 ∷ (zeros 60 ++ (5 ∷ 6 ∷ 7 ∷ 8 ∷ zeros 60))) (1 ∷ 0 ∷ []) (10 ∷ 0 ∷ []) (3 ∷ 3 ∷ []) 2

-- a row with no nonce yet, where stray bytes and a stray counter are no fault, and a heard row with the nonce 51 to 66 and counter 5
abbrev pub servers : Servers
servers = servers_of (up_from 101 16 ++ up_from 51 16) (200 ∷ 5 ∷ []) (0 ∷ 2 ∷ [])

abbrev pub start : State
start = record { book = book; servers = servers }

-- option 90 of a message from each secret
abbrev pub auth7 : List ℕ
auth7 = full_auth 1 11 7 (238 ∷ 152 ∷ 244 ∷ 219 ∷ 238 ∷ 91 ∷ 235 ∷ 63 ∷ 12 ∷ 64 ∷ 6 ∷ 168 ∷ 105 ∷ 48 ∷ 38 ∷ 105 ∷ [])

abbrev pub auth8 : List ℕ
auth8 = full_auth 1 0 8 (26 ∷ 58 ∷ 199 ∷ 109 ∷ 26 ∷ 175 ∷ 110 ∷ 94 ∷ 4 ∷ 140 ∷ 49 ∷ 17 ∷ 105 ∷ 205 ∷ 3 ∷ 216 ∷ [])

abbrev pub ended : List ℕ
ended = 255 ∷ []

-- an option 82
abbrev pub relay_info : List ℕ
relay_info = 82 ∷ 3 ∷ 1 ∷ 1 ∷ 9 ∷ []

-- the messages as they were sent, and behind relays: hops and the last byte of giaddr
abbrev pub sent_message : List ℕ → List ℕ
sent_message option = message_of (option ++ ended)

abbrev pub relayed_message : ℕ → ℕ → List ℕ → List ℕ
relayed_message hops giaddr options = head_with (hops ∷ []) (10 ∷ 0 ∷ 0 ∷ giaddr ∷ []) (zeros cookie_at ++ magic_cookie) ++ options

-- the message to seal holds another counter, id and MAC; they don't matter
abbrev pub to_seal : List ℕ
to_seal = sent_message (full_auth 1 9 9 some_mac)

abbrev pub sealed_bytes : List ℕ
sealed_bytes = sent_message (full_auth 1 4 7 (156 ∷ 171 ∷ 28 ∷ 72 ∷ 208 ∷ 240 ∷ 202 ∷ 215 ∷ 14 ∷ 61 ∷ 13 ∷ 167 ∷ 40 ∷ 200 ∷ 138 ∷ 159 ∷ []))

-- its secret is not heard, so that its counter is new; its MAC is not right
abbrev pub forged : List ℕ
forged = sent_message (full_auth 1 0 8 some_mac)

-- ---- the messages of a server

-- an option 90 by a nonce (RFC 6704, section 3.1.2), by the last byte of its counter, its type and its value
abbrev pub nonce_auth : ℕ → ℕ → List ℕ → List ℕ
nonce_auth counter type value = 90 ∷ 28 ∷ 3 ∷ 1 ∷ 0 ∷ 0 ∷ 0 ∷ 0 ∷ 0 ∷ 0 ∷ 0 ∷ 0 ∷ counter ∷ type ∷ value

abbrev pub nonce : List ℕ
nonce = up_from 33 16

-- an ACK that gives this nonce
abbrev pub ack : List ℕ
ack = sent_message (53 ∷ 1 ∷ 5 ∷ nonce_auth 9 1 nonce)

-- a FORCERENEW under it. Its hops and giaddr are not zero, and an option 82 stands before its option 90: its MAC covers them as they stand. Its counter is
-- below the ACK's, which is not stored.
abbrev pub renewal : List ℕ
renewal = relayed_message 1 1 (53 ∷ 1 ∷ 9 ∷ (relay_info ++ (nonce_auth 6 2
    (54 ∷ 155 ∷ 81 ∷ 47 ∷ 40 ∷ 52 ∷ 86 ∷ 146 ∷ 163 ∷ 131 ∷ 83 ∷ 169 ∷ 165 ∷ 219 ∷ 129 ∷ 199 ∷ []) ++ ended)))

-- ---- the two runs

abbrev pub first : List Step
first =
    check (sent_message auth7) ∷ judge 0 ack ∷ check (sent_message auth8) ∷ judge 0 renewal ∷ seal 7 to_seal
    ∷ check (sent_message auth7) ∷ judge 0 renewal ∷ judge 0 ack ∷ judge 1 ack ∷ check (sent_message auth8) ∷ []

abbrev pub second : List Step
second =
    judge 0 renewal ∷ judge 0 ack ∷ judge 1 renewal ∷ seal 7 to_seal ∷ check forged ∷ judge 0 renewal
    ∷ check (relayed_message 2 2 (relay_info ++ (auth8 ++ ended))) ∷ judge 1 ack ∷ check (relayed_message 1 1 (auth7 ++ ended))
    ∷ check (sent_message auth7) ∷ judge 0 renewal ∷ check (relayed_message 3 3 (auth8 ++ ended)) ∷ judge 0 ack ∷ []

-- a place for each step of the first run
abbrev pub place : ℕ → ℕ
place i = get_or (8 ∷ 1 ∷ 6 ∷ 5 ∷ 3 ∷ 9 ∷ 10 ∷ 12 ∷ 7 ∷ 11 ∷ []) i 0

pub record Shuffled : Type 0 where
  pub is_sound : Sound book
  -- in the first run both checks are accepted, one with counter 0, the seal writes counter 4 under id 7, and the messages checked again are replays;
  -- the ACK and the FORCERENEW are accepted, the FORCERENEW shown again is a replay, and the ACK is accepted again and for the other row
  pub first_answers : answers start first
      ≡ checked (accepting 0 11) ∷ judged (heeding 1 9) ∷ checked (accepting 1 0) ∷ judged (heeding 2 6) ∷ wrote (Ok 4) sealed_bytes
      ∷ checked (Err Replay) ∷ judged (Err Replay) ∷ judged (heeding 1 9) ∷ judged (heeding 1 9) ∷ checked (Err Replay) ∷ []
  pub first_marks : (ending start first).book.marks ≡ 1 ∷ 1 ∷ []
  pub first_received : (ending start first).book.received ≡ 11 ∷ 0 ∷ []
  pub first_sent : (ending start first).book.sent ≡ 4 ∷ 3 ∷ []
  -- both rows have the nonce; the ACK shown again left the first heard with the FORCERENEW's counter, and the other, to which the nonce was new, begins anew
  pub first_servers : (ending start first).servers ≡ servers_of (nonce ++ nonce) (6 ∷ 0 ∷ []) (2 ∷ 1 ∷ [])
  -- the check put in is not refused as a replay where its row is not heard: the MAC decides
  pub forged_there : check_of (book_after book (seal 7 to_seal)) forged ≡ Err WrongMac
  -- the FORCERENEW is not believed where it was put in: before the ACK there is no nonce; to the other row its counter is new, and the MAC decides
  pub renewal_early : judged_of (judge_of servers 0 renewal) ≡ Err NoNonce
  pub renewal_elsewhere : judged_of (judge_of (rows_after servers (judge 0 ack)) 1 renewal) ≡ Err WrongMac
  -- the network can make the second run of it
  pub made : Rearranged start first second place
  -- so demand 3 says that its answers and its end are the same
  pub same_run : SameRun start first second place
