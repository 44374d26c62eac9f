-- Judgements worked out: an ACK and a FORCERENEW whose header bytes all differ, with what they show, what a judgement answers and what it leaves, written
-- as bytes, so that every offset, size, type and mark shows. The MAC is that of an outside implementation of HMAC-MD5. Then a case for each number, and
-- where two numbers apply, the one that comes first in the order. The one proof is proofs/Computed.antt.
use Rattle.std.specs.Prelude.{ℕ, ◌≡◌, true, List, [], ◌∷◌, ◌++◌}
use Rattle.refusal.specs.Number.{result_number}
use Rattle.octets.specs.Bytes.{zeros, up_from}
use Rattle.dhcp_message.specs.Said.{form_of, form_number}
use Rattle.dhcp_message.specs.Bench.{distinct_of, some_mac}
use Rattle.forcerenew.specs.Rows.{Servers, servers_of, sound_rows}
use Rattle.forcerenew.specs.Shown.{gives, orders, shown_of}
use Rattle.forcerenew.specs.Judging.{takes, knows, renews, judge_of, judged_of, servers_after}
use Rattle.forcerenew.specs.Judging.{heeding}

-- an option 90 by its type and value, its counter 201 to 208
abbrev pub nonce_auth : ℕ → List ℕ → List ℕ
nonce_auth type value = 90 ∷ 28 ∷ 3 ∷ 1 ∷ 0 ∷ (up_from 201 8 ++ (type ∷ value))

abbrev pub shown_counter : ℕ
shown_counter = 0xc9ca_cbcc_cdce_cfd0

abbrev pub ended : List ℕ
ended = 255 ∷ []

-- an ACK that gives the nonce 101 to 116
abbrev pub ack : List ℕ
ack = distinct_of (53 ∷ 1 ∷ 5 ∷ (nonce_auth 1 (up_from 101 16) ++ ended))

-- a FORCERENEW, with an option 82 before its option 90
abbrev pub order_with : List ℕ → List ℕ
order_with mac = distinct_of (82 ∷ 2 ∷ 90 ∷ 9 ∷ (nonce_auth 2 mac ++ (53 ∷ 1 ∷ 9 ∷ ended)))

-- under the nonce 17 to 32
abbrev pub right_mac : List ℕ
right_mac = 138 ∷ 180 ∷ 60 ∷ 37 ∷ 105 ∷ 54 ∷ 115 ∷ 54 ∷ 178 ∷ 245 ∷ 107 ∷ 135 ∷ 109 ∷ 49 ∷ 90 ∷ 175 ∷ []

-- two rows with the nonces 1 to 16 and 17 to 32, the counters 7 and 9, and these marks
abbrev pub rows_with : ℕ → ℕ → Servers
rows_with first second = servers_of (up_from 1 32) (7 ∷ 9 ∷ []) (first ∷ second ∷ [])

-- the second row's counter is the FORCERENEW's
abbrev pub heard_it : Servers
heard_it = servers_of (up_from 1 32) (7 ∷ shown_counter ∷ []) (0 ∷ 2 ∷ [])

abbrev pub number_for : Servers → ℕ → List ℕ → ℕ
number_for s k m = result_number (judged_of (judge_of s k m))

pub record NonceExamples : Type 0 where
  -- what the two show; nothing but the MAC is zero in what it covers
  pub ack_shows : shown_of ack ≡ gives shown_counter (up_from 101 16)
  pub order_shows : shown_of (order_with right_mac) ≡ orders shown_counter right_mac (order_with (zeros 16))
  -- a row with none yet takes the nonce, and so does a heard one with another; what is stored
  pub first_nonce : judge_of (rows_with 0 2) 0 ack ≡ takes shown_counter (up_from 101 16)
  pub first_stored : servers_after 0 (judge_of (rows_with 0 2) 0 ack) (rows_with 0 2) ≡ servers_of (up_from 101 16 ++ up_from 17 16) (0 ∷ 9 ∷ []) (1 ∷ 2 ∷ [])
  pub other_stored : servers_after 1 (judge_of (rows_with 0 2) 1 ack) (rows_with 0 2) ≡ servers_of (up_from 1 16 ++ up_from 101 16) (7 ∷ 0 ∷ []) (0 ∷ 1 ∷ [])
  -- the nonce that the row has changes nothing, whether the row is heard or not
  pub same_nonce : judge_of (servers_of (up_from 101 16) (7 ∷ []) (2 ∷ [])) 0 ack ≡ knows shown_counter
  pub same_unheard : judge_of (servers_of (up_from 101 16) (7 ∷ []) (1 ∷ [])) 0 ack ≡ knows shown_counter
  -- but a row with none yet takes it, though these bytes stand there
  pub same_bytes_first : judge_of (servers_of (up_from 101 16) (7 ∷ []) (0 ∷ [])) 0 ack ≡ takes shown_counter (up_from 101 16)
  pub ack_answer : judged_of (judge_of (rows_with 0 2) 0 ack) ≡ heeding 1 shown_counter
  -- an order is believed on a row not heard and on a heard one with a lower counter; what is stored
  pub order_believed : judge_of (rows_with 0 2) 1 (order_with right_mac) ≡ renews shown_counter
  pub order_first : judge_of (servers_of (up_from 1 32) (7 ∷ shown_counter ∷ []) (0 ∷ 1 ∷ [])) 1 (order_with right_mac) ≡ renews shown_counter
  pub order_stored : servers_after 1 (judge_of (rows_with 0 1) 1 (order_with right_mac)) (rows_with 0 1) ≡ heard_it
  pub order_answer : judged_of (judge_of (rows_with 0 2) 1 (order_with right_mac)) ≡ heeding 2 shown_counter
  -- a case for each number
  pub number_1_nonces : number_for (servers_of (up_from 1 31) (7 ∷ 9 ∷ []) (0 ∷ 2 ∷ [])) 0 ack ≡ 1
  pub number_1_counters : number_for (servers_of (up_from 1 32) (7 ∷ []) (0 ∷ 2 ∷ [])) 0 ack ≡ 1
  pub number_1_marks : number_for (rows_with 0 3) 0 ack ≡ 1
  pub number_2 : number_for (rows_with 0 2) 0 (distinct_of []) ≡ 2
  pub number_3 : number_for (rows_with 0 2) 0 (up_from 1 241) ≡ 3
  pub number_4 : number_for (rows_with 0 2) 0 (distinct_of (nonce_auth 1 (up_from 101 16))) ≡ 4
  pub number_5 : number_for (rows_with 0 2) 0 (distinct_of (53 ∷ 1 ∷ 5 ∷ ended)) ≡ 5
  pub number_6 : number_for (rows_with 0 2) 0 (distinct_of (90 ∷ 0 ∷ (nonce_auth 1 (up_from 101 16) ++ ended))) ≡ 6
  -- and before 10
  pub number_7 : number_for (rows_with 0 2) 2 (distinct_of (82 ∷ 0 ∷ 82 ∷ 0 ∷ (nonce_auth 1 (up_from 101 16) ++ ended))) ≡ 7
  -- before 19
  pub number_10 : number_for (rows_with 0 2) 2 (distinct_of (90 ∷ 0 ∷ ended)) ≡ 10
  pub number_19_length : number_for (rows_with 0 2) 0 (distinct_of (53 ∷ 1 ∷ 5 ∷ 90 ∷ 29 ∷ 3 ∷ 1 ∷ 0 ∷ (up_from 201 8 ++ (1 ∷ (up_from 101 17 ++ ended))))) ≡ 19
  pub number_19_protocol : number_for (rows_with 0 2) 0 (distinct_of (53 ∷ 1 ∷ 5 ∷ 90 ∷ 28 ∷ 1 ∷ 1 ∷ 0 ∷
      (up_from 201 8 ++ (1 ∷ (up_from 101 16 ++ ended))))) ≡ 19
  pub number_19_algorithm : number_for (rows_with 0 2) 0 (distinct_of (53 ∷ 1 ∷ 5 ∷ 90 ∷ 28 ∷ 3 ∷ 2 ∷ 0 ∷
      (up_from 201 8 ++ (1 ∷ (up_from 101 16 ++ ended))))) ≡ 19
  pub number_19_method : number_for (rows_with 0 2) 0 (distinct_of (53 ∷ 1 ∷ 5 ∷ 90 ∷ 28 ∷ 3 ∷ 1 ∷ 1 ∷ (up_from 201 8 ++ (1 ∷ (up_from 101 16 ++ ended))))) ≡ 19
  pub number_20_nonce : number_for (rows_with 0 2) 0 (distinct_of (53 ∷ 1 ∷ 9 ∷ (nonce_auth 1 (up_from 101 16) ++ ended))) ≡ 20
  pub number_20_order : number_for (rows_with 0 2) 1 (distinct_of (53 ∷ 1 ∷ 5 ∷ (nonce_auth 2 some_mac ++ ended))) ≡ 20
  pub number_20_type_0 : number_for (rows_with 0 2) 0 (distinct_of (53 ∷ 1 ∷ 5 ∷ (nonce_auth 0 (up_from 101 16) ++ ended))) ≡ 20
  pub number_20_type_3 : number_for (rows_with 0 2) 0 (distinct_of (53 ∷ 1 ∷ 9 ∷ (nonce_auth 3 (up_from 101 16) ++ ended))) ≡ 20
  pub number_20_twice : number_for (rows_with 0 2) 0 (distinct_of (53 ∷ 1 ∷ 5 ∷ 53 ∷ 1 ∷ 5 ∷ (nonce_auth 1 (up_from 101 16) ++ ended))) ≡ 20
  pub number_20_longer : number_for (rows_with 0 2) 0 (distinct_of (53 ∷ 2 ∷ 5 ∷ 5 ∷ (nonce_auth 1 (up_from 101 16) ++ ended))) ≡ 20
  pub number_20_none : number_for (rows_with 0 2) 0 (distinct_of (nonce_auth 1 (up_from 101 16) ++ ended)) ≡ 20
  -- before 12
  pub number_21 : number_for (rows_with 0 2) 0 (order_with some_mac) ≡ 21
  -- with the stored counter itself, and before 12
  pub number_11 : number_for heard_it 1 (order_with some_mac) ≡ 11
  pub number_12 : number_for (rows_with 0 2) 1 (order_with some_mac) ≡ 12
  -- no row at all is sound
  pub no_rows : sound_rows (servers_of [] [] []) ≡ true
  -- to an ordinary check both have another authentication
  pub ordinary_ack : form_number (form_of ack) ≡ 8
  pub ordinary_order : form_number (form_of (order_with right_mac)) ≡ 8
