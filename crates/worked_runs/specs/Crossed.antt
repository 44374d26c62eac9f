-- A second run of demand 3, worked out beside Shuffled, with what the rules let the network do and that one has not: seals under different
-- secrets have changed places, so have two checks that name no secret, a seal among them is refused, option 82 moved from behind option 90 to
-- before it in one message and was replaced before option 90 in another, and a check was put in before the first step and behind the last. A message
-- with option 82 before option 90 is sealed. The header's bytes are all different, and so are those of ids and large counters. The MACs are those of
-- an outside implementation of HMAC-MD5. Its one proof is proofs/Crossed.antt.
use Rattle.std.specs.Prelude.{ℕ, zero, suc, ◌≡◌, List, [], ◌∷◌, ◌++◌, Err, Ok}
use Rattle.refusal.specs.declared.Refusal.TheVariants.{MessageSize, NoAuthentication, UnknownSecret}
use Rattle.dhcp_message.specs.Layout.{magic_cookie}
use Rattle.dhcp_message.specs.Image.{head_with}
use Rattle.dhcp_message.specs.Bench.{some_mac}
use Rattle.octets.specs.Bytes.{zeros, up_from}
use Rattle.key_book.specs.Book.{Book, Sound, book_of}
use Rattle.demands.specs.Demand3.{Step, check, seal, checked, wrote, answers, ending, Rearranged, SameRun}
use Rattle.demands.specs.History.{accepted_in, seals_in, Concerns, OnlyOthersDiffer, SameFor}
use Rattle.worked_runs.specs.Calls.{alone}
use Rattle.delayed_auth.specs.Check.{accepting}

-- the two secrets, and their counters: bytes 1 to 4 and 5 to 8, received 1 to 8, sent 17 to 22, 23 and 255
abbrev pub id_a : ℕ
id_a = 16909060

abbrev pub id_b : ℕ
id_b = 84281096

abbrev pub counter_a : ℕ
counter_a = 72623859790382856

abbrev pub sent_b : ℕ
sent_b = 1230066625199609855

-- key 1, 2, 3, 4 and key 5, 6, 7, 8
abbrev pub book : Book
book = book_of (id_a ∷ id_b ∷ []) (4 ∷ 4 ∷ []) (1 ∷ 2 ∷ 3 ∷ 4 ∷ (zeros 60 ++ (5 ∷ 6 ∷ 7 ∷ 8 ∷ zeros 60))) (1 ∷ 1 ∷ []) (10 ∷ 10 ∷ []) (3 ∷ sent_b ∷ []) 2

-- the same but for secret B: another key, of another length, not heard, and other counters
abbrev pub changed_b : Book
changed_b = book_of (id_a ∷ id_b ∷ []) (4 ∷ 2 ∷ []) (1 ∷ 2 ∷ 3 ∷ 4 ∷ (zeros 60 ++ (9 ∷ 9 ∷ zeros 62))) (1 ∷ 0 ∷ []) (10 ∷ 0 ∷ []) (3 ∷ 0 ∷ []) 2

-- ---- messages

abbrev pub header : List ℕ
header = up_from 1 236 ++ magic_cookie

-- option 90 with these 8 bytes of the counter, 4 of the id and 16 of the MAC
abbrev pub auth : List ℕ → List ℕ → List ℕ → List ℕ
auth counter id mac = 90 ∷ 31 ∷ 1 ∷ 1 ∷ 0 ∷ (counter ++ (id ++ mac))

abbrev pub bytes_a : List ℕ
bytes_a = 1 ∷ 2 ∷ 3 ∷ 4 ∷ []

abbrev pub bytes_b : List ℕ
bytes_b = 5 ∷ 6 ∷ 7 ∷ 8 ∷ []

abbrev pub auth_a : List ℕ
auth_a = auth (1 ∷ 2 ∷ 3 ∷ 4 ∷ 5 ∷ 6 ∷ 7 ∷ 8 ∷ []) bytes_a
    (239 ∷ 81 ∷ 226 ∷ 183 ∷ 2 ∷ 216 ∷ 232 ∷ 232 ∷ 32 ∷ 224 ∷ 19 ∷ 73 ∷ 180 ∷ 246 ∷ 51 ∷ 183 ∷ [])

abbrev pub auth_b : List ℕ
auth_b = auth (zeros 7 ++ (20 ∷ [])) bytes_b
    (42 ∷ 1 ∷ 100 ∷ 27 ∷ 70 ∷ 84 ∷ 173 ∷ 141 ∷ 39 ∷ 110 ∷ 225 ∷ 96 ∷ 10 ∷ 30 ∷ 27 ∷ 48 ∷ [])

-- option 82, and another body for it
abbrev pub relay_info : List ℕ
relay_info = 82 ∷ 3 ∷ 1 ∷ 1 ∷ 9 ∷ []

abbrev pub other_info : List ℕ
other_info = 82 ∷ 4 ∷ 1 ∷ 2 ∷ 8 ∷ 9 ∷ []

abbrev pub plain : List ℕ → List ℕ
plain options = header ++ (options ++ (255 ∷ []))

-- hops and the last byte of giaddr, as a relay leaves them
abbrev pub behind : ℕ → ℕ → List ℕ → List ℕ
behind hops giaddr options = head_with (hops ∷ []) (10 ∷ 0 ∷ 0 ∷ giaddr ∷ []) header ++ (options ++ (255 ∷ []))

-- messages that name no secret: too short, and without option 90
abbrev pub short : List ℕ
short = zeros 240

abbrev pub unnamed : List ℕ
unnamed = plain (53 ∷ 1 ∷ 5 ∷ [])

-- what is sealed, and what the seals leave
abbrev pub to_seal : List ℕ
to_seal = plain (auth (zeros 8) (zeros 4) some_mac)

abbrev pub relayed_to_seal : List ℕ
relayed_to_seal = plain (relay_info ++ auth (zeros 8) (zeros 4) some_mac)

abbrev pub sealed_a : List ℕ
sealed_a = plain (auth (zeros 7 ++ (4 ∷ [])) bytes_a (22 ∷ 14 ∷ 34 ∷ 138 ∷ 92 ∷ 1 ∷ 211 ∷ 117 ∷ 181 ∷ 252 ∷ 48 ∷ 44 ∷ 38 ∷ 255 ∷ 238 ∷ 50 ∷ []))

abbrev pub sealed_b : List ℕ
sealed_b = plain (relay_info ++ auth (17 ∷ 18 ∷ 19 ∷ 20 ∷ 21 ∷ 22 ∷ 24 ∷ 0 ∷ []) bytes_b
    (139 ∷ 133 ∷ 198 ∷ 134 ∷ 78 ∷ 121 ∷ 191 ∷ 205 ∷ 199 ∷ 95 ∷ 151 ∷ 130 ∷ 84 ∷ 215 ∷ 158 ∷ 164 ∷ []))

-- what is put in: a counter above the stored one with a wrong MAC, and an old counter
abbrev pub forged : List ℕ
forged = plain (auth (zeros 7 ++ (11 ∷ [])) bytes_a some_mac)

abbrev pub stale : List ℕ
stale = plain (auth (zeros 7 ++ (10 ∷ [])) bytes_a some_mac)

-- ---- the two runs

abbrev pub first : List Step
first =
    seal id_a to_seal ∷ seal id_b relayed_to_seal ∷ seal 9 to_seal ∷ check short ∷ check unnamed
    ∷ check (plain (auth_a ++ relay_info)) ∷ check (plain (relay_info ++ auth_b)) ∷ []

abbrev pub second : List Step
second =
    check forged ∷ check unnamed ∷ check short ∷ seal id_b relayed_to_seal ∷ check (behind 2 2 (other_info ++ auth_b)) ∷ seal 9 to_seal
    ∷ check (behind 1 1 (relay_info ++ auth_a)) ∷ seal id_a to_seal ∷ check stale ∷ []

abbrev pub place : ℕ → ℕ
place zero = 7
place (suc zero) = 3
place (suc (suc zero)) = 5
place (suc (suc (suc zero))) = 2
place (suc (suc (suc (suc zero)))) = 1
place (suc (suc (suc (suc (suc zero))))) = 6
place (suc (suc (suc (suc (suc (suc i)))))) = 4

pub record Crossed : Type 0 where
  pub is_sound : Sound book
  -- in the first run two seals are done and one is refused, its buffer as it was; two checks name no secret; two are accepted
  pub first_answers : answers (alone book) first
      ≡ wrote (Ok 4) sealed_a ∷ wrote (Ok 1230066625199609856) sealed_b ∷ wrote (Err UnknownSecret) to_seal
      ∷ checked (Err MessageSize) ∷ checked (Err NoAuthentication) ∷ checked (accepting 0 counter_a) ∷ checked (accepting 1 20) ∷ []
  pub first_marks : (ending (alone book) first).book.marks ≡ 1 ∷ 1 ∷ []
  pub first_received : (ending (alone book) first).book.received ≡ counter_a ∷ 20 ∷ []
  pub first_sent : (ending (alone book) first).book.sent ≡ 4 ∷ 1230066625199609856 ∷ []
  -- what `History` counts in it, for a secret that is in the book and for one that is not
  pub accepted_a : accepted_in id_a (alone book) first ≡ counter_a ∷ []
  pub seals_a : seals_in id_a (alone book) first ≡ 1
  pub seals_none : seals_in 9 (alone book) first ≡ 0
  -- and what it says of a book that differs in secret B: secret A has a check and a seal in the run, and gets the same
  pub changed_sound : Sound changed_b
  pub others_differ : OnlyOthersDiffer id_a book changed_b
  pub check_of_a : Concerns id_a (check (plain (auth_a ++ relay_info)))
  pub seal_of_a : Concerns id_a (seal id_a to_seal)
  pub unseen : SameFor id_a (alone book) (alone changed_b) first
  -- the network can make the second run of it, so demand 3 says that its answers and its end are the same
  pub made : Rearranged (alone book) first second place
  pub same_run : SameRun (alone book) first second place
