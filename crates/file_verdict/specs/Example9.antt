-- Bench example 9 (docs/RULES.md, 'Bench examples') over the definitions: the two files as bytes, and the line. The MACs are those of an outside
-- implementation of HMAC-MD5.
-- Book B has one row: id 7, heard, received 10, sent 3, key 1, 2, 3, 4. Its old card and its new one give the same line. Then a row like
-- it with received 0, not heard and heard.
use Rattle.std.specs.Prelude.{ℕ, ◌≡◌, List, [], ◌∷◌, ◌++◌, replicate, None, Option, Some}
use Rattle.refusal.specs.declared.Refusal.TheVariants.{Replay, WrongMac, MalformedCard}
use Rattle.dhcp_message.specs.Bench.{message_of, full_auth}
use Rattle.card_laws.specs.Examples.{card_b, new_card_b, marked_card}
use Rattle.verdict_line.specs.declared.Line.TheVariants.{Accepted, Refused, Unreadable}
use Rattle.file_verdict.specs.Files.{readable, line_for}

-- a message of id 7, by its counter and its MAC
abbrev pub message_by : ℕ → List ℕ → List ℕ
message_by counter mac = message_of (full_auth 1 counter 7 mac ++ (255 ∷ []))

-- the MAC is that of counter 11 but for its last byte, which is 105 there
abbrev pub message_with : ℕ → ℕ → List ℕ
message_with counter last = message_by counter (238 ∷ 152 ∷ 244 ∷ 219 ∷ 238 ∷ 91 ∷ 235 ∷ 63 ∷ 12 ∷ 64 ∷ 6 ∷ 168 ∷ 105 ∷ 48 ∷ 38 ∷ last ∷ [])

-- counter 0 with the MAC that is right for it
abbrev pub message_zero : List ℕ
message_zero = message_by 0 (53 ∷ 34 ∷ 10 ∷ 121 ∷ 221 ∷ 66 ∷ 47 ∷ 99 ∷ 180 ∷ 250 ∷ 76 ∷ 6 ∷ 118 ∷ 196 ∷ 74 ∷ 234 ∷ [])

pub record Example9 : Type 0 where
  pub put_right : line_for (Some card_b) (Some (message_with 11 105)) ≡ Accepted 0 11
  pub mac_bit_off : line_for (Some card_b) (Some (message_with 11 104)) ≡ Refused WrongMac
  pub old_counter : line_for (Some card_b) (Some (message_with 10 105)) ≡ Refused Replay
  pub no_message : line_for (Some card_b) None ≡ Unreadable
  pub no_card : line_for None (Some (message_with 11 105)) ≡ Unreadable
  pub bad_card : (x : ℕ) (message : Option (List ℕ)) → line_for (Some (card_b ++ (x ∷ []))) message ≡ Refused MalformedCard
  -- the new card: the same line, whatever stands in the message's place
  pub new_card : (message : Option (List ℕ)) → line_for (Some new_card_b) message ≡ line_for (Some card_b) message
  -- a row that is not heard takes counter 0, and one that is heard doesn't
  pub not_heard_lem : line_for (Some (marked_card 0 0)) (Some message_zero) ≡ Accepted 0 0
  pub heard : line_for (Some (marked_card 1 0)) (Some message_zero) ≡ Refused Replay
  -- a row that is not heard has no received counter but 0
  pub bad_mark : (message : Option (List ℕ)) → line_for (Some (marked_card 0 1)) message ≡ Refused MalformedCard
  -- the limit from both sides
  pub largest : (x : ℕ) → readable (Some (replicate 65535 x)) ≡ Some (replicate 65535 x)
  pub too_large : (x : ℕ) → readable (Some (replicate 65536 x)) ≡ None
