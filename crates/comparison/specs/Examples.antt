-- Pairs of messages worked out, with their lines as ASCII and the numbers that `compare` gives: every name, offset, size, word and order shows, written as
-- numbers on purpose. The proof is proofs/Computed.antt.
use Rattle.std.specs.Prelude.{ℕ, ◌≡◌, List, [], ◌∷◌, ◌++◌, Err, Ok}
use Rattle.refusal.specs.Number.{result_number}
use Rattle.octets.specs.Bytes.{zeros, up_from}
use Rattle.refusal.specs.declared.Refusal.TheVariants.{MessageSize, RelayInformation, NoRoomForReport}
use Rattle.comparison.specs.Entry.{comparison_most, text_for, compare_of, room_compared}

-- a message by its first 236 bytes and its options
abbrev pub message_with : (header options : List ℕ) → List ℕ
message_with header options = header ++ (99 ∷ 130 ∷ 83 ∷ 99 ∷ options)

-- one with no header byte set
abbrev pub bare : List ℕ → List ℕ
bare options = message_with (zeros 236) options

-- an ACK of this header
abbrev pub headed : List ℕ → List ℕ
headed header = message_with header (53 ∷ 1 ∷ 5 ∷ 90 ∷ 0 ∷ 255 ∷ [])

-- with no header byte set, and the same through a relay: hops 1, giaddr 10.0.0.1, option 82
abbrev pub direct : List ℕ
direct = headed (zeros 236)

abbrev pub via_relay : List ℕ
via_relay = message_with (zeros 3 ++ (1 ∷ zeros 20) ++ (10 ∷ 0 ∷ 0 ∷ 1 ∷ zeros 208)) (53 ∷ 1 ∷ 5 ∷ 90 ∷ 0 ∷ 82 ∷ 2 ∷ 1 ∷ 2 ∷ 255 ∷ [])

-- one with two options 82, and one of 240 bytes, which is one too few
abbrev pub twice_relayed : List ℕ
twice_relayed = bare (90 ∷ 0 ∷ 82 ∷ 0 ∷ 82 ∷ 0 ∷ 255 ∷ [])

abbrev pub too_short : List ℕ
too_short = bare []

-- the first and the last byte of every second field, from op on, and from htype on
abbrev pub from_op : List ℕ
from_op =
    1 ∷ 0 ∷ 1 ∷ 0 ∷ 1 ∷ 0 ∷ 0 ∷ 1 ∷ 0 ∷ 0 ∷ 1 ∷ 1 ∷ 0 ∷ 0 ∷ 0 ∷ 0 ∷ 1 ∷ 0 ∷ 0 ∷ 1 ∷ 0 ∷ 0 ∷ 0 ∷ 0 ∷ 1 ∷ 0 ∷ 0 ∷ 1
    ∷ (zeros 16 ++ (1 ∷ zeros 62) ++ (1 ∷ zeros 128))

abbrev pub from_htype : List ℕ
from_htype =
    0 ∷ 1 ∷ 0 ∷ 1 ∷ 0 ∷ 0 ∷ 0 ∷ 0 ∷ 1 ∷ 1 ∷ 0 ∷ 0 ∷ 1 ∷ 0 ∷ 0 ∷ 1 ∷ 0 ∷ 0 ∷ 0 ∷ 0 ∷ 1 ∷ 0 ∷ 0 ∷ 1 ∷ 0 ∷ 0 ∷ 0 ∷ 0
    ∷ ((1 ∷ zeros 14) ++ (1 ∷ zeros 64) ++ (1 ∷ zeros 126) ++ (1 ∷ []))

pub record ComparisonExample : Type 0 where
  -- `hops`, `giaddr`, `added 82 1`, `layout`, `relay only`
  pub relay_lines : text_for direct via_relay
      ≡ 104 ∷ 111 ∷ 112 ∷ 115 ∷ 10
      ∷ 103 ∷ 105 ∷ 97 ∷ 100 ∷ 100 ∷ 114 ∷ 10
      ∷ 97 ∷ 100 ∷ 100 ∷ 101 ∷ 100 ∷ 32 ∷ 56 ∷ 50 ∷ 32 ∷ 49 ∷ 10
      ∷ 108 ∷ 97 ∷ 121 ∷ 111 ∷ 117 ∷ 116 ∷ 10
      ∷ 114 ∷ 101 ∷ 108 ∷ 97 ∷ 121 ∷ 32 ∷ 111 ∷ 110 ∷ 108 ∷ 121 ∷ 10 ∷ []
  -- 41 bytes, which fit a room of 41 and of no less; the byte behind them stays, and a room too short is not written
  pub relay_size : compare_of direct via_relay 41 ≡ Ok 41
  pub relay_number : result_number (compare_of direct via_relay 41) ≡ 0
  pub no_room_lem : compare_of direct via_relay 40 ≡ Err NoRoomForReport
  pub no_room_number : result_number (compare_of direct via_relay 40) ≡ 22
  pub room_written : room_compared direct via_relay (zeros 41 ++ (9 ∷ [])) ≡ text_for direct via_relay ++ (9 ∷ [])
  pub room_kept : room_compared direct via_relay (up_from 1 40) ≡ up_from 1 40
  -- `altered 53 1`, `missing 12 2`, `layout`, `covered bytes differ`: a pad more in front, and a byte after End
  pub other_options : text_for (bare (53 ∷ 1 ∷ 5 ∷ 12 ∷ 1 ∷ 65 ∷ 12 ∷ 1 ∷ 66 ∷ 90 ∷ 0 ∷ 255 ∷ [])) (bare (0 ∷ 53 ∷ 1 ∷ 2 ∷ 12 ∷ 1 ∷ 65 ∷ 90 ∷ 0 ∷ 255 ∷ 7 ∷ []))
      ≡ 97 ∷ 108 ∷ 116 ∷ 101 ∷ 114 ∷ 101 ∷ 100 ∷ 32 ∷ 53 ∷ 51 ∷ 32 ∷ 49 ∷ 10
      ∷ 109 ∷ 105 ∷ 115 ∷ 115 ∷ 105 ∷ 110 ∷ 103 ∷ 32 ∷ 49 ∷ 50 ∷ 32 ∷ 50 ∷ 10
      ∷ 108 ∷ 97 ∷ 121 ∷ 111 ∷ 117 ∷ 116 ∷ 10
      ∷ 99 ∷ 111 ∷ 118 ∷ 101 ∷ 114 ∷ 101 ∷ 100 ∷ 32 ∷ 98 ∷ 121 ∷ 116 ∷ 101 ∷ 115 ∷ 32 ∷ 100 ∷ 105 ∷ 102 ∷ 102 ∷ 101 ∷ 114 ∷ 10 ∷ []
  -- `relay only`
  pub itself : text_for via_relay via_relay
      ≡ 114 ∷ 101 ∷ 108 ∷ 97 ∷ 121 ∷ 32 ∷ 111 ∷ 110 ∷ 108 ∷ 121 ∷ 10 ∷ []
  -- all names, and `covered bytes differ`
  pub every_field : text_for direct (headed (up_from 1 236))
      ≡ 111 ∷ 112 ∷ 10
      ∷ 104 ∷ 116 ∷ 121 ∷ 112 ∷ 101 ∷ 10
      ∷ 104 ∷ 108 ∷ 101 ∷ 110 ∷ 10
      ∷ 104 ∷ 111 ∷ 112 ∷ 115 ∷ 10
      ∷ 120 ∷ 105 ∷ 100 ∷ 10
      ∷ 115 ∷ 101 ∷ 99 ∷ 115 ∷ 10
      ∷ 102 ∷ 108 ∷ 97 ∷ 103 ∷ 115 ∷ 10
      ∷ 99 ∷ 105 ∷ 97 ∷ 100 ∷ 100 ∷ 114 ∷ 10
      ∷ 121 ∷ 105 ∷ 97 ∷ 100 ∷ 100 ∷ 114 ∷ 10
      ∷ 115 ∷ 105 ∷ 97 ∷ 100 ∷ 100 ∷ 114 ∷ 10
      ∷ 103 ∷ 105 ∷ 97 ∷ 100 ∷ 100 ∷ 114 ∷ 10
      ∷ 99 ∷ 104 ∷ 97 ∷ 100 ∷ 100 ∷ 114 ∷ 10
      ∷ 115 ∷ 110 ∷ 97 ∷ 109 ∷ 101 ∷ 10
      ∷ 102 ∷ 105 ∷ 108 ∷ 101 ∷ 10
      ∷ 99 ∷ 111 ∷ 118 ∷ 101 ∷ 114 ∷ 101 ∷ 100 ∷ 32 ∷ 98 ∷ 121 ∷ 116 ∷ 101 ∷ 115 ∷ 32 ∷ 100 ∷ 105 ∷ 102 ∷ 102 ∷ 101 ∷ 114 ∷ 10 ∷ []
  -- those of every second field, from `op` and from `htype` on: a field that took a byte of another would be named too
  pub fields_from_op : text_for direct (headed from_op)
      ≡ 111 ∷ 112 ∷ 10
      ∷ 104 ∷ 108 ∷ 101 ∷ 110 ∷ 10
      ∷ 120 ∷ 105 ∷ 100 ∷ 10
      ∷ 102 ∷ 108 ∷ 97 ∷ 103 ∷ 115 ∷ 10
      ∷ 121 ∷ 105 ∷ 97 ∷ 100 ∷ 100 ∷ 114 ∷ 10
      ∷ 103 ∷ 105 ∷ 97 ∷ 100 ∷ 100 ∷ 114 ∷ 10
      ∷ 115 ∷ 110 ∷ 97 ∷ 109 ∷ 101 ∷ 10
      ∷ 99 ∷ 111 ∷ 118 ∷ 101 ∷ 114 ∷ 101 ∷ 100 ∷ 32 ∷ 98 ∷ 121 ∷ 116 ∷ 101 ∷ 115 ∷ 32 ∷ 100 ∷ 105 ∷ 102 ∷ 102 ∷ 101 ∷ 114 ∷ 10 ∷ []
  pub fields_from_htype : text_for direct (headed from_htype)
      ≡ 104 ∷ 116 ∷ 121 ∷ 112 ∷ 101 ∷ 10
      ∷ 104 ∷ 111 ∷ 112 ∷ 115 ∷ 10
      ∷ 115 ∷ 101 ∷ 99 ∷ 115 ∷ 10
      ∷ 99 ∷ 105 ∷ 97 ∷ 100 ∷ 100 ∷ 114 ∷ 10
      ∷ 115 ∷ 105 ∷ 97 ∷ 100 ∷ 100 ∷ 114 ∷ 10
      ∷ 99 ∷ 104 ∷ 97 ∷ 100 ∷ 100 ∷ 114 ∷ 10
      ∷ 102 ∷ 105 ∷ 108 ∷ 101 ∷ 10
      ∷ 99 ∷ 111 ∷ 118 ∷ 101 ∷ 114 ∷ 101 ∷ 100 ∷ 32 ∷ 98 ∷ 121 ∷ 116 ∷ 101 ∷ 115 ∷ 32 ∷ 100 ∷ 105 ∷ 102 ∷ 102 ∷ 101 ∷ 114 ∷ 10 ∷ []
  -- `file`, of its last byte alone
  pub last_byte : text_for direct (headed (zeros 235 ++ (1 ∷ [])))
      ≡ 102 ∷ 105 ∷ 108 ∷ 101 ∷ 10
      ∷ 99 ∷ 111 ∷ 118 ∷ 101 ∷ 114 ∷ 101 ∷ 100 ∷ 32 ∷ 98 ∷ 121 ∷ 116 ∷ 101 ∷ 115 ∷ 32 ∷ 100 ∷ 105 ∷ 102 ∷ 102 ∷ 101 ∷ 114 ∷ 10 ∷ []
  -- `layout`, `covered bytes differ`: a pad that moved
  pub pad_moved : text_for (bare (0 ∷ 53 ∷ 1 ∷ 5 ∷ 90 ∷ 0 ∷ 255 ∷ [])) (bare (53 ∷ 1 ∷ 5 ∷ 0 ∷ 90 ∷ 0 ∷ 255 ∷ []))
      ≡ 108 ∷ 97 ∷ 121 ∷ 111 ∷ 117 ∷ 116 ∷ 10
      ∷ 99 ∷ 111 ∷ 118 ∷ 101 ∷ 114 ∷ 101 ∷ 100 ∷ 32 ∷ 98 ∷ 121 ∷ 116 ∷ 101 ∷ 115 ∷ 32 ∷ 100 ∷ 105 ∷ 102 ∷ 102 ∷ 101 ∷ 114 ∷ 10 ∷ []
  -- a byte after End that differs
  pub end_followed : text_for (bare (90 ∷ 0 ∷ 255 ∷ 1 ∷ [])) (bare (90 ∷ 0 ∷ 255 ∷ 2 ∷ []))
      ≡ 108 ∷ 97 ∷ 121 ∷ 111 ∷ 117 ∷ 116 ∷ 10
      ∷ 99 ∷ 111 ∷ 118 ∷ 101 ∷ 114 ∷ 101 ∷ 100 ∷ 32 ∷ 98 ∷ 121 ∷ 116 ∷ 101 ∷ 115 ∷ 32 ∷ 100 ∷ 105 ∷ 102 ∷ 102 ∷ 101 ∷ 114 ∷ 10 ∷ []
  -- of two that are refused the first gives the number, and the number comes before the room
  pub first_refused : compare_of twice_relayed too_short 0 ≡ Err RelayInformation
  pub exchanged_refused : compare_of too_short twice_relayed 0 ≡ Err MessageSize
  pub first_number : result_number (compare_of twice_relayed too_short 0) ≡ 7
  pub exchanged_number : result_number (compare_of too_short twice_relayed 0) ≡ 2
  -- where the first passes, the second's
  pub second_number : result_number (compare_of direct twice_relayed 0) ≡ 7
  -- `missing 12 1`, `altered 53 1`, `added 60 1`, `added 50 1`, `layout`, `covered bytes differ`: each side in the order of its own options, the first's before
  -- the second's
  pub both_sides : text_for (bare (12 ∷ 0 ∷ 53 ∷ 1 ∷ 5 ∷ 90 ∷ 0 ∷ 255 ∷ [])) (bare (60 ∷ 0 ∷ 53 ∷ 1 ∷ 2 ∷ 50 ∷ 0 ∷ 90 ∷ 0 ∷ 255 ∷ []))
      ≡ 109 ∷ 105 ∷ 115 ∷ 115 ∷ 105 ∷ 110 ∷ 103 ∷ 32 ∷ 49 ∷ 50 ∷ 32 ∷ 49 ∷ 10
      ∷ 97 ∷ 108 ∷ 116 ∷ 101 ∷ 114 ∷ 101 ∷ 100 ∷ 32 ∷ 53 ∷ 51 ∷ 32 ∷ 49 ∷ 10
      ∷ 97 ∷ 100 ∷ 100 ∷ 101 ∷ 100 ∷ 32 ∷ 54 ∷ 48 ∷ 32 ∷ 49 ∷ 10
      ∷ 97 ∷ 100 ∷ 100 ∷ 101 ∷ 100 ∷ 32 ∷ 53 ∷ 48 ∷ 32 ∷ 49 ∷ 10
      ∷ 108 ∷ 97 ∷ 121 ∷ 111 ∷ 117 ∷ 116 ∷ 10
      ∷ 99 ∷ 111 ∷ 118 ∷ 101 ∷ 114 ∷ 101 ∷ 100 ∷ 32 ∷ 98 ∷ 121 ∷ 116 ∷ 101 ∷ 115 ∷ 32 ∷ 100 ∷ 105 ∷ 102 ∷ 102 ∷ 101 ∷ 114 ∷ 10 ∷ []
  -- the room that is always enough
  pub most : comparison_most ≡ 18573
