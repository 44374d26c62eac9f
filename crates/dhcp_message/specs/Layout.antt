-- Where things stand in a DHCP message, and how large they are. RFC 2131 decides the header, RFC 2132 and 3046 the options,
-- RFC 3118 option 90, docs/RULES.md, 'The message', the limits.
-- Contracts and definitions have these numbers from here, the code has them from src/layout.rt. Proofs write them as numbers, which are the same by
-- computation; and Bench pins each by what it does to bytes, written as numbers on purpose.
use Rattle.std.specs.Prelude.{ℕ, ◌+◌, ◌-◌, List, [], ◌∷◌}

-- the sizes that a message may have
abbrev pub message_least : ℕ
message_least = 241

abbrev pub message_most : ℕ
message_most = 1472

-- the fixed part: hops one byte, giaddr four, the magic cookie four; the options start behind it
abbrev pub hops_at : ℕ
hops_at = 3

abbrev pub hops_size : ℕ
hops_size = 1

abbrev pub giaddr_at : ℕ
giaddr_at = 24

abbrev pub giaddr_size : ℕ
giaddr_size = 4

abbrev pub cookie_at : ℕ
cookie_at = 236

abbrev pub magic_cookie : List ℕ
magic_cookie = 99 ∷ 130 ∷ 83 ∷ 99 ∷ []

abbrev pub header_size : ℕ
header_size = 240

-- option codes
abbrev pub pad_code : ℕ
pad_code = 0

abbrev pub type_code : ℕ
type_code = 53

abbrev pub relay_code : ℕ
relay_code = 82

abbrev pub auth_code : ℕ
auth_code = 90

abbrev pub end_code : ℕ
end_code = 255

-- a pad is its code alone; what another option takes besides its body is code and length
abbrev pub pad_size : ℕ
pad_size = 1

abbrev pub option_head : ℕ
option_head = 2

abbrev pub body_most : ℕ
body_most = 255

-- option 90 by offset from its code (RFC 3118, sections 2 and 5.2): code 0, length 1, protocol 2, algorithm 3, replay method 4,
-- counter 5 to 12, secret id 13 to 16, MAC 17 to 32
abbrev pub length_at : ℕ
length_at = 1

abbrev pub method_at : ℕ
method_at = 2

abbrev pub counter_at : ℕ
counter_at = 5

abbrev pub counter_size : ℕ
counter_size = 8

abbrev pub secret_id_at : ℕ
secret_id_at = 13

abbrev pub secret_id_size : ℕ
secret_id_size = 4

abbrev pub mac_at : ℕ
mac_at = 17

abbrev pub mac_size : ℕ
mac_size = 16

-- counter and secret id together, and with the MAC: what a seal writes
abbrev pub fields_size : ℕ
fields_size = counter_size + secret_id_size

abbrev pub seal_size : ℕ
seal_size = fields_size + mac_size

-- the whole of option 90 in full form
abbrev pub full_size : ℕ
full_size = mac_at + mac_size

-- its length byte in full form, and in request form, without id and MAC
abbrev pub full_length : ℕ
full_length = full_size - option_head

abbrev pub request_length : ℕ
request_length = 11

-- delayed authentication: protocol 1, algorithm 1 (HMAC-MD5), replay method 0 (a counter)
abbrev pub delayed : List ℕ
delayed = 1 ∷ 1 ∷ 0 ∷ []
