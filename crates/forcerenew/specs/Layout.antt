-- Option 90 as RFC 6704 has it (section 3.1.2), by offset from its code: code 0, length 1, protocol 2, algorithm 3, replay method 4, counter 5 to 12,
-- type 13, value 14 to 29. Length, method and counter stand where RFC 3118 has them (dhcp_message, specs/Layout.antt).
use Rattle.std.specs.Prelude.{ℕ, ◌+◌, ◌-◌, List, [], ◌∷◌}
use Rattle.dhcp_message.specs.Layout.{option_head}

abbrev pub type_at : ℕ
type_at = 13

abbrev pub value_at : ℕ
value_at = 14

-- the value: a nonce, or the MAC
abbrev pub value_size : ℕ
value_size = 16

-- the whole of option 90, and its length byte
abbrev pub nonce_option : ℕ
nonce_option = value_at + value_size

abbrev pub nonce_length : ℕ
nonce_length = nonce_option - option_head

-- protocol 3 (reconfigure key), algorithm 1 (HMAC-MD5), replay method 0 (a counter)
abbrev pub by_nonce : List ℕ
by_nonce = 3 ∷ 1 ∷ 0 ∷ []

-- the types of value: a nonce, given in an ACK; the MAC of a FORCERENEW
abbrev pub gives_nonce : ℕ
gives_nonce = 1

abbrev pub orders_renewal : ℕ
orders_renewal = 2

-- the message types that go with them (RFC 2132, section 9.6; RFC 3203)
abbrev pub ack_type : ℕ
ack_type = 5

abbrev pub forcerenew_type : ℕ
forcerenew_type = 9
