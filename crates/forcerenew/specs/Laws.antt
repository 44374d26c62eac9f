-- The offsets in the words of the options (docs/RULES.md, 'FORCERENEW by nonce'): a message that passes 2 to 7 is its header, the options before option
-- 90, option 90, those behind it, End and the rest; and what is read or zeroed by its offset from option 90's code is read or zeroed in option 90's body.
-- The one proof is proofs/Offsets.antt.
use Rattle.std.specs.Prelude.{ℕ, ◌+◌, ◌-◌, ◌≡◌, List, ◌∷◌, ◌++◌, length, get_or, take, drop, Ok}
use Rattle.octets.specs.Bytes.{Bytes, written, zeros}
use Rattle.octets.specs.Numbers.{big_at}
use Rattle.dhcp_message.specs.Layout.{header_size, end_code, auth_code, option_head, length_at, method_at, counter_at, counter_size}
use Rattle.dhcp_message.specs.Options.{Token, opt, encode, Reads}
use Rattle.dhcp_message.specs.Shape.{shape_of}
use Rattle.dhcp_message.specs.declared.Places.{Places}
use Rattle.forcerenew.specs.Layout.{type_at, value_at, value_size, nonce_length, by_nonce}
use Rattle.forcerenew.specs.Shown.{counter_in, type_in, value_in, image_at}

-- a message with this body in option 90
abbrev pub message_with : (header : List ℕ) (front : List Token) (body : List ℕ) (back : List Token) (rest : List ℕ) → List ℕ
message_with header front body back rest = header ++ (encode (front ++ (opt auth_code body ∷ back)) ++ (end_code ∷ rest))

-- the parts of a message whose option 90 stands at offset o
pub record Parts (m : List ℕ) (o : ℕ) : Type 0 where
  pub front : List Token
  pub body : List ℕ
  pub back : List Token
  pub rest : List ℕ
  pub reads : Reads (drop header_size m) (front ++ (opt auth_code body ∷ back)) rest
  pub whole : m ≡ message_with (take header_size m) front body back rest
  pub offset : o ≡ header_size + length (encode front)
  -- the length byte, and of a body of 28 bytes: method, counter, type, value
  pub size : get_or m (o + length_at) 0 ≡ length body
  pub method : length body ≡ nonce_length → take (length by_nonce) (drop (o + method_at) m) ≡ take (length by_nonce) body
  pub counter : length body ≡ nonce_length → counter_in m o ≡ big_at body (counter_at - option_head) counter_size
  pub type : length body ≡ nonce_length → type_in m o ≡ get_or body (type_at - option_head) 0
  pub value : length body ≡ nonce_length → value_in m o ≡ drop (value_at - option_head) body
  -- what the MAC covers: the message with the value zero in option 90's body, and nothing else altered
  pub image : length body ≡ nonce_length
      → image_at m o ≡ message_with (take header_size m) front (written (value_at - option_head) (zeros value_size) body) back rest

pub record OffsetsSay : Type 0 where
  pub parts : (m : List ℕ) → Bytes m → (p : Places) → shape_of m ≡ Ok p → Parts m p.at
