-- What a message shows to authentication by a nonce (RFC 6704, section 3.1.2; docs/RULES.md, 'FORCERENEW by nonce'): a refusal; a nonce and a counter;
-- or a counter, a MAC, and the bytes that the MAC covers. Everything stands by its offset from option 90's code.
use Rattle.std.specs.Prelude.{ℕ, ◌+◌, Bool, true, false, cond, ◌&&◌, ◌||◌, List, eqb, get_or, take, drop, Err, None, Ok, Option, Result, Some}
use Rattle.refusal.specs.declared.Refusal.{Refusal}
use Rattle.refusal.specs.declared.Refusal.TheVariants.{NotByNonce, WrongType}
use Rattle.octets.specs.Bytes.{written, zeros, starts}
use Rattle.octets.specs.Numbers.{big_at}
use Rattle.dhcp_message.specs.Layout.{length_at, method_at, counter_at, counter_size}
use Rattle.dhcp_message.specs.Shape.{shape_of}
use Rattle.dhcp_message.specs.Types.{message_type_of}
use Rattle.forcerenew.specs.Layout.{type_at, value_at, value_size, nonce_length, by_nonce, gives_nonce, orders_renewal, ack_type, forcerenew_type}
use Rattle.dhcp_message.specs.declared.Places.{Places}

pub data Shown : Type 0 where
  -- 2 to 7
  unread : Refusal → Shown
  -- 19 and 20
  unfit : Refusal → Shown
  gives : (counter : ℕ) (nonce : List ℕ) → Shown
  orders : (counter : ℕ) (mac image : List ℕ) → Shown

-- the fields of an option 90 at offset o
abbrev pub counter_in : List ℕ → ℕ → ℕ
counter_in m o = big_at m (o + counter_at) counter_size

abbrev pub type_in : List ℕ → ℕ → ℕ
type_in m o = get_or m (o + type_at) 0

abbrev pub value_in : List ℕ → ℕ → List ℕ
value_in m o = take value_size (drop (o + value_at) m)

-- what the MAC of a FORCERENEW covers (RFC 6704, sections 3.1.3 and 3.1.4: the entire message, the HMAC-MD5 field set to zero): nothing else is altered.
-- Hops and giaddr stay as they stand, and an option 82 is not taken out.
abbrev pub image_at : List ℕ → ℕ → List ℕ
image_at m o = written (o + value_at) (zeros value_size) m

-- 19: option 90's length is 28, and protocol, algorithm and method are 3, 1, 0
abbrev pub form_fits : List ℕ → ℕ → Bool
form_fits m o = eqb (get_or m (o + length_at) 0) nonce_length && starts by_nonce (drop (o + method_at) m)

-- 20: a nonce goes with an ACK, a MAC with a FORCERENEW, and nothing else goes with anything
unfoldable pub goes_with : ℕ → Option ℕ → Bool
goes_with type None = false
goes_with type (Some stated) = (eqb type gives_nonce && eqb stated ack_type) || (eqb type orders_renewal && eqb stated forcerenew_type)

-- by what goes with option 53
abbrev pub shown_typed : List ℕ → ℕ → Bool → Shown
shown_typed m o false = unfit WrongType
shown_typed m o true = cond (eqb (type_in m o) gives_nonce) (gives (counter_in m o) (value_in m o)) (orders (counter_in m o) (value_in m o) (image_at m o))

-- by the form of option 90
abbrev pub shown_formed : List ℕ → ℕ → Bool → Shown
shown_formed m o false = unfit NotByNonce
shown_formed m o true = shown_typed m o (goes_with (type_in m o) (message_type_of m))

unfoldable pub shown_at : List ℕ → ℕ → Shown
shown_at m o = shown_formed m o (form_fits m o)

-- by what checks 2 to 7 give
abbrev pub shown_in : List ℕ → Result Places Refusal → Shown
shown_in m (Err r) = unread r
shown_in m (Ok p) = shown_at m p.at

unfoldable pub shown_of : List ℕ → Shown
shown_of m = shown_in m (shape_of m)
