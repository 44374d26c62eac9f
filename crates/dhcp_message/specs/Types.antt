-- The message type that option 53 states (RFC 2132, section 9.6; RFC 3203 for FORCERENEW). Options of one code are not joined: two options
-- 53 state nothing, and so does one whose body is not one byte.
use Rattle.std.specs.Prelude.{ℕ, ◌≡◌, ◌↔◌, cond, List, [], ◌∷◌, drop, eqb, None, Option, Some}
use Rattle.octets.specs.Bytes.{Bytes}
use Rattle.dhcp_message.specs.Layout.{header_size, type_code}
use Rattle.dhcp_message.specs.Options.{Token, pad, opt, Parsed, broken, parsed, decode}
use Rattle.dhcp_message.specs.Message.{count}
use Rattle.dhcp_message.specs.Numbers.{WhereRead, Has}

-- the bodies of the options of code c, in their order
abbrev pub bodies_of : ℕ → List Token → List (List ℕ)
bodies_of c [] = []
bodies_of c (pad ∷ ts) = bodies_of c ts
bodies_of c (opt e body ∷ ts) = cond (eqb e c) (body ∷ bodies_of c ts) (bodies_of c ts)

-- one body, of one byte, states that byte
abbrev pub stated_by : List (List ℕ) → Option ℕ
stated_by [] = None
stated_by ([] ∷ bodies) = None
stated_by ((v ∷ []) ∷ []) = Some v
stated_by ((v ∷ []) ∷ (other ∷ bodies)) = None
stated_by ((v ∷ w ∷ more) ∷ bodies) = None

abbrev pub stated_in : Parsed → Option ℕ
stated_in broken = None
stated_in (parsed ts rest) = stated_by (bodies_of type_code ts)

-- the message type of a message
unfoldable pub message_type_of : List ℕ → Option ℕ
message_type_of m = stated_in (decode (drop header_size m))

-- in the rules' words: the options can be read, and among them is exactly one option 53, whose body is that byte
pub record TypeSays : Type 0 where
  pub stated : (m : List ℕ) → Bytes m → (v : ℕ)
      → (message_type_of m ≡ Some v) ↔ WhereRead (λ ts. (count type_code ts ≡ 1) × Has type_code (λ body. body ≡ v ∷ []) ts) m
