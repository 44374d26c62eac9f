-- Numbers 2 to 9 in the words of docs/RULES.md ('Numbers'), and the statement that a message is refused with the lowest number that applies, and
-- with none otherwise.
use Rattle.std.specs.Prelude.{ℕ, ◌+◌, ◌<◌, ◌≡◌, ◌≢◌, ◌⊎◌, ◌↔◌, List, ◌∷◌, ◌++◌, length, take, drop, Err, Ok}
use Rattle.refusal.specs.Number.{number_of}
use Rattle.refusal.specs.Lowest.{NothingBelow, Lowest}
use Rattle.refusal.specs.declared.Refusal.{Refusal}
use Rattle.refusal.specs.declared.Refusal.TheVariants.{MessageSize, WrongCookie, BrokenOptions, NoAuthentication, RepeatedAuthentication}
use Rattle.refusal.specs.declared.Refusal.TheVariants.{RelayInformation, OtherAuthentication, RequestForm}
use Rattle.dhcp_message.specs.Layout.{message_least, message_most, header_size, cookie_at, magic_cookie, relay_code, auth_code}
use Rattle.dhcp_message.specs.Layout.{option_head, full_length, request_length, delayed}
use Rattle.octets.specs.Bytes.{Bytes}
use Rattle.dhcp_message.specs.Options.{Token, opt, encode, Reads}
use Rattle.dhcp_message.specs.Message.{count, Passes27}
use Rattle.dhcp_message.specs.Shape.{shape_of}
use Rattle.dhcp_message.specs.Said.{form_of, form_number}
use Rattle.dhcp_message.specs.declared.Auth.{Auth}
use Rattle.dhcp_message.specs.declared.Places.{Places}

-- the options can be read, and what they read as has a property
pub record WhereRead (P : List Token → Type 0) (m : List ℕ) : Type 0 where
  pub tokens : List Token
  pub rest : List ℕ
  pub reads : Reads (drop header_size m) tokens rest
  pub holds : P tokens

-- an option of code c whose body has a property
pub record Has (c : ℕ) (P : List ℕ → Type 0) (tokens : List Token) : Type 0 where
  pub front : List Token
  pub body : List ℕ
  pub back : List Token
  pub splits : tokens ≡ front ++ (opt c body ∷ back)
  pub holds : P body

-- 4: no well-formed tokens and rest make up the option bytes
abbrev pub NoReading : List ℕ → Type 0
NoReading m = (tokens : List Token) (rest : List ℕ) → Reads (drop header_size m) tokens rest → ⊥

-- 8: the length is neither 11 nor 31, or the first three body bytes are not 1, 1, 0
abbrev pub OtherForm : List ℕ → Type 0
OtherForm body = ((length body ≢ request_length) × (length body ≢ full_length)) ⊎ (take (length delayed) body ≢ delayed)

-- 9: request form, bytes 1, 1, 0
abbrev pub RequestBytes : List ℕ → Type 0
RequestBytes body = (length body ≡ request_length) × (take (length delayed) body ≡ delayed)

-- a number applies to a message: each speaks of the message alone
pub data Applies (m : List ℕ) : Refusal → Type 0 where
  wrong_size : (length m < message_least) ⊎ (message_most < length m) → Applies m MessageSize
  wrong_cookie : take (length magic_cookie) (drop cookie_at m) ≢ magic_cookie → Applies m WrongCookie
  broken_options : NoReading m → Applies m BrokenOptions
  no_authentication : WhereRead (λ ts. count auth_code ts ≡ 0) m → Applies m NoAuthentication
  repeated_authentication : WhereRead (λ ts. 1 < count auth_code ts) m → Applies m RepeatedAuthentication
  -- more than one option 82, wherever they stand
  repeated_relay_information : WhereRead (λ ts. 1 < count relay_code ts) m → Applies m RelayInformation
  other_form : WhereRead (Has auth_code OtherForm) m → Applies m OtherAuthentication
  request_form : WhereRead (Has auth_code RequestBytes) m → Applies m RequestForm

-- of a byte string: its number is the lowest that applies, and 0 where none does; it is refused with that name, or in full form; and it passes
-- 2 to 7 where none of these applies
pub record LowestGiven : Type 0 where
  pub number : (m : List ℕ) → Bytes m → Lowest (Applies m) (form_number (form_of m))
  pub refused : (m : List ℕ) → Bytes m → (r : Refusal) → (form_of m ≡ Err r) ↔ (Applies m r × NothingBelow (Applies m) (number_of r))
  pub full : (m : List ℕ) → Bytes m → ((a : Auth) × (form_of m ≡ Ok a)) ↔ ((r : Refusal) → Applies m r → ⊥)
  pub passes : (m : List ℕ) → Bytes m → Passes27 m ↔ NothingBelow (Applies m) (number_of OtherAuthentication)

-- an option of code c stands at this offset of the message
pub record StandsAt (c at : ℕ) (tokens : List Token) : Type 0 where
  pub front : List Token
  pub body : List ℕ
  pub back : List Token
  pub splits : tokens ≡ front ++ (opt c body ∷ back)
  pub offset : at ≡ header_size + length (encode front)

-- option 82 takes these bytes: so many from an offset on, or none from End on where there is no such option
pub data RelayAt (cut gap : ℕ) (tokens : List Token) : Type 0 where
  relay_there : count relay_code tokens ≡ 1 → (s : StandsAt relay_code cut tokens) → gap ≡ option_head + length s.body → RelayAt cut gap tokens
  no_relay : count relay_code tokens ≡ 0 → cut ≡ header_size + length (encode tokens) → gap ≡ 0 → RelayAt cut gap tokens

-- of a byte string and 2 to 7 alone: it is refused with the lowest of them that applies, and passes where none does; and then its one option 90
-- stands where it is said to stand, and so does its option 82, if it has one
pub record ShapeGiven : Type 0 where
  pub refused : (m : List ℕ) → Bytes m → (r : Refusal)
      → (shape_of m ≡ Err r) ↔ (Applies m r × NothingBelow (Applies m) (number_of r) × (number_of r < number_of OtherAuthentication))
  pub passed : (m : List ℕ) → Bytes m → ((p : Places) × (shape_of m ≡ Ok p)) ↔ NothingBelow (Applies m) (number_of OtherAuthentication)
  pub stands : (m : List ℕ) → Bytes m → (p : Places) → shape_of m ≡ Ok p
      → WhereRead (λ ts. (count auth_code ts ≡ 1) × StandsAt auth_code p.at ts) m
  pub relay : (m : List ℕ) → Bytes m → (p : Places) → shape_of m ≡ Ok p → WhereRead (RelayAt p.cut p.gap) m
