-- What a message says to delayed authentication (RFC 3118, section 5): a refusal of 2 to 9, or counter, secret id and MAC. It is read off
-- option 90's own bytes and does not depend on where that option stands. `form_of` adds where it stands, for the code that goes on.
use Rattle.std.specs.Prelude.{ℕ, ◌+◌, ◌≡◌, Bool, true, false, cond, List, take, drop, get_or, eqb, Err, None, Ok, Option, Result, Some}
use Rattle.refusal.specs.Number.{number_of, done}
use Rattle.refusal.specs.declared.Refusal.{Refusal}
use Rattle.refusal.specs.declared.Refusal.TheVariants.{OtherAuthentication, RequestForm}
use Rattle.dhcp_message.specs.Layout.{auth_code, length_at, method_at, counter_at, counter_size, secret_id_at, secret_id_size}
use Rattle.dhcp_message.specs.Layout.{mac_at, mac_size, full_length, request_length, delayed}
use Rattle.octets.specs.Bytes.{starts}
use Rattle.octets.specs.Numbers.{big_at}
use Rattle.dhcp_message.specs.Message.{option_of, Checked, stopped, passed, checked_of}
use Rattle.dhcp_message.specs.Shape.{places_of}
use Rattle.dhcp_message.specs.declared.Places.{Places}
use Rattle.dhcp_message.specs.declared.Auth.{Auth}

pub data Said : Type 0 where
  refused : Refusal → Said
  says : ℕ → ℕ → List ℕ → Said

-- 8 and 9, by whether the length is that of the full form, or of the request form, and whether the method is delayed authentication
abbrev pub said_for : Bool → Bool → Bool → Said → Said
said_for true request method said = cond method said (refused OtherAuthentication)
said_for false true method said = cond method (refused RequestForm) (refused OtherAuthentication)
said_for false false method said = refused OtherAuthentication

-- what the bytes of option 90 say in full form
abbrev pub full_said : List ℕ → Said
full_said x = says (big_at x counter_at counter_size) (big_at x secret_id_at secret_id_size) (take mac_size (drop mac_at x))

-- what they say, whatever form they have
unfoldable pub said_by : List ℕ → Said
said_by x =
    said_for (eqb (get_or x length_at 0) full_length) (eqb (get_or x length_at 0) request_length) (starts delayed (drop method_at x)) (full_said x)

abbrev pub said_in : Checked → Said
said_in (stopped r) = refused r
said_in (passed ts rest) = said_by (option_of auth_code ts)

unfoldable pub said_of : List ℕ → Said
said_of m = said_in (checked_of m)

-- the secret id that a check names: exactly where the message passes 2 to 9
abbrev pub id_of : Said → Option ℕ
id_of (refused r) = None
id_of (says counter id mac) = Some id

unfoldable pub named : List ℕ → Option ℕ
named m = id_of (said_of m)

abbrev pub auth_of : Places → ℕ → ℕ → Auth
auth_of p counter id = record { at = p.at; counter = counter; id = id; cut = p.cut; gap = p.gap }

abbrev pub form_said : Places → Said → Result Auth Refusal
form_said p (refused r) = Err r
form_said p (says counter id mac) = Ok (auth_of p counter id)

abbrev pub form_in : Checked → Result Auth Refusal
form_in (stopped r) = Err r
form_in (passed ts rest) = form_said (places_of ts) (said_by (option_of auth_code ts))

-- the lowest of 2 to 9 that applies, or what the full form says and where
unfoldable pub form_of : List ℕ → Result Auth Refusal
form_of m = form_in (checked_of m)

-- the number of a form: that of its refusal, or 0
abbrev pub form_number : Result Auth Refusal → ℕ
form_number (Err r) = number_of r
form_number (Ok a) = done

-- what a form says of a message: counter and id as they stand there, and the 16 bytes of the MAC
abbrev pub form_says : List ℕ → Result Auth Refusal → Said
form_says m (Err r) = refused r
form_says m (Ok a) = says a.counter a.id (take mac_size (drop (a.at + mac_at) m))

abbrev pub form_names : Result Auth Refusal → Option ℕ
form_names (Err r) = None
form_names (Ok a) = Some a.id

-- what a message says, and the secret it names, is what is found in it
pub record FormSays : Type 0 where
  pub said : (m : List ℕ) → said_of m ≡ form_says m (form_of m)
  pub name : (m : List ℕ) → named m ≡ form_names (form_of m)
  pub counter_there : (m : List ℕ) (a : Auth) → form_of m ≡ Ok a → a.counter ≡ big_at m (a.at + counter_at) counter_size
  pub id_there : (m : List ℕ) (a : Auth) → form_of m ≡ Ok a → a.id ≡ big_at m (a.at + secret_id_at) secret_id_size
