-- When a check accepts, when a message has a key, when a seal seals, and when a server's nonce or its order is accepted, in plain sight (docs/RULES.md, 'The
-- demands', 'Check', 'Key of a message', 'Seal', 'FORCERENEW by nonce').
use Rattle.std.specs.Prelude.{ℕ, ◌+◌, ◌*◌, ◌<◌, ◌≡◌, ◌≢◌, true, List, ◌++◌, length, get_or, set, take, drop, Ok, Some}
use Rattle.hmac_md5.specs.Hmac.{hmac}
use Rattle.dhcp_message.specs.Layout.{length_at, method_at, counter_at}
use Rattle.octets.specs.Bytes.{written}
use Rattle.dhcp_message.specs.Replay.{is_new}
use Rattle.dhcp_message.specs.Shape.{shape_of}
use Rattle.dhcp_message.specs.Types.{message_type_of}
use Rattle.dhcp_message.specs.Said.{says, said_of, named, form_of}
use Rattle.dhcp_message.specs.Image.{image_of}
use Rattle.dhcp_message.specs.Seal.{fields}
use Rattle.dhcp_message.specs.declared.Auth.{Auth}
use Rattle.dhcp_message.specs.declared.Places.{Places}
use Rattle.key_book.specs.Book.{Book, row_of, key_of}
use Rattle.delayed_auth.specs.Check.{new_to}
use Rattle.delayed_auth.specs.Seal.{counter_most}
use Rattle.forcerenew.specs.Layout.{value_size, nonce_length, by_nonce, gives_nonce, orders_renewal, ack_type, forcerenew_type}
use Rattle.forcerenew.specs.Rows.{none_yet, not_heard, Servers, SoundRows, nonce_at, row_at, has_heard}
use Rattle.forcerenew.specs.Shown.{counter_in, type_in, value_in, image_at}

-- The book accepts message m at row k with counter c.
pub record Accepts (b : Book) (m : List ℕ) (k c : ℕ) : Type 0 where
  pub id : ℕ
  pub mac : List ℕ
  -- the form of delayed authentication, as numbers 2 to 9 judge it: the message says counter, secret id and MAC
  pub form : said_of m ≡ says c id mac
  -- its secret is in the book
  pub secret : row_of b id ≡ Some k
  -- its counter is new to that secret: the row is not heard, or its received counter is below
  pub new : new_to b k c ≡ true
  -- its MAC is right over the message as RFC 3118, section 3, has it read
  pub right : mac ≡ hmac (key_of b k) (image_of m)

-- Message m names the secret of row k: its key is handed out.
pub record Names (b : Book) (m : List ℕ) (k : ℕ) : Type 0 where
  pub id : ℕ
  -- the form of delayed authentication, as numbers 2 to 9 judge it: the message names a secret
  pub form : named m ≡ Some id
  -- its secret is in the book
  pub secret : row_of b id ≡ Some k

-- Under the given id the book seals message m at row k with counter c, and n is what it leaves.
pub record Seals (b : Book) (id : ℕ) (m : List ℕ) (k c : ℕ) (n : List ℕ) : Type 0 where
  pub auth : Auth
  pub mac : List ℕ
  -- the message passes 2 to 9: its option 90 is in full form
  pub form : form_of m ≡ Ok auth
  -- the given id has a row
  pub secret : row_of b id ≡ Some k
  -- its sent counter is not the largest, and the next is written
  pub left : get_or b.sent k 0 < counter_most
  pub next : c ≡ get_or b.sent k 0 + 1
  -- bytes o+5 to o+32 are counter, id and MAC, and nothing else differs
  pub bytes : n ≡ written (auth.at + counter_at) (fields c id ++ mac) m
  -- the MAC is that of the resulting image
  pub right : mac ≡ hmac (key_of b k) (image_of n)

-- ---- by a nonce

-- Message m passes 2 to 7, and its option 90 stands at offset o.
pub record OptionAt (m : List ℕ) (o : ℕ) : Type 0 where
  pub places : Places
  pub form : shape_of m ≡ Ok places
  pub place : o ≡ places.at

-- That option 90 is one by a nonce.
pub record ByNonce (m : List ℕ) (o : ℕ) : Type 0 where
  pub option : OptionAt m o
  -- its length, and its protocol, algorithm and replay method
  pub size : get_or m (o + length_at) 0 ≡ nonce_length
  pub method : take (length by_nonce) (drop (o + method_at) m) ≡ by_nonce

-- The ACK m gives the server of row k this nonce, with counter c, which is not judged.
pub record GivesNonce (s : Servers) (k : ℕ) (m : List ℕ) (c : ℕ) (nonce : List ℕ) : Type 0 where
  pub o : ℕ
  pub rows : SoundRows s
  pub form : ByNonce m o
  -- the row is there
  pub row : k < length s.marks
  -- type 1 in an ACK
  pub type : type_in m o ≡ gives_nonce
  pub message_type : message_type_of m ≡ Some ack_type
  pub counter : c ≡ counter_in m o
  pub value : nonce ≡ value_in m o

-- The FORCERENEW m is believed of the server of row k, with counter c.
pub record OrdersRenewal (s : Servers) (k : ℕ) (m : List ℕ) (c : ℕ) : Type 0 where
  pub o : ℕ
  pub rows : SoundRows s
  pub form : ByNonce m o
  -- the row is there
  pub row : k < length s.marks
  -- type 2 in a FORCERENEW
  pub type : type_in m o ≡ orders_renewal
  pub message_type : message_type_of m ≡ Some forcerenew_type
  pub counter : c ≡ counter_in m o
  -- that server gave a nonce
  pub nonce_there : get_or s.marks k 0 ≢ none_yet
  -- the counter is new to the row: it is not heard, or its counter is below
  pub new : is_new (has_heard (row_at s k)) (get_or s.counters k 0) c ≡ true
  -- the MAC is right under the nonce, over the message with nothing but the MAC zero
  pub right : value_in m o ≡ hmac (nonce_at s k) (image_at m o)

-- The message is accepted of the server of row k, with this type and this counter.
pub data Heeds (s : Servers) (k : ℕ) (m : List ℕ) : (type counter : ℕ) → Type 0 where
  nonce_given : {c : ℕ} {nonce : List ℕ} → GivesNonce s k m c nonce → Heeds s k m gives_nonce c
  renewal_ordered : {c : ℕ} → OrdersRenewal s k m c → Heeds s k m orders_renewal c

-- row k has this nonce
pub record HasNonce (s : Servers) (k : ℕ) (nonce : List ℕ) : Type 0 where
  pub there : get_or s.marks k 0 ≢ none_yet
  pub same : nonce ≡ nonce_at s k

-- What an accepted nonce leaves: the rows as they were, where row k had it; else they are the old ones but at k, where the nonce is stored, the counter
-- is 0, and nothing is heard.
pub data Stores (s : Servers) (k : ℕ) (nonce : List ℕ) : Servers → Type 0 where
  had_it : HasNonce s k nonce → Stores s k nonce s
  took_it : (HasNonce s k nonce → ⊥)
      → Stores s k nonce
      (record { nonces = written (value_size * k) nonce s.nonces; counters = set s.counters k 0; marks = set s.marks k not_heard })
