-- What a seal writes (docs/RULES.md, 'Seal'): counter, secret id and MAC over the 28 bytes of option 90 that hold them; what the
-- two writers leave in a part of a message; and what holds of a message that was written so.
use Rattle.std.specs.Prelude.{ℕ, ◌+◌, ◌-◌, ◌^◌, ◌<◌, ◌≤◌, ◌≡◌, cond, List, ◌++◌, length, take, drop, eqb, Ok, Some}
use Rattle.dhcp_message.specs.Layout.{message_least, message_most, header_size, counter_at, counter_size, secret_id_size}
use Rattle.dhcp_message.specs.Layout.{mac_at, mac_size, fields_size, seal_size, full_size}
use Rattle.octets.specs.Bytes.{Bytes, written}
use Rattle.octets.specs.Numbers.{be, big_at}
use Rattle.dhcp_message.specs.Message.{Passes27}
use Rattle.dhcp_message.specs.Said.{says, said_of, form_of}
use Rattle.dhcp_message.specs.Image.{image_of, cover_size, cover_left}
use Rattle.dhcp_message.specs.declared.Auth.{Auth}

-- counter and id as they stand in option 90
abbrev pub fields : ℕ → ℕ → List ℕ
fields counter id = be counter_size counter ++ be secret_id_size id

-- a part of the 28 bytes with counter and id written, the MAC as it was; another part is left as it is
unfoldable pub fields_put : List ℕ → ℕ → ℕ → List ℕ
fields_put part counter id = cond (eqb (length part) seal_size) (written 0 (fields counter id) part) part

-- the same for the MAC, counter and id as they were
unfoldable pub mac_put : List ℕ → List ℕ → List ℕ
mac_put part mac = cond (eqb (length part) seal_size) (written fields_size mac part) part

-- the message with the 28 bytes of its option 90 written
abbrev pub sealed_with : Auth → List ℕ → List ℕ → List ℕ
sealed_with a new m = written (a.at + counter_at) new m

abbrev pub with_fields : Auth → ℕ → ℕ → Auth
with_fields a counter id = record { at = a.at; counter = counter; id = id; cut = a.cut; gap = a.gap }

-- what a message in full form is known to have
pub record FullForm (m : List ℕ) (a : Auth) : Type 0 where
  pub least : message_least ≤ length m
  pub most : length m ≤ message_most
  pub behind_header : header_size ≤ a.at
  pub inside : a.at + full_size ≤ length m
  pub stretch : a.cut + a.gap ≤ length m
  pub passes : Passes27 m
  pub said : said_of m ≡ says a.counter a.id (take mac_size (drop (a.at + mac_at) m))
  pub image_size : length (image_of m) ≡ length m - a.gap
  pub counter_size_lem : Bytes m → a.counter < 2 ^ 64
  pub id_size_lem : Bytes m → a.id < 2 ^ 32

-- what holds of the message with these bytes new: the seal's are counter, id and MAC one after another
pub record Rewritten (m : List ℕ) (a : Auth) (new : List ℕ) : Type 0 where
  pub form : form_of (sealed_with a new m) ≡ Ok (with_fields a (big_at new 0 counter_size) (big_at new counter_size secret_id_size))
  pub said : said_of (sealed_with a new m) ≡ says (big_at new 0 counter_size) (big_at new counter_size secret_id_size) (drop fields_size new)
  pub size : length (sealed_with a new m) ≡ length m
  pub image : (other : List ℕ) → length other ≡ seal_size → take fields_size new ≡ take fields_size other
      → image_of (sealed_with a new m) ≡ image_of (sealed_with a other m)
  pub again : (other : List ℕ) → length other ≡ seal_size → sealed_with a other (sealed_with a new m) ≡ sealed_with a other m

-- what the crate above goes by
pub record SealLaws : Type 0 where
  pub full : (m : List ℕ) (a : Auth) → form_of m ≡ Ok a → FullForm m a
  -- `cover` writes the image, and goes by the offsets alone
  pub covers : (m : List ℕ) (a : Auth) (out : List ℕ) → form_of m ≡ Ok a → length m ≤ length out
      → (cover_size m a out ≡ Some (length (image_of m))) × (cover_left m a out ≡ image_of m ++ drop (length (image_of m)) out)
  pub covers_offsets : (m : List ℕ) (a : Auth) (counter id : ℕ) (out : List ℕ)
      → (cover_size m (with_fields a counter id) out ≡ cover_size m a out) × (cover_left m (with_fields a counter id) out ≡ cover_left m a out)
  pub seals : (m : List ℕ) (a : Auth) (new : List ℕ) → form_of m ≡ Ok a → length new ≡ seal_size → Rewritten m a new
  -- counter, id and MAC take the 28 bytes, and whatever MAC stands there, the image is the same
  pub seal_size_lem : (counter id : ℕ) (mac : List ℕ) → length mac ≡ mac_size → length (fields counter id ++ mac) ≡ seal_size
  pub any_mac : (m : List ℕ) (a : Auth) (counter id : ℕ) (mac other : List ℕ) → form_of m ≡ Ok a → length mac ≡ mac_size → length other ≡ mac_size
      → image_of (sealed_with a (fields counter id ++ mac) m) ≡ image_of (sealed_with a (fields counter id ++ other) m)
  pub counter_read : (counter id : ℕ) (mac : List ℕ) → counter < 2 ^ 64 → big_at (fields counter id ++ mac) 0 counter_size ≡ counter
  pub id_read : (counter id : ℕ) (mac : List ℕ) → id < 2 ^ 32 → big_at (fields counter id ++ mac) counter_size secret_id_size ≡ id
  pub mac_read : (counter id : ℕ) (mac : List ℕ) → drop fields_size (fields counter id ++ mac) ≡ mac
  -- the part of the 28 bytes lent to each writer in turn: nothing else of the message changes
  pub fields_lent : (m : List ℕ) (at size counter id : ℕ) → size ≡ seal_size → at + size ≤ length m
      → take at m ++ (fields_put (take size (drop at m)) counter id ++ drop size (drop at m)) ≡ written at (fields counter id) m
  pub mac_lent : (m : List ℕ) (at size : ℕ) (mac : List ℕ) → size ≡ seal_size → length mac ≡ mac_size → at + size ≤ length m
      → take at m ++ (mac_put (take size (drop at m)) mac ++ drop size (drop at m)) ≡ written (at + fields_size) mac m
  pub fields_alone : (m : List ℕ) (at counter id : ℕ) → at + seal_size ≤ length m
      → written at (fields counter id) m ≡ written at (fields counter id ++ take mac_size (drop (at + fields_size) m)) m
  pub bytes_kept : (m : List ℕ) (at counter id : ℕ) (mac : List ℕ) → Bytes mac → Bytes m → Bytes (written at (fields counter id ++ mac) m)
  pub mac_behind : (m : List ℕ) (at counter id : ℕ) (mac : List ℕ) → at + seal_size ≤ length m
      → written (at + fields_size) mac (written at (fields counter id) m) ≡ written at (fields counter id ++ mac) m
