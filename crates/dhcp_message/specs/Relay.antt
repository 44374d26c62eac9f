-- A permitted relay change (docs/RULES.md, 'Relay changes'; RFC 3118, section 3, names what a relay agent may alter), any number of them, what they
-- keep, and that all that the rules let a relay do is permitted.
use Rattle.std.specs.Prelude.{ℕ, ◌+◌, ◌≤◌, ◌≡◌, List, ◌∷◌, ◌++◌, length, take, drop}
use Rattle.dhcp_message.specs.Layout.{message_most, header_size, hops_size, giaddr_size, end_code, relay_code, body_most}
use Rattle.octets.specs.Bytes.{Bytes}
use Rattle.dhcp_message.specs.Options.{Token, opt, encode, Reads}
use Rattle.dhcp_message.specs.Message.{count, Passes27, auth_option_of}
use Rattle.dhcp_message.specs.Said.{said_of, named}
use Rattle.dhcp_message.specs.Image.{head_with, image_of}

-- what a relay may put into option 82
abbrev pub RelayBody : List ℕ → Type 0
RelayBody body = (length body ≤ body_most) × Bytes body

-- what may become of option 82: as it is; added at any place where there is none, so before any option, pad or End; given another body in its place;
-- taken out
pub data RelayChange (before after : List Token) : Type 0 where
  kept : after ≡ before → RelayChange before after
  added : (front : List Token) (body : List ℕ) (back : List Token) → RelayBody body → count relay_code before ≡ 0
      → before ≡ front ++ back → after ≡ front ++ (opt relay_code body ∷ back) → RelayChange before after
  replaced : (front : List Token) (old body : List ℕ) (back : List Token) → RelayBody body
      → before ≡ front ++ (opt relay_code old ∷ back) → after ≡ front ++ (opt relay_code body ∷ back) → RelayChange before after
  removed : (front : List Token) (old : List ℕ) (back : List Token)
      → before ≡ front ++ (opt relay_code old ∷ back) → after ≡ front ++ back → RelayChange before after

-- a change of m to n
pub record Permitted (m n : List ℕ) : Type 0 where
  pub passes : Passes27 m
  pub tokens : List Token
  pub rest : List ℕ
  pub reads : Reads (drop header_size m) tokens rest
  pub tokens' : List Token
  pub change : RelayChange tokens tokens'
  pub hops : List ℕ
  pub hops_size_lem : length hops ≡ hops_size
  pub hops_bytes : Bytes hops
  pub giaddr : List ℕ
  pub giaddr_size_lem : length giaddr ≡ giaddr_size
  pub giaddr_bytes : Bytes giaddr
  pub becomes : n ≡ head_with hops giaddr (take header_size m) ++ (encode tokens' ++ (end_code ∷ rest))
  pub fits : length n ≤ message_most

-- any number of changes, one after another
pub data Relayed : List ℕ → List ℕ → Type 0 where
  unchanged : {m : List ℕ} → Relayed m m
  changed : {l m n : List ℕ} → Permitted l m → Relayed m n → Relayed l n

-- what is the same after a change: option 90's bytes, what the message says (the numbers 8 and 9, counter, id and MAC), and the covered image
pub record Kept (m n : List ℕ) : Type 0 where
  pub still_passes : Passes27 m → Passes27 n
  pub option : auth_option_of n ≡ auth_option_of m
  pub said : said_of n ≡ said_of m
  pub name : named n ≡ named m
  pub image : image_of n ≡ image_of m
  pub bytes : Bytes m → Bytes n

pub record RelayKeeps : Type 0 where
  pub once : (m n : List ℕ) → Permitted m n → Kept m n
  pub often : (m n : List ℕ) → Relayed m n → Kept m n

-- a message may become one with these option bytes, with whatever hops and giaddr a relay sets
abbrev pub AnyHeader : (List ℕ → List ℕ → Type 0) → List ℕ → List ℕ → Type 0
AnyHeader May m options =
    (hops giaddr : List ℕ) → length hops ≡ hops_size → Bytes hops → length giaddr ≡ giaddr_size → Bytes giaddr
    → May m (head_with hops giaddr (take header_size m) ++ options)

-- the same where the result fits
abbrev pub WhereFits : (List ℕ → List ℕ → Type 0) → List ℕ → List ℕ → Type 0
WhereFits May m options = header_size + length options ≤ message_most → AnyHeader May m options

-- of a message that passes 2 to 7: its options as they are; any option 82 at any place where there is none; any other body for the one there; that one
-- taken out; and, by more than one change, any option 82 at any place in its stead, so it may also move
pub record RelayMay : Type 0 where
  pub keep : (m : List ℕ) → Bytes m → Passes27 m → AnyHeader Permitted m (drop header_size m)
  pub add : (m : List ℕ) → Passes27 m → (front back : List Token) (rest body : List ℕ)
      → Reads (drop header_size m) (front ++ back) rest → count relay_code (front ++ back) ≡ 0 → length body ≤ body_most → Bytes body
      → WhereFits Permitted m (encode front ++ (relay_code ∷ length body ∷ (body ++ (encode back ++ (end_code ∷ rest)))))
  pub replace : (m : List ℕ) → Passes27 m → (front : List Token) (old : List ℕ) (back : List Token) (rest body : List ℕ)
      → Reads (drop header_size m) (front ++ (opt relay_code old ∷ back)) rest → length body ≤ body_most → Bytes body
      → WhereFits Permitted m (encode front ++ (relay_code ∷ length body ∷ (body ++ (encode back ++ (end_code ∷ rest)))))
  pub remove : (m : List ℕ) → Passes27 m → (front : List Token) (old : List ℕ) (back : List Token) (rest : List ℕ)
      → Reads (drop header_size m) (front ++ (opt relay_code old ∷ back)) rest → AnyHeader Permitted m (encode front ++ (encode back ++ (end_code ∷ rest)))
  pub move : (m : List ℕ) → Passes27 m → (front : List Token) (old : List ℕ) (back front' back' : List Token) (rest body : List ℕ)
      → Reads (drop header_size m) (front ++ (opt relay_code old ∷ back)) rest → front ++ back ≡ front' ++ back' → length body ≤ body_most → Bytes body
      → WhereFits Relayed m (encode front' ++ (relay_code ∷ length body ∷ (body ++ (encode back' ++ (end_code ∷ rest)))))
