-- Options as tokens (RFC 2132, section 2; docs/RULES.md, 'The message'): a pad, or an option with its code and body. `encode` gives the
-- bytes of tokens; `decode` reads tokens up to the first End. That each undoes the other is stated here as `RoundTrips`.
-- A pad is a token, though it says nothing: the MAC covers it, and offsets count it. Reading stops at End, since it ends what the options say
-- (RFC 2132, section 3.2); the bytes behind it are the rest.
use Rattle.std.specs.Prelude.{ℕ, zero, suc, ◌≤◌, ◌<◌, ◌≡◌, Bool, true, false, List, [], ◌∷◌, ◌++◌, ◌↔◌, length, take, leb, eqb}
use Rattle.dhcp_message.specs.Layout.{pad_code, end_code, body_most}
use Rattle.octets.specs.Bytes.{Bytes}

pub data Token : Type 0 where
  pad : Token
  opt : ℕ → List ℕ → Token

-- the bytes of tokens
abbrev pub encode : List Token → List ℕ
encode [] = []
encode (pad ∷ ts) = pad_code ∷ encode ts
encode (opt c body ∷ ts) = c ∷ length body ∷ (body ++ encode ts)

-- codes are neither pad nor End, and a body's length fits its byte
abbrev pub WellFormed : List Token → Type 0
WellFormed [] = Unit {0}
WellFormed (pad ∷ ts) = WellFormed ts
WellFormed (opt c body ∷ ts) = (pad_code < c) × (c < end_code) × (length body ≤ body_most) × WellFormed ts

-- option bytes that are these tokens, End, and the rest, which is not read as options
abbrev pub Reads : List ℕ → List Token → List ℕ → Type 0
Reads options tokens rest = WellFormed tokens × (options ≡ encode tokens ++ (end_code ∷ rest))

-- what reading gives: the tokens before the first End and the bytes after it; or an option passes the end, or there is no End
pub data Parsed : Type 0 where
  broken : Parsed
  parsed : List Token → List ℕ → Parsed

-- what stands in front: nothing whole, End, or a token, which takes so many bytes after its first
pub data Lead : Type 0 where
  nothing : Lead
  end : Lead
  token : Token → ℕ → Lead

abbrev pub body : ℕ → List ℕ → ℕ → Bool → Lead
body c xs n true = token (opt c (take n xs)) (suc n)
body c xs n false = nothing

abbrev pub option : ℕ → List ℕ → Lead
option c [] = nothing
option c (n ∷ xs) = body c xs n (leb n (length xs))

abbrev pub code : ℕ → List ℕ → Bool → Bool → Lead
code c xs true e = token pad 0
code c xs false true = end
code c xs false false = option c xs

-- by the first byte and those after it
abbrev pub lead : ℕ → List ℕ → Lead
lead c xs = code c xs (eqb c pad_code) (eqb c end_code)

abbrev pub with_token : Token → Parsed → Parsed
with_token t broken = broken
with_token t (parsed ts rest) = parsed (t ∷ ts) rest

abbrev pub step : (ℕ → Parsed) → List ℕ → Lead → Parsed
step go xs nothing = broken
step go xs end = parsed [] xs
step go xs (token t k) = with_token t (go k)

-- reading, once so many bytes are passed over
unfoldable pub decode_at : ℕ → List ℕ → Parsed
decode_at k [] = broken
decode_at zero (c ∷ xs) = step (λ k. decode_at k xs) xs (lead c xs)
decode_at (suc k) (c ∷ xs) = decode_at k xs

abbrev pub decode : List ℕ → Parsed
decode xs = decode_at 0 xs

-- what is written is read again, and bytes are read as tokens and a rest exactly where they are those tokens, End and that rest
pub record RoundTrips : Type 0 where
  pub written_read : (tokens : List Token) (rest : List ℕ) → WellFormed tokens → decode (encode tokens ++ (end_code ∷ rest)) ≡ parsed tokens rest
  pub read_written : (options : List ℕ) (tokens : List Token) (rest : List ℕ) → Bytes options
      → (decode options ≡ parsed tokens rest) ↔ Reads options tokens rest
