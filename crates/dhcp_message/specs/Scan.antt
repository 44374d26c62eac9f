-- What the code's passes over the options collect, for the contracts of its private functions. Nothing here needs to be believed:
-- the public contracts speak of the definitions in Message, Shape, Said, Types and Image, and proofs/ shows that the two agree.
use Rattle.std.specs.Prelude.{ℕ, ◌+◌, cond, List, [], ◌∷◌, length, drop, ltb, eqb, Err, None, Ok, Option, Result, Some}
use Rattle.refusal.specs.declared.Refusal.TheVariants.{NoAuthentication, RepeatedAuthentication, RelayInformation}
use Rattle.dhcp_message.specs.Layout.{header_size, type_code, relay_code, auth_code, pad_size, option_head}
use Rattle.dhcp_message.specs.Options.{Token, pad, opt, Parsed, broken, parsed, decode}
use Rattle.dhcp_message.specs.declared.scan.Tally.{Tally}
use Rattle.dhcp_message.specs.declared.types.Typing.{Typing}
use Rattle.dhcp_message.specs.declared.types.Typing.TheVariants.{NotYet, As, Spoiled}
use Rattle.dhcp_message.specs.declared.Places.{Places}
use Rattle.dhcp_message.specs.declared.scan.Scanned.{Scanned}
use Rattle.refusal.specs.declared.Refusal.{Refusal}

abbrev pub seen90 : Tally → ℕ → Tally
seen90 f at = record { n90 = f.n90 + 1; at90 = at; n82 = f.n82; at82 = f.at82; size82 = f.size82 }

abbrev pub seen82 : Tally → ℕ → ℕ → Tally
seen82 f at size = record { n90 = f.n90; at90 = f.at90; n82 = f.n82 + 1; at82 = at; size82 = size }

-- what is found after one option more
unfoldable pub seen_of : Tally → ℕ → ℕ → ℕ → Tally
seen_of f c at size = cond (eqb c auth_code) (seen90 f at) (cond (eqb c relay_code) (seen82 f at size) f)

-- what was found of all options, and where they end
abbrev pub scan_to : Tally → (end : ℕ) → Option Scanned
scan_to f e = Some (record { found = f; end = e })

-- what is found after tokens that start at an offset, and where they end
abbrev pub scan_from : Tally → ℕ → List Token → Option Scanned
scan_from f at [] = scan_to f at
scan_from f at (pad ∷ ts) = scan_from f (at + pad_size) ts
scan_from f at (opt c body ∷ ts) = scan_from (seen_of f c at (option_head + length body)) (at + (option_head + length body)) ts

abbrev pub scan_parsed : Tally → ℕ → Parsed → Option Scanned
scan_parsed f at broken = None
scan_parsed f at (parsed ts rest) = scan_from f at ts

abbrev pub empty_tally : Tally
empty_tally = record { n90 = 0; at90 = 0; n82 = 0; at82 = 0; size82 = 0 }

unfoldable pub scan_of : List ℕ → Option Scanned
scan_of m = scan_parsed empty_tally header_size (decode (drop header_size m))

-- 5 to 7 by what was found, with End's offset
unfoldable pub shape_found : Tally → ℕ → Result Places Refusal
shape_found f ends =
    cond (eqb f.n90 0) (Err NoAuthentication)
    (cond (ltb 1 f.n90) (Err RepeatedAuthentication)
    (cond (eqb f.n82 0) (Ok (record { at = f.at90; cut = ends; gap = 0 }))
    (cond (ltb 1 f.n82) (Err RelayInformation) (Ok (record { at = f.at90; cut = f.at82; gap = f.size82 })))))

-- ---- option 53

-- what is found after one more option 53, by its body
abbrev pub typed_by : Typing → List ℕ → Typing
typed_by NotYet [] = Spoiled
typed_by NotYet (v ∷ []) = As v
typed_by NotYet (v ∷ w ∷ more) = Spoiled
typed_by (As v) body = Spoiled
typed_by Spoiled body = Spoiled

-- after one option more
unfoldable pub typed_of : Typing → ℕ → List ℕ → Typing
typed_of t c body = cond (eqb c type_code) (typed_by t body) t

-- after tokens
abbrev pub typed_from : Typing → List Token → Typing
typed_from t [] = t
typed_from t (pad ∷ ts) = typed_from t ts
typed_from t (opt c body ∷ ts) = typed_from (typed_of t c body) ts

-- what is stated where that was found of all options
unfoldable pub type_found : Typing → Option ℕ
type_found NotYet = None
type_found (As v) = Some v
type_found Spoiled = None

abbrev pub typed_parsed : Typing → Parsed → Option ℕ
typed_parsed t broken = None
typed_parsed t (parsed ts rest) = type_found (typed_from t ts)
