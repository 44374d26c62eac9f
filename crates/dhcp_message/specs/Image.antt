-- The covered image of a message whose option 90 is in full form (RFC 3118, section 3; docs/RULES.md, 'The covered image'): hops, giaddr and
-- the MAC zero, the whole of option 82 taken out, everything else in its order, the bytes after End with it. A relay agent sets hops and giaddr, and
-- adds option 82 and takes it out again, so sender and receiver don't see the same ones: the MAC has to leave them out (RFC 3118, section 3).
-- Then what `cover` writes for any offsets and any room.
use Rattle.std.specs.Prelude.{ℕ, ◌+◌, ◌-◌, Bool, cond, ◌&&◌, ◌||◌, List, [], ◌∷◌, ◌++◌, length, take, drop, leb, ltb, eqb, None, Option, Some}
use Rattle.dhcp_message.specs.Layout.{header_size, hops_at, hops_size, giaddr_at, giaddr_size, end_code, relay_code, auth_code, option_head}
use Rattle.dhcp_message.specs.Layout.{mac_at, mac_size, full_size}
use Rattle.octets.specs.Bytes.{written, zeros}
use Rattle.dhcp_message.specs.Options.{Token, pad, opt, Parsed, broken, parsed, encode, decode}
use Rattle.dhcp_message.specs.declared.Auth.{Auth}

-- the tokens but for the options of code c
abbrev pub without : ℕ → List Token → List Token
without c [] = []
without c (pad ∷ ts) = pad ∷ without c ts
without c (opt e body ∷ ts) = cond (eqb e c) (without c ts) (opt e body ∷ without c ts)

-- the body of an option with the MAC zero, where it is an option 90
abbrev pub body_zero : ℕ → List ℕ → List ℕ
body_zero e body = cond (eqb e auth_code) (written (mac_at - option_head) (zeros mac_size) body) body

-- the tokens with the MAC of option 90 zero
abbrev pub mac_zero : List Token → List Token
mac_zero [] = []
mac_zero (pad ∷ ts) = pad ∷ mac_zero ts
mac_zero (opt e body ∷ ts) = opt e (body_zero e body) ∷ mac_zero ts

-- hops and giaddr
abbrev pub head_with : List ℕ → List ℕ → List ℕ → List ℕ
head_with hops giaddr header = written giaddr_at giaddr (written hops_at hops header)

-- a header with hops and giaddr zero
abbrev pub head_zero : List ℕ → List ℕ
head_zero header = head_with (zeros hops_size) (zeros giaddr_size) header

abbrev pub image_in : List ℕ → Parsed → List ℕ
image_in header broken = []
image_in header (parsed ts rest) = head_zero header ++ (encode (mac_zero (without relay_code ts)) ++ (end_code ∷ rest))

unfoldable pub image_of : List ℕ → List ℕ
image_of m = image_in (take header_size m) (decode (drop header_size m))

-- whether the stretch of option 82 lies in a message of a length, what is left without it fits a room, and option 90 lies in the message, wholly
-- before the stretch or behind its end
unfoldable pub cover_fits : ℕ → ℕ → Auth → Bool
cover_fits size room a =
    leb (a.cut + a.gap) size
    && (leb (size - a.gap) room
    && (leb (a.at + full_size) size && (leb (a.at + full_size) a.cut || leb (a.cut + a.gap) a.at)))

-- where option 90 stands without the stretch: as many bytes earlier as the stretch has, where the stretch is before option 90
unfoldable pub image_at : Auth → ℕ
image_at a = cond (ltb a.at a.cut) a.at (a.at - a.gap)

-- the message without the stretch, hops, giaddr and the 16 bytes of the MAC zero
unfoldable pub cover_bytes : List ℕ → Auth → List ℕ
cover_bytes m a = written (image_at a + mac_at) (zeros mac_size) (head_zero (take a.cut m ++ drop (a.cut + a.gap) m))

-- what `cover` returns: how many bytes it wrote, None where something doesn't fit
unfoldable pub cover_size : List ℕ → Auth → List ℕ → Option ℕ
cover_size m a out = cond (cover_fits (length m) (length out) a) (Some (length m - a.gap)) None

-- what it leaves: those bytes in front, the rest as it was
unfoldable pub cover_left : List ℕ → Auth → List ℕ → List ℕ
cover_left m a out = cond (cover_fits (length m) (length out) a) (cover_bytes m a ++ drop (length m - a.gap) out) out
