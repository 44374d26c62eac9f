-- Checks 2 to 7 with what they find: where option 90 stands, and the stretch that option 82 takes. Delayed authentication (specs/Said.antt) and
-- authentication by a nonce (crate forcerenew) both begin so. What it says in the rules' words is `ShapeGiven` of specs/Numbers.antt.
use Rattle.std.specs.Prelude.{ℕ, List, length, Err, Ok, Result}
use Rattle.dhcp_message.specs.Layout.{relay_code, auth_code}
use Rattle.dhcp_message.specs.Options.{Token}
use Rattle.dhcp_message.specs.Message.{option_of, offset_of, Checked, stopped, passed, checked_of}
use Rattle.dhcp_message.specs.declared.Places.{Places}
use Rattle.refusal.specs.declared.Refusal.{Refusal}

-- where option 90 stands, and the stretch that option 82 takes: nothing, right before End, where there is none
abbrev pub places_of : List Token → Places
places_of ts = record { at = offset_of auth_code ts; cut = offset_of relay_code ts; gap = length (option_of relay_code ts) }

abbrev pub shape_in : Checked → Result Places Refusal
shape_in (stopped r) = Err r
shape_in (passed ts rest) = Ok (places_of ts)

-- the lowest of 2 to 7 that applies, or the places of a message that passes them
unfoldable pub shape_of : List ℕ → Result Places Refusal
shape_of m = shape_in (checked_of m)
