-- Bench examples 3 to 7 (docs/RULES.md, 'Bench examples'): from example 4 on a message is 236 zeros, the cookie and the named options. Then a
-- message whose bytes differ, with all that is read from it and written over it as bytes, so that every offset, size and code shows.
use Rattle.std.specs.Prelude.{ℕ, ◌≡◌, ◌≢◌, List, [], ◌∷◌, ◌++◌, None, Ok, Option, Some}
use Rattle.octets.specs.Bytes.{zeros, up_from}
use Rattle.dhcp_message.specs.Layout.{cookie_at, magic_cookie}
use Rattle.dhcp_message.specs.Said.{says, said_of, form_of, form_number}
use Rattle.dhcp_message.specs.Image.{image_of, cover_size, cover_left}
use Rattle.dhcp_message.specs.Scan.{scan_of}
use Rattle.dhcp_message.specs.Shape.{shape_of}
use Rattle.dhcp_message.specs.Types.{message_type_of}
use Rattle.dhcp_message.specs.Relay.{RelayBody, Permitted, Relayed}
use Rattle.dhcp_message.specs.Seal.{fields_put, mac_put, sealed_with}
use Rattle.dhcp_message.specs.declared.Auth.{Auth}
use Rattle.dhcp_message.specs.Scan.{scan_to}

abbrev pub message_of : List ℕ → List ℕ
message_of options = zeros cookie_at ++ (magic_cookie ++ options)

-- an option 90 in full form, by its protocol, the last bytes of counter and id, and its MAC
abbrev pub full_auth : ℕ → ℕ → ℕ → List ℕ → List ℕ
full_auth protocol counter id mac = 90 ∷ 31 ∷ protocol ∷ 1 ∷ 0 ∷ 0 ∷ 0 ∷ 0 ∷ 0 ∷ 0 ∷ 0 ∷ 0 ∷ counter ∷ 0 ∷ 0 ∷ 0 ∷ id ∷ mac

abbrev pub some_mac : List ℕ
some_mac = up_from 1 16

-- one full option 90, then 82, then 53
abbrev pub relay_in_the_middle : List ℕ
relay_in_the_middle = message_of (full_auth 1 11 7 some_mac ++ (82 ∷ 1 ∷ 9 ∷ 53 ∷ 1 ∷ 5 ∷ 255 ∷ []))

-- the number of each: that of the lowest of checks 2 to 9 that applies, 0 where none does
pub record BenchExamples : Type 0 where
  pub example_3_short : form_number (form_of (zeros 240)) ≡ 2
  pub example_3_long : form_number (form_of (zeros 1473)) ≡ 2
  pub example_3_passes : form_number (form_of (zeros 1472)) ≢ 2
  pub example_4 : form_number (form_of (message_of (53 ∷ 1 ∷ 5 ∷ 255 ∷ []))) ≡ 5
  pub example_5 : form_number (form_of (message_of (90 ∷ 31 ∷ zeros 30))) ≡ 4
  -- option 82 in the middle: none of 2 to 9 (demands/specs/Bench.antt says what a check gives it)
  pub example_6 : form_number (form_of relay_in_the_middle) ≡ 0
  pub example_7_request : form_number (form_of (message_of (90 ∷ 11 ∷ 1 ∷ 1 ∷ 0 ∷ (zeros 8 ++ (255 ∷ []))))) ≡ 9
  pub example_7_protocol : form_number (form_of (message_of (full_auth 0 11 7 some_mac ++ (255 ∷ [])))) ≡ 8

-- ---- a message whose bytes differ

-- a header whose bytes are 1 to 236 but for hops (byte 3) and giaddr (bytes 24 to 27), the cookie, and these options
abbrev pub headed_by : ℕ → List ℕ → List ℕ → List ℕ
headed_by hops giaddr options = 1 ∷ 2 ∷ 3 ∷ hops ∷ (up_from 5 20 ++ (giaddr ++ (up_from 29 208 ++ (99 ∷ 130 ∷ 83 ∷ 99 ∷ options))))

-- hops and giaddr in their turn: all 236 bytes differ
abbrev pub distinct_of : List ℕ → List ℕ
distinct_of options = headed_by 4 (up_from 25 4) options

-- a header that a relay changed
abbrev pub relayed_of : List ℕ → List ℕ
relayed_of options = headed_by 250 (up_from 251 4) options

-- a host name that holds 90, 82 and 255; an option 82, or nothing; a pad; an option 90 that holds 28 bytes behind its method; an option 82, or
-- nothing; a pad; End; and an option 82 after it
abbrev pub options_with : List ℕ → List ℕ → List ℕ → List ℕ
options_with early sealed late = 12 ∷ 3 ∷ 90 ∷ 82 ∷ 255 ∷ (early ++ (0 ∷ 90 ∷ 31 ∷ 1 ∷ 1 ∷ 0 ∷ (sealed ++ (late ++ (0 ∷ 255 ∷ 82 ∷ 0 ∷ [])))))

abbrev pub some_relay : List ℕ
some_relay = 82 ∷ 2 ∷ 90 ∷ 9 ∷ []

-- counter 201 to 208, id 209 to 212, MAC 213 to 228
abbrev pub distinct : List ℕ
distinct = distinct_of (options_with [] (up_from 201 28) some_relay)

abbrev pub distinct_auth : Auth
distinct_auth = record { at = 246; counter = 0xc9ca_cbcc_cdce_cfd0; id = 0xd1d2_d3d4; cut = 279; gap = 4 }

-- the same with option 82 before option 90
abbrev pub early : List ℕ
early = distinct_of (options_with some_relay (up_from 201 28) [])

abbrev pub early_auth : Auth
early_auth = record { at = 250; counter = 0xc9ca_cbcc_cdce_cfd0; id = 0xd1d2_d3d4; cut = 245; gap = 4 }

-- the image of both
abbrev pub distinct_image : List ℕ
distinct_image = headed_by 0 (zeros 4) (options_with [] (up_from 201 12 ++ zeros 16) [])

-- how many bytes `cover` writes for these offsets in 40 bytes
abbrev pub covered_of40 : ℕ → ℕ → ℕ → Option ℕ
covered_of40 at cut gap = cover_size (zeros 40) (record { at = at; counter = 0; id = 0; cut = cut; gap = gap }) (zeros 40)

-- Every number of Layout by what it does to these bytes: another one gives something else here, or in `BenchExamples` (1,472). Nothing is said
-- through Layout's names.
pub record LayoutPinned : Type 0 where
  pub form : form_of distinct ≡ Ok distinct_auth
  pub scanned : scan_of distinct ≡ scan_to (record { n90 = 1; at90 = 246; n82 = 1; at82 = 279; size82 = 4 }) 284
  pub said : said_of distinct ≡ says 0xc9ca_cbcc_cdce_cfd0 0xd1d2_d3d4 (up_from 213 16)
  pub image : image_of distinct ≡ distinct_image
  -- an option 90 in full form takes 33 bytes, right before option 82 or right behind it; a byte less before or behind that, or up to the end, is too
  -- few
  pub covers_before : covered_of40 0 33 7 ≡ Some 33
  pub covers_into : covered_of40 0 32 7 ≡ None
  pub covers_behind : covered_of40 7 0 7 ≡ Some 33
  pub covers_out_of : covered_of40 6 0 7 ≡ None
  pub covers_past_the_end : covered_of40 8 0 7 ≡ None
  -- what stands before: checks 2 to 7 alone
  pub shape : shape_of distinct ≡ Ok (record { at = 246; cut = 279; gap = 4 })
  -- the message type: one option 53 of one byte states it, wherever it stands; two, or one of another size, state nothing
  pub type_stated : message_type_of (distinct_of (12 ∷ 1 ∷ 53 ∷ 0 ∷ 53 ∷ 1 ∷ 9 ∷ 90 ∷ 0 ∷ 255 ∷ [])) ≡ Some 9
  pub type_twice : message_type_of (distinct_of (53 ∷ 1 ∷ 5 ∷ 53 ∷ 1 ∷ 5 ∷ 255 ∷ [])) ≡ None
  pub type_longer : message_type_of (distinct_of (53 ∷ 2 ∷ 5 ∷ 5 ∷ 255 ∷ [])) ≡ None
  pub type_empty : message_type_of (distinct_of (53 ∷ 0 ∷ 255 ∷ [])) ≡ None
  pub type_missing : message_type_of (distinct_of (12 ∷ 1 ∷ 53 ∷ 255 ∷ [])) ≡ None
  -- what a seal writes, and where
  pub fields_put_lem : fields_put (zeros 28) 0xc9ca_cbcc_cdce_cfd0 0xd1d2_d3d4 ≡ up_from 201 12 ++ zeros 16
  pub mac_put_lem : mac_put (zeros 28) (up_from 213 16) ≡ zeros 12 ++ up_from 213 16
  pub sealed : sealed_with distinct_auth (up_from 101 28) distinct ≡ distinct_of (options_with [] (up_from 101 28) some_relay)
  -- the same where option 82 stands before option 90
  pub early_form : form_of early ≡ Ok early_auth
  pub early_image : image_of early ≡ distinct_image
  pub early_covered : cover_left early early_auth (zeros 290) ≡ distinct_image ++ zeros 7
  pub early_sealed : sealed_with early_auth (up_from 101 28) early ≡ distinct_of (options_with some_relay (up_from 101 28) [])
  -- what a relay may make of it
  pub relay_replaces : Permitted distinct (relayed_of (options_with [] (up_from 201 28) (82 ∷ 1 ∷ 7 ∷ [])))
  pub relay_removes : Permitted distinct (relayed_of (options_with [] (up_from 201 28) []))
  pub relay_adds_last : Permitted (distinct_of (90 ∷ 0 ∷ 255 ∷ [])) (relayed_of (90 ∷ 0 ∷ 82 ∷ 1 ∷ 7 ∷ 255 ∷ []))
  pub relay_adds_first : Permitted (distinct_of (90 ∷ 0 ∷ 255 ∷ [])) (relayed_of (82 ∷ 1 ∷ 7 ∷ 90 ∷ 0 ∷ 255 ∷ []))
  pub relay_moves : Relayed distinct (relayed_of (options_with some_relay (up_from 201 28) []))
  -- the longest body
  pub relay_body_255 : RelayBody (zeros 255)
  pub relay_body_256 : RelayBody (zeros 256) → ⊥
  -- a message for each number: 240 bytes are too few, 241 are not
  pub number_0 : form_number (form_of distinct) ≡ 0
  pub number_2 : form_number (form_of (distinct_of [])) ≡ 2
  pub number_3 : form_number (form_of (up_from 1 241)) ≡ 3
  pub number_4 : form_number (form_of (distinct_of (12 ∷ 2 ∷ 90 ∷ []))) ≡ 4
  pub number_5 : form_number (form_of (distinct_of (255 ∷ []))) ≡ 5
  pub number_6 : form_number (form_of (distinct_of (90 ∷ 0 ∷ 90 ∷ 0 ∷ 255 ∷ []))) ≡ 6
  pub number_7 : form_number (form_of (distinct_of (82 ∷ 0 ∷ 90 ∷ 0 ∷ 82 ∷ 0 ∷ 255 ∷ []))) ≡ 7
  pub number_8 : form_number (form_of (distinct_of (90 ∷ 0 ∷ 255 ∷ []))) ≡ 8
  pub number_9 : form_number (form_of (distinct_of (90 ∷ 11 ∷ 1 ∷ 1 ∷ 0 ∷ (up_from 1 8 ++ (255 ∷ []))))) ≡ 9
