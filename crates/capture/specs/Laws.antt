-- What the definitions on headers, records and frames mean, in the rules' words (docs/RULES.md, 'A recording'): closed statements, proved in
-- proofs/Headers.antt, Records.antt and Payloads.antt.
use Rattle.std.specs.Prelude.{ℕ, ◌+◌, ◌*◌, ◌/◌, ◌%◌, ◌^◌, ◌≤◌, ◌<◌, ◌≡◌, ◌↔◌, ◌⊎◌, List, [], ◌∷◌, ◌++◌, length, get_or, None, Some}
use Rattle.octets.specs.Bytes.{Bytes}
use Rattle.octets.specs.Numbers.{big_at}
use Rattle.capture.specs.Layout.{file_header_size, magic_at, magic, link_type_at, ethernet, record_header_size, captured_at, original_at, frame_most}
use Rattle.capture.specs.Layout.{ether_type_at, ip_header_least, ip_version, ip_word, total_length_at, fragment_at, protocol_at, udp}
use Rattle.capture.specs.Layout.{udp_header_size, source_at, destination_at, length_at, server_port, client_port}
use Rattle.capture.specs.declared.Order.{Order}
use Rattle.capture.specs.Records.{number_at, file_header_of, record_header_of, at_end, cut_here, before, records_from, records_of}
use Rattle.capture.specs.Frame.{payload_of}
use Rattle.capture.specs.Records.{header_with}

-- ---- the file's header

-- the bytes begin with the header of a classic capture of Ethernet frames, its numbers in this order
pub record IsCapture (order : Order) (s : List ℕ) : Type 0 where
  pub header_there : file_header_size ≤ length s
  pub first_word : number_at order s magic_at ≡ magic
  pub link_type : number_at order s link_type_at ≡ ethernet

abbrev pub HeaderSays : Type 0
HeaderSays = (s : List ℕ) → Bytes s → (order : Order) → (file_header_of s ≡ Some order) ↔ IsCapture order s

-- ---- a record's header

-- the bytes begin with a record's header that gives these lengths
pub record IsRecord (order : Order) (s : List ℕ) (captured original : ℕ) : Type 0 where
  pub header_there : record_header_size ≤ length s
  pub captured_length : number_at order s captured_at ≡ captured
  pub captured_most : captured ≤ frame_most
  pub original_length : number_at order s original_at ≡ original

pub record RecordHeaderSays : Type 0 where
  pub record_there : (order : Order) (s : List ℕ) (captured original : ℕ)
      → (record_header_of order s ≡ header_with captured original) ↔ IsRecord order s captured original
  pub cut_there : (order : Order) (s : List ℕ)
      → (record_header_of order s ≡ None) ↔ ((length s < record_header_size) ⊎ (frame_most < number_at order s captured_at))

-- ---- the records

pub record RecordsSay : Type 0 where
  -- behind the file's header
  pub at_end_lem : (order : Order) → records_from order [] ≡ at_end
  pub header_cut : (order : Order) (s : List ℕ) → 0 < length s → length s < record_header_size → records_from order s ≡ cut_here
  pub too_long : (order : Order) (s : List ℕ) → record_header_size ≤ length s → frame_most < number_at order s captured_at → records_from order s ≡ cut_here
  pub frame_cut : (order : Order) (s : List ℕ) → record_header_size ≤ length s → length s < record_header_size + number_at order s captured_at
      → records_from order s ≡ cut_here
  pub next : (order : Order) (header frame rest : List ℕ) → length header ≡ record_header_size → number_at order header captured_at ≡ length frame
      → length frame ≤ frame_most
      → records_from order (header ++ (frame ++ rest)) ≡ before (record { frame = frame; original = number_at order header original_at })
      (records_from order rest)
  -- the whole file
  pub short_header : (file : List ℕ) → length file < file_header_size → records_of file ≡ None
  pub other_header : (header rest : List ℕ) → length header ≡ file_header_size → file_header_of header ≡ None → records_of (header ++ rest) ≡ None
  pub behind_header : (order : Order) (header rest : List ℕ) → length header ≡ file_header_size → file_header_of header ≡ Some order
      → records_of (header ++ rest) ≡ Some (records_from order rest)

-- ---- the payload

abbrev pub DhcpPort : ℕ → Type 0
DhcpPort port = (port ≡ server_port) ⊎ (port ≡ client_port)

-- A frame that had so many bytes carries the payload: both record lengths are equal, and it is made of the Ethernet addresses, the type 0800, the IP
-- header, the UDP header, the payload, what the IP packet has behind the datagram, and padding. Each length field gives the length of what it covers:
-- the IP header length that of the header, the total length that of the packet, the UDP length that of the datagram.
pub record Carries (frame : List ℕ) (original : ℕ) (payload : List ℕ) : Type 0 where
  pub addresses : List ℕ
  pub ip_header : List ℕ
  pub udp_header : List ℕ
  pub behind : List ℕ
  pub padding : List ℕ
  pub lengths_equal : length frame ≡ original
  pub parts : frame ≡ addresses ++ ((8 ∷ 0 ∷ []) ++ (ip_header ++ (udp_header ++ (payload ++ (behind ++ padding)))))
  pub addresses_size : length addresses ≡ ether_type_at
  pub version : get_or ip_header 0 0 / 16 ≡ ip_version
  pub header_covers : get_or ip_header 0 0 % 16 * ip_word ≡ length ip_header
  pub header_least : ip_header_least ≤ length ip_header
  pub total_covers : big_at ip_header total_length_at 2 ≡ length (ip_header ++ (udp_header ++ (payload ++ behind)))
  pub is_udp : get_or ip_header protocol_at 0 ≡ udp
  -- of the 16 bits, from the highest: reserved, Don't Fragment, More Fragments, and thirteen of the offset
  pub no_more_fragments : big_at ip_header fragment_at 2 / 2 ^ 13 % 2 ≡ 0
  pub no_offset : big_at ip_header fragment_at 2 % 2 ^ 13 ≡ 0
  pub udp_header_size_lem : length udp_header ≡ udp_header_size
  pub length_covers : big_at udp_header length_at 2 ≡ length (udp_header ++ payload)
  pub port : DhcpPort (big_at udp_header source_at 2) ⊎ DhcpPort (big_at udp_header destination_at 2)

abbrev pub PayloadSays : Type 0
PayloadSays = (frame : List ℕ) → Bytes frame → (original : ℕ) (payload : List ℕ) → (payload_of frame original ≡ Some payload) ↔ Carries frame original payload
