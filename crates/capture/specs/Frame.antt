-- Which part of a frame is judged: docs/RULES.md, 'A recording'. Fields past the frame's end count as 0 here; the tests leave no such frame over.
-- `Carries` (Laws.antt) is the rules' sentence, and `PayloadSays` that they agree.
use Rattle.std.specs.Prelude.{ℕ, ◌+◌, ◌-◌, ◌*◌, ◌/◌, ◌%◌, Bool, cond, ◌&&◌, ◌||◌, List, leb, eqb, length, get_or, take, drop, None, Option, Some}
use Rattle.octets.specs.Numbers.{big_at}
use Rattle.capture.specs.Layout.{field_size, ether_type_at, ether_ipv4, packet_at}
use Rattle.capture.specs.Layout.{ip_header_least, ip_version, ip_word, total_length_at, fragment_at, fragment_below, protocol_at, udp}
use Rattle.capture.specs.Layout.{udp_header_size, source_at, destination_at, length_at, server_port, client_port}
use Rattle.capture.specs.declared.Payload.{Payload}

unfoldable pub field_at : List ℕ → ℕ → ℕ
field_at s at = big_at s at field_size

-- ---- the packet

-- its type is 0800 and its version 4, it carries UDP, and it is no fragment
unfoldable pub is_whole_udp : List ℕ → Bool
is_whole_udp frame =
    eqb (field_at frame ether_type_at) ether_ipv4 && eqb (get_or frame packet_at 0 / 16) ip_version && eqb (get_or frame (packet_at + protocol_at) 0) udp
    && eqb (field_at frame (packet_at + fragment_at) % fragment_below) 0

abbrev pub header_length : List ℕ → ℕ
header_length frame = get_or frame packet_at 0 % 16 * ip_word

abbrev pub total_length : List ℕ → ℕ
total_length frame = field_at frame (packet_at + total_length_at)

-- the header has its least length and lies within the total length, and this within the frame
unfoldable pub lengths_fit : List ℕ → Bool
lengths_fit frame =
    leb ip_header_least (header_length frame) && leb (header_length frame) (total_length frame) && leb (packet_at + total_length frame) (length frame)

-- ---- the datagram, which starts at an offset of the frame

abbrev pub udp_length : List ℕ → ℕ → ℕ
udp_length frame at = field_at frame (at + length_at)

unfoldable pub is_dhcp_port : ℕ → Bool
is_dhcp_port port = eqb port server_port || eqb port client_port

-- its length covers its header and lies within so many bytes, and a port is DHCP's
unfoldable pub is_dhcp : List ℕ → ℕ → ℕ → Bool
is_dhcp frame at room =
    leb udp_header_size (udp_length frame at) && leb (udp_length frame at) room
    && (is_dhcp_port (field_at frame (at + source_at)) || is_dhcp_port (field_at frame (at + destination_at)))

-- from this offset so many bytes
abbrev pub placed_at : (at size : ℕ) → Option Payload
placed_at at size = Some (record { at = at; size = size })

unfoldable pub datagram_place : List ℕ → ℕ → ℕ → Option Payload
datagram_place frame at room = cond (is_dhcp frame at room) (placed_at (at + udp_header_size) (udp_length frame at - udp_header_size)) None

-- ---- the payload

-- where it stands in a frame that had so many bytes
unfoldable pub place_of : List ℕ → ℕ → Option Payload
place_of frame original =
    cond (eqb (length frame) original && is_whole_udp frame && lengths_fit frame)
    (datagram_place frame (packet_at + header_length frame) (total_length frame - header_length frame)) None

abbrev pub bytes_at : List ℕ → Option Payload → Option (List ℕ)
bytes_at frame None = None
bytes_at frame (Some a) = Some (take a.size (drop a.at frame))

-- its bytes, none where the frame is skipped
unfoldable pub payload_of : List ℕ → ℕ → Option (List ℕ)
payload_of frame original = bytes_at frame (place_of frame original)
