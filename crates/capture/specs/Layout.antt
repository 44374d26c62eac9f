-- Where things stand in a classic capture and in its frames, and how large they are. The headers of the file and of a record are those of the pcap file
-- format (pcap-savefile(5)); the rest is Ethernet, RFC 791 (IPv4), RFC 768 (UDP) and RFC 2131, section 4.1 (DHCP's ports).
use Rattle.std.specs.Prelude.{ℕ}

-- ---- the file's header: magic 0, version 4, time zone 8, accuracy 12, snapshot length 16, link type 20

abbrev pub file_header_size : ℕ
file_header_size = 24

-- the bytes of a number in either header
abbrev pub number_size : ℕ
number_size = 4

abbrev pub magic_at : ℕ
magic_at = 0

abbrev pub magic : ℕ
magic = 0xa1b2_c3d4

abbrev pub link_type_at : ℕ
link_type_at = 20

abbrev pub ethernet : ℕ
ethernet = 1

-- ---- a record's header: seconds 0, microseconds 4, captured length 8, original length 12

abbrev pub record_header_size : ℕ
record_header_size = 16

abbrev pub captured_at : ℕ
captured_at = 8

abbrev pub original_at : ℕ
original_at = 12

-- the most bytes of a frame
abbrev pub frame_most : ℕ
frame_most = 65535

-- ---- an Ethernet frame: addresses 0, type 12, packet 14

-- the bytes of a field, here and below, where nothing else is said
abbrev pub field_size : ℕ
field_size = 2

abbrev pub ether_type_at : ℕ
ether_type_at = 12

abbrev pub ether_ipv4 : ℕ
ether_ipv4 = 0x0800

abbrev pub packet_at : ℕ
packet_at = 14

-- ---- an IPv4 packet: version and header length, four bits each, 0; total length 2; flags and fragment offset 6; protocol, a byte, 9

abbrev pub ip_header_least : ℕ
ip_header_least = 20

abbrev pub ip_version : ℕ
ip_version = 4

-- the header length counts words of so many bytes
abbrev pub ip_word : ℕ
ip_word = 4

abbrev pub total_length_at : ℕ
total_length_at = 2

abbrev pub fragment_at : ℕ
fragment_at = 6

-- the field's highest bit is reserved, the next is Don't Fragment; More Fragments and the fragment offset are what is below this
abbrev pub fragment_below : ℕ
fragment_below = 0x4000

abbrev pub protocol_at : ℕ
protocol_at = 9

abbrev pub udp : ℕ
udp = 17

-- ---- a UDP datagram: source port 0, destination port 2, length 4, checksum 6

abbrev pub udp_header_size : ℕ
udp_header_size = 8

abbrev pub source_at : ℕ
source_at = 0

abbrev pub destination_at : ℕ
destination_at = 2

abbrev pub length_at : ℕ
length_at = 4

abbrev pub server_port : ℕ
server_port = 67

abbrev pub client_port : ℕ
client_port = 68
