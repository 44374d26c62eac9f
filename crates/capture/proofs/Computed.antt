-- specs/Examples.antt, computed.
use mathlib.Core.Path.{refl}
use Rattle.octets.specs.Numbers.{value, little_at, big_at}
use Rattle.capture.specs.Records.{number_at, is_ethernet, file_header_of, record_header_of, records_to, records_from, records_of}
use Rattle.capture.specs.Frame.{field_at, is_whole_udp, lengths_fit, is_dhcp_port, is_dhcp, datagram_place, place_of, payload_of}
use Rattle.capture.specs.Examples.{CaptureExamples}

pub capture_examples : CaptureExamples
unfolding value little_at big_at number_at is_ethernet file_header_of record_header_of records_to records_from records_of field_at is_whole_udp
    lengths_fit is_dhcp_port
    is_dhcp datagram_place place_of payload_of
capture_examples = record {
  least = refl;
  least_bytes = refl;
  with_options = refl;
  bytes_behind = refl;
  padded = refl;
  length_8 = refl;
  from_client = refl;
  to_server = refl;
  to_client = refl;
  other_ports = refl;
  two_flags = refl;
  more_fragments = refl;
  fragment_offset = refl;
  version_6 = refl;
  header_16 = refl;
  not_udp = refl;
  total_past = refl;
  length_past = refl;
  length_7 = refl;
  not_whole = refl;
  low_first = refl;
  high_first = refl;
  other_order = refl;
  whole_link_type = refl;
  nanoseconds = refl;
  short_header = refl;
  largest_frame = refl;
  largest_high_first = refl;
  frame_too_large = refl;
  short_record = refl;
  two_records = refl;
  third_cut = refl;
}
