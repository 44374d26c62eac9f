-- The definitions on captures at work: a frame whose bytes all count once, what makes it skipped, and a file in either byte order. The proof is
-- proofs/Computed.antt.
use Rattle.std.specs.Prelude.{ℕ, ◌≡◌, true, false, List, [], ◌∷◌, ◌++◌, None, Some}
use Rattle.octets.specs.Bytes.{up_from, zeros}
use Rattle.capture.specs.declared.Order.TheVariants.{LowFirst, HighFirst}
use Rattle.capture.specs.Records.{file_header_of, record_header_of, records_of}
use Rattle.capture.specs.Frame.{place_of, payload_of}
use Rattle.capture.specs.Frame.{placed_at}
use Rattle.capture.specs.Records.{header_with}

-- Addresses and type; an IP header by its first byte, total length, first fragment byte, protocol and options; a UDP header by its ports and length;
-- the payload 7, 8; what the packet has behind it; padding.
abbrev pub frame_with : (first total fragment protocol : ℕ) (options : List ℕ) (source destination size : ℕ) (behind padding : List ℕ) → List ℕ
frame_with first total fragment protocol options source destination size behind padding =
    up_from 101 12 ++ (8 ∷ 0 ∷ [])
    ++ (first ∷ 201 ∷ 0 ∷ total ∷ 202 ∷ 203 ∷ fragment ∷ 0 ∷ 204 ∷ protocol ∷ up_from 205 10 ++ options)
    ++ (0 ∷ source ∷ 0 ∷ destination ∷ 0 ∷ size ∷ 215 ∷ 216 ∷ 7 ∷ 8 ∷ [])
    ++ behind
    ++ padding

-- a file's header by its magic number and its link type, and a record's by its two lengths
abbrev pub file_header : (magic link : List ℕ) → List ℕ
file_header magic link = magic ++ up_from 1 16 ++ link

abbrev pub record_header : (captured original : List ℕ) → List ℕ
record_header captured original = up_from 31 8 ++ captured ++ original

pub record CaptureExamples : Type 0 where
  -- the payload's place and bytes: the least frame, one with IP options, with bytes behind the datagram, with padding, and without a payload
  pub least : place_of (frame_with 0x45 30 0 17 [] 67 99 10 [] []) 44 ≡ placed_at 42 2
  pub least_bytes : payload_of (frame_with 0x45 30 0 17 [] 67 99 10 [] []) 44 ≡ Some (7 ∷ 8 ∷ [])
  pub with_options : payload_of (frame_with 0x46 34 0 17 (up_from 1 4) 67 99 10 [] []) 48 ≡ Some (7 ∷ 8 ∷ [])
  pub bytes_behind : payload_of (frame_with 0x45 31 0 17 [] 67 99 10 (9 ∷ []) []) 45 ≡ Some (7 ∷ 8 ∷ [])
  pub padded : payload_of (frame_with 0x45 30 0 17 [] 67 99 10 [] (9 ∷ [])) 45 ≡ Some (7 ∷ 8 ∷ [])
  pub length_8 : payload_of (frame_with 0x45 30 0 17 [] 67 99 8 [] []) 44 ≡ Some []
  -- either port, either number
  pub from_client : payload_of (frame_with 0x45 30 0 17 [] 68 99 10 [] []) 44 ≡ Some (7 ∷ 8 ∷ [])
  pub to_server : payload_of (frame_with 0x45 30 0 17 [] 99 67 10 [] []) 44 ≡ Some (7 ∷ 8 ∷ [])
  pub to_client : payload_of (frame_with 0x45 30 0 17 [] 99 68 10 [] []) 44 ≡ Some (7 ∷ 8 ∷ [])
  pub other_ports : payload_of (frame_with 0x45 30 0 17 [] 66 69 10 [] []) 44 ≡ None
  -- Don't Fragment and the reserved flag don't count; More Fragments and an offset do
  pub two_flags : payload_of (frame_with 0x45 30 0xc0 17 [] 67 99 10 [] []) 44 ≡ Some (7 ∷ 8 ∷ [])
  pub more_fragments : payload_of (frame_with 0x45 30 0x20 17 [] 67 99 10 [] []) 44 ≡ None
  pub fragment_offset : payload_of (frame_with 0x45 30 0x10 17 [] 67 99 10 [] []) 44 ≡ None
  -- version 6, a header of 16 bytes, TCP, a total length past the frame, a UDP length past it and below 8, another original length
  pub version_6 : payload_of (frame_with 0x65 30 0 17 [] 67 99 10 [] []) 44 ≡ None
  pub header_16 : payload_of (frame_with 0x44 30 0 17 [] 67 99 10 [] []) 44 ≡ None
  pub not_udp : payload_of (frame_with 0x45 30 0 6 [] 67 99 10 [] []) 44 ≡ None
  pub total_past : payload_of (frame_with 0x45 31 0 17 [] 67 99 10 [] []) 44 ≡ None
  pub length_past : payload_of (frame_with 0x45 30 0 17 [] 67 99 11 [] (9 ∷ [])) 45 ≡ None
  pub length_7 : payload_of (frame_with 0x45 30 0 17 [] 67 99 7 [] []) 44 ≡ None
  pub not_whole : payload_of (frame_with 0x45 30 0 17 [] 67 99 10 [] []) 45 ≡ None
  -- the file's header: either order; the link type is a whole word; the nanosecond form's magic number is another
  pub low_first : file_header_of (file_header (0xd4 ∷ 0xc3 ∷ 0xb2 ∷ 0xa1 ∷ []) (1 ∷ 0 ∷ 0 ∷ 0 ∷ [])) ≡ Some LowFirst
  pub high_first : file_header_of (file_header (0xa1 ∷ 0xb2 ∷ 0xc3 ∷ 0xd4 ∷ []) (0 ∷ 0 ∷ 0 ∷ 1 ∷ [])) ≡ Some HighFirst
  pub other_order : file_header_of (file_header (0xd4 ∷ 0xc3 ∷ 0xb2 ∷ 0xa1 ∷ []) (0 ∷ 0 ∷ 0 ∷ 1 ∷ [])) ≡ None
  pub whole_link_type : file_header_of (file_header (0xd4 ∷ 0xc3 ∷ 0xb2 ∷ 0xa1 ∷ []) (1 ∷ 0 ∷ 0 ∷ 16 ∷ [])) ≡ None
  pub nanoseconds : file_header_of (file_header (0x4d ∷ 0x3c ∷ 0xb2 ∷ 0xa1 ∷ []) (1 ∷ 0 ∷ 0 ∷ 0 ∷ [])) ≡ None
  pub short_header : file_header_of (file_header (0xd4 ∷ 0xc3 ∷ 0xb2 ∷ 0xa1 ∷ []) (1 ∷ 0 ∷ 0 ∷ [])) ≡ None
  -- a record's header: the limit from both sides, in either order, and one that is not all there
  pub largest_frame : record_header_of LowFirst (record_header (255 ∷ 255 ∷ 0 ∷ 0 ∷ []) (1 ∷ 2 ∷ 3 ∷ 4 ∷ [])) ≡ header_with 65535 0x0403_0201
  pub largest_high_first : record_header_of HighFirst (record_header (0 ∷ 0 ∷ 255 ∷ 255 ∷ []) (1 ∷ 2 ∷ 3 ∷ 4 ∷ [])) ≡ header_with 65535 0x0102_0304
  pub frame_too_large : record_header_of LowFirst (record_header (0 ∷ 0 ∷ 1 ∷ 0 ∷ []) (0 ∷ 0 ∷ 1 ∷ 0 ∷ [])) ≡ None
  pub short_record : record_header_of LowFirst (record_header (0 ∷ 0 ∷ 0 ∷ 0 ∷ []) (0 ∷ 0 ∷ 0 ∷ [])) ≡ None
  -- a file with records of two bytes and of none; and with a third whose frame lacks its last byte
  pub two_records : records_of (
      file_header (0xa1 ∷ 0xb2 ∷ 0xc3 ∷ 0xd4 ∷ []) (0 ∷ 0 ∷ 0 ∷ 1 ∷ [])
      ++ record_header (0 ∷ 0 ∷ 0 ∷ 2 ∷ []) (0 ∷ 0 ∷ 0 ∷ 9 ∷ [])
      ++ (51 ∷ 52 ∷ [])
      ++ record_header (zeros 4) (zeros 4))
      ≡ Some (record { whole = record { frame = 51 ∷ 52 ∷ []; original = 9 } ∷ record { frame = []; original = 0 } ∷ []; cut = false })
  pub third_cut : records_of (
      file_header (0xd4 ∷ 0xc3 ∷ 0xb2 ∷ 0xa1 ∷ []) (1 ∷ 0 ∷ 0 ∷ 0 ∷ [])
      ++ record_header (2 ∷ 0 ∷ 0 ∷ 0 ∷ []) (9 ∷ 0 ∷ 0 ∷ 0 ∷ [])
      ++ (51 ∷ 52 ∷ [])
      ++ record_header (2 ∷ 0 ∷ 0 ∷ 0 ∷ []) (2 ∷ 0 ∷ 0 ∷ 0 ∷ [])
      ++ (53 ∷ []))
      ≡ Some (record { whole = record { frame = 51 ∷ 52 ∷ []; original = 9 } ∷ []; cut = true })
