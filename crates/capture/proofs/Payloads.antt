-- `PayloadSays`: a frame has a payload where it is made of the parts of `Carries`, and only there. Where the parts stand the frame's fields are theirs
-- (proofs/Parts.antt), so that the facts of `HasPayload` (proofs/Frames.antt) and of `Carries` are the same.
use Prim.Native.Nat.{ℕ, ◌+◌, ◌-◌, ◌/◌, ◌%◌, ◌^◌, ◌≤◌}
use mathlib.Core.Path.{◌≡◌, refl, sym, ap, subst, ◌∙◌}
use mathlib.Core.Logic.{◌↔◌}
use mathlib.Core.List.{List, [], ◌∷◌, ◌++◌}
use native.Mathlib.Omega.{arith}
use lib.ListN.{length, get_or, take, drop, length-append}
use Rattle.octets.specs.Bytes.{Bytes}
use Rattle.octets.specs.Numbers.{be, big_at}
use Rattle.capture.specs.Layout.{field_size, ether_type_at, ether_ipv4, packet_at, ip_header_least, total_length_at, fragment_at, fragment_below, protocol_at}
use Rattle.capture.specs.Layout.{udp_header_size, source_at, destination_at, length_at}
use Rattle.capture.specs.Frame.{field_at, header_length, total_length, udp_length}
use Rattle.capture.specs.Laws.{Carries, PayloadSays}
use Rattle.capture.proofs.Parts.{Stands, stands_first, stands_next, stands_at, stands_big, stands_part}
use Rattle.capture.proofs.Parts.{part, onward, onward_all, part_is, part_length, part_then, be_big}
use Rattle.capture.proofs.Frames.{field_is, HasPayload, datagram_at, datagram_room, payload_at, payload_size, payload_is}

-- More Fragments and the offset are the fourteen lowest bits
fragment_bits : (n : ℕ) → (n % fragment_below ≡ 0) ↔ ((n / 2 ^ 13 % 2 ≡ 0) × (n % 2 ^ 13 ≡ 0))
fragment_bits n = (λ h. (omega arith, omega arith), λ h. omega (arith, h.0, h.1))

-- a field of a part is the frame's
field_in : {s : List ℕ} {at : ℕ} {m rest : List ℕ} → Stands s at m rest → (i : ℕ) → i + field_size ≤ length m → big_at m i field_size ≡ field_at s (at + i)
field_in {s = s} {at = at} st i h = sym (stands_big st i field_size h) ∙ field_is s (at + i)

-- what a frame of such parts has in its fields and at the payload's place; `kind` is the two bytes of its type
record Read (frame kind ip udp payload : List ℕ) : Type 0 where
  type : big_at kind 0 field_size ≡ field_at frame ether_type_at
  first : get_or ip 0 0 ≡ get_or frame packet_at 0
  total : big_at ip total_length_at field_size ≡ total_length frame
  fragment : big_at ip fragment_at field_size ≡ field_at frame (packet_at + fragment_at)
  protocol : get_or ip protocol_at 0 ≡ get_or frame (packet_at + protocol_at) 0
  source : big_at udp source_at field_size ≡ field_at frame (packet_at + length ip + source_at)
  destination : big_at udp destination_at field_size ≡ field_at frame (packet_at + length ip + destination_at)
  size : big_at udp length_at field_size ≡ udp_length frame (packet_at + length ip)
  bytes : take (length payload) (drop (packet_at + length ip + udp_header_size) frame) ≡ payload

module _ (addresses kind ip udp payload rest : List ℕ) (ha : length addresses ≡ ether_type_at) (hk : length kind ≡ field_size)
    (hi : ip_header_least ≤ length ip)
    (hu : length udp ≡ udp_header_size) where
  abbrev joined : List ℕ
  joined = addresses ++ (kind ++ (ip ++ (udp ++ (payload ++ rest))))

  kind_stands : Stands joined ether_type_at kind (ip ++ (udp ++ (payload ++ rest)))
  kind_stands = stands_next (stands_first addresses _) ether_type_at (omega arith)

  ip_stands : Stands joined packet_at ip (udp ++ (payload ++ rest))
  ip_stands = stands_next kind_stands packet_at (omega arith)

  udp_stands : Stands joined (packet_at + length ip) udp (payload ++ rest)
  udp_stands = stands_next ip_stands _ refl

  payload_stands : Stands joined (packet_at + length ip + udp_header_size) payload rest
  payload_stands = stands_next udp_stands _ (omega arith)

  read : Read joined kind ip udp payload
  read = record {
    type = field_in kind_stands 0 (omega arith);
    first = sym (stands_at ip_stands 0 (omega arith));
    total = field_in ip_stands total_length_at (omega arith);
    fragment = field_in ip_stands fragment_at (omega arith);
    protocol = sym (stands_at ip_stands protocol_at (omega arith));
    source = field_in udp_stands source_at (omega arith);
    destination = field_in udp_stands destination_at (omega arith);
    size = field_in udp_stands length_at (omega arith);
    bytes = stands_part payload_stands _ refl;
  }

  read_from : (frame : List ℕ) → frame ≡ joined → Read frame kind ip udp payload
  read_from frame e = subst (λ (f : List ℕ). Read f kind ip udp payload) (sym e) read

-- the type 0800 as bytes
abbrev ipv4 : List ℕ
ipv4 = 8 ∷ 0 ∷ []

ipv4_bytes : be field_size ether_ipv4 ≡ ipv4
unfolding be
ipv4_bytes = refl

ipv4_number : big_at ipv4 0 field_size ≡ ether_ipv4
unfolding big_at
ipv4_number = refl

-- ---- a frame that has a payload, taken apart

module _ (frame : List ℕ) (b : Bytes frame) (original : ℕ) (h : HasPayload frame original) where
  abbrev unused : ℕ
  unused = datagram_room frame - udp_length frame (datagram_at frame)

  abbrev addresses_part : List ℕ
  addresses_part = part frame 0 ether_type_at

  abbrev ip_part : List ℕ
  ip_part = part frame packet_at (header_length frame)

  abbrev udp_part : List ℕ
  udp_part = part frame (datagram_at frame) udp_header_size

  abbrev payload_part : List ℕ
  payload_part = part frame (payload_at frame) (payload_size frame)

  abbrev behind_part : List ℕ
  behind_part = part frame (payload_at frame + payload_size frame) unused

  abbrev padding_part : List ℕ
  padding_part = onward frame (payload_at frame + payload_size frame + unused)

  kind_is : part frame ether_type_at field_size ≡ ipv4
  kind_is = sym (be_big frame b ether_type_at field_size (omega arith)) ∙ ap (be field_size) (field_is frame ether_type_at ∙ h.fits.whole.type) ∙ ipv4_bytes

  apart : frame ≡ addresses_part ++ (ipv4 ++ (ip_part ++ (udp_part ++ (payload_part ++ (behind_part ++ padding_part)))))
  apart =
      sym (onward_all frame)
      ∙ part_then frame 0 ether_type_at _
      (part_then frame ether_type_at field_size _
      (part_then frame packet_at (header_length frame) _
      (part_then frame (datagram_at frame) udp_header_size _
      (part_then frame (payload_at frame) (payload_size frame) _
      (part_then frame (payload_at frame + payload_size frame) unused _ refl)))))
      ∙ ap (λ (k : List ℕ). addresses_part ++ (k ++ (ip_part ++ (udp_part ++ (payload_part ++ (behind_part ++ padding_part)))))) kind_is

  carries : Carries frame original payload_part
  carries =
      let la = part_length frame 0 ether_type_at (omega arith) in
      let li = part_length frame packet_at (header_length frame) (omega arith) in
      let lu = part_length frame (datagram_at frame) udp_header_size (omega arith) in
      let lp = part_length frame (payload_at frame) (payload_size frame) (omega arith) in
      let lb = part_length frame (payload_at frame + payload_size frame) unused (omega arith) in
      let r = read_from addresses_part ipv4 ip_part udp_part payload_part (behind_part ++ padding_part) la refl (omega arith) lu frame apart in
      let at : packet_at + length ip_part ≡ datagram_at frame = omega arith in
      let bits = (fragment_bits _).0 (ap (λ (n : ℕ). n % fragment_below) r.fragment ∙ h.fits.whole.fragment) in
      record {
        addresses = addresses_part;
        ip_header = ip_part;
        udp_header = udp_part;
        behind = behind_part;
        padding = padding_part;
        lengths_equal = h.fits.all_there;
        parts = apart;
        addresses_size = la;
        version = omega arith;
        header_covers = omega arith;
        header_least = omega arith;
        total_covers = simp length-append (omega arith);
        is_udp = omega arith;
        no_more_fragments = bits.0;
        no_offset = bits.1;
        udp_header_size_lem = lu;
        length_covers = simp length-append (omega (arith, r.size ∙ ap (udp_length frame) at));
        port = rw (r.source, r.destination, at) h.dhcp.port;
      }

-- ---- a frame made of such parts

module _ (frame : List ℕ) (original : ℕ) (payload : List ℕ) (c : Carries frame original payload) where
  there : Read frame ipv4 c.ip_header c.udp_header payload
  there =
      read_from c.addresses ipv4 c.ip_header c.udp_header payload (c.behind ++ c.padding) c.addresses_size refl c.header_least
      c.udp_header_size_lem frame c.parts

  at_is : packet_at + length c.ip_header ≡ datagram_at frame
  at_is = let r = there in let k = c.header_covers in omega arith

  size_is : udp_length frame (datagram_at frame) ≡ udp_header_size + length payload
  size_is =
      let u = c.udp_header_size_lem in
      let l = simp length-append at c.length_covers in
      omega (arith, there.size ∙ ap (udp_length frame) at_is)

  has_payload : HasPayload frame original
  has_payload =
      let r = there in
      let s = size_is in
      let t = simp length-append at c.total_covers in
      let l = simp length-append at (ap length c.parts) in
      let a = at_is in
      record {
        fits = record {
          all_there = c.lengths_equal;
          whole = record {
            type = sym r.type ∙ ipv4_number;
            version = omega arith;
            protocol = omega arith;
            fragment = ap (λ (n : ℕ). n % fragment_below) (sym r.fragment) ∙ (fragment_bits _).1 (c.no_more_fragments, c.no_offset);
          };
          lengths = record { header_least = omega arith; header_within = omega arith; total_within = omega arith };
        };
        dhcp = record {
          header_covered = omega arith;
          within = omega arith;
          port = rw (← a, ← r.source, ← r.destination) c.port;
        };
      }

  bytes_are : take (payload_size frame) (drop (payload_at frame) frame) ≡ payload
  bytes_are =
      let s = size_is in
      let n : payload_size frame ≡ length payload = omega arith in
      rw (n, ← at_is) there.bytes

pub payload_says : PayloadSays
payload_says frame b original payload = (
  λ e. let h = (payload_is frame original payload).0 e in subst (Carries frame original) (part_is frame _ _ ∙ h.1) (carries frame b original h.0),
  λ c. (payload_is frame original payload).1 (has_payload frame original payload c, bytes_are frame original payload c),
)
