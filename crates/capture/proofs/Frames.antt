-- What the tests on a frame mean: for each a record of facts, which holds where the test is true and only there. So a frame is refused where a fact of
-- the record fails. The only law file that unfolds the definitions of specs/Frame.antt.
use Prim.Native.Nat.{ℕ, ◌+◌, ◌-◌, ◌/◌, ◌%◌, ◌≤◌}
use mathlib.Core.Path.{◌≡◌, refl, sym, ap, ◌∙◌}
use mathlib.Core.Logic.{◌↔◌, ◌≢◌, ◌⊎◌, inl, inr, ⊎_elim}
use mathlib.Core.Bool.{Bool, true, false, cond, not, ◌&&◌, ◌||◌, true≢false, false≢true, and-eq-true_iff}
use mathlib.Core.List.{List}
use native.Mathlib.Omega.{arith}
use borrow.Author.Tests.{le-leb, leb-true, eq-eqb, ne_eqb, eqb-true, not-true, not-false}
use lib.Dec.{leb, eqb}
use lib.ListN.{length, get_or, take, drop}
use Rattle.octets.specs.Numbers.{big_at}
use Rattle.capture.specs.Layout.{field_size, ether_type_at, ether_ipv4, packet_at, ip_header_least, ip_version, fragment_at, fragment_below, protocol_at, udp}
use Rattle.capture.specs.Layout.{udp_header_size, source_at, destination_at, server_port, client_port}
use Rattle.capture.specs.Laws.{DhcpPort}
use Rattle.capture.specs.Frame.{field_at, is_whole_udp, header_length, total_length, lengths_fit, udp_length, is_dhcp_port, is_dhcp, datagram_place}
use Rattle.capture.specs.Frame.{place_of, bytes_at, payload_of}
use Rattle.capture.specs.Frame.{placed_at}
use Rattle.capture.specs.declared.Payload.{Payload}
use Rattle.std.specs.Prelude.{None, Option, Some}
use Rattle.std.proofs.lemmas.Option.{same_Some, none-some}

-- ---- tests and facts

leb_says : (m n : ℕ) → (leb m n ≡ true) ↔ (m ≤ n)
leb_says m n = (leb-true m n, le-leb m n)

eqb_says : (m n : ℕ) → (eqb m n ≡ true) ↔ (m ≡ n)
eqb_says m n = (eqb-true m n, eq-eqb m n)

either_says : {P Q : Type 0} (a b : Bool) → (a ≡ true) ↔ P → (b ≡ true) ↔ Q → ((a || b) ≡ true) ↔ (P ⊎ Q)
either_says true b p q = (λ e. inl (p.0 refl), λ s. refl)
either_says false b p q = (λ e. inr (q.0 e), ⊎_elim (λ x. absurd (false≢true (p.1 x))) q.1)

-- a conjunction by its first part
pub and_where_true : {a : Bool} (b : Bool) → a ≡ true → b ≡ (a && b)
and_where_true b e = rw e

pub and_where_false : {a : Bool} (b : Bool) → a ≡ false → a ≡ (a && b)
and_where_false b e = rw e

refuted : {P : Type 0} (t : Bool) → (t ≡ true) ↔ P → (P → ⊥) → t ≡ false
refuted true s n = absurd (n (s.0 refl))
refuted false s n = refl

-- what a branch of the code on a test's answer knows
module _ {P : Type 0} (t u : Bool) (s : (u ≡ true) ↔ P) (e : t ≡ u) where
  pub denied : not t ≡ true → P → ⊥
  denied h p = true≢false (sym (s.1 p) ∙ sym e ∙ not-true t h)

  pub granted : not t ≡ false → P
  granted h = s.0 (sym e ∙ not-false t h)

-- a field by octets' number
pub field_is : (s : List ℕ) (at : ℕ) → big_at s at field_size ≡ field_at s at
unfolding field_at
field_is s at = refl

-- ---- the packet

pub record WholeUdp (frame : List ℕ) : Type 0 where
  pub type : field_at frame ether_type_at ≡ ether_ipv4
  pub version : get_or frame packet_at 0 / 16 ≡ ip_version
  pub protocol : get_or frame (packet_at + protocol_at) 0 ≡ udp
  pub fragment : field_at frame (packet_at + fragment_at) % fragment_below ≡ 0

pub record LengthsFit (frame : List ℕ) : Type 0 where
  pub header_least : ip_header_least ≤ header_length frame
  pub header_within : header_length frame ≤ total_length frame
  pub total_within : packet_at + total_length frame ≤ length frame

module _ (frame : List ℕ) where
  pub whole_udp_says : (is_whole_udp frame ≡ true) ↔ WholeUdp frame
  unfolding is_whole_udp
  whole_udp_says = (
    λ e. let t = simp (and-eq-true_iff, eqb_says) at e in record { type = t.0.0.0; version = t.0.0.1; protocol = t.0.1; fragment = t.1 },
    λ w. simp (and-eq-true_iff, eqb_says) (((w.type, w.version), w.protocol), w.fragment),
  )

  -- the first two tests, and the first three
  abbrev pub type_and_version : Bool
  type_and_version = eqb (field_at frame ether_type_at) ether_ipv4 && eqb (get_or frame packet_at 0 / 16) ip_version

  abbrev pub before_fragment : Bool
  before_fragment = type_and_version && eqb (get_or frame (packet_at + protocol_at) 0) udp

  module _ (t : Bool) (e : t ≡ before_fragment) where
    pub not_whole : t ≡ false → t ≡ is_whole_udp frame
    unfolding is_whole_udp
    not_whole h = rw (sym e, h)

    -- where the last test decides
    pub whole_by_fragment : t ≡ true → (fragment : ℕ) → fragment ≡ field_at frame (packet_at + fragment_at)
        → eqb (fragment % fragment_below) 0 ≡ is_whole_udp frame
    unfolding is_whole_udp
    whole_by_fragment h fragment f = rw (sym e, h, f)

  lengths_say : (lengths_fit frame ≡ true) ↔ LengthsFit frame
  unfolding lengths_fit
  lengths_say = (
    λ e. let t = simp (and-eq-true_iff, leb_says) at e in record { header_least = t.0.0; header_within = t.0.1; total_within = t.1 },
    λ f. simp (and-eq-true_iff, leb_says) ((f.header_least, f.header_within), f.total_within),
  )

-- ---- the datagram

module _ (port : ℕ) where
  pub port_says : (is_dhcp_port port ≡ true) ↔ DhcpPort port
  unfolding is_dhcp_port
  port_says = either_says _ _ (eqb_says _ _) (eqb_says _ _)

  pub server_port_lem : port ≡ server_port → true ≡ is_dhcp_port port
  server_port_lem e = sym (port_says.1 (inl e))

  pub other_port : port ≢ server_port → eqb port client_port ≡ is_dhcp_port port
  unfolding is_dhcp_port
  other_port n = rw (ne_eqb _ _ n)

pub record Dhcp (frame : List ℕ) (at room : ℕ) : Type 0 where
  pub header_covered : udp_header_size ≤ udp_length frame at
  pub within : udp_length frame at ≤ room
  pub port : DhcpPort (field_at frame (at + source_at)) ⊎ DhcpPort (field_at frame (at + destination_at))

module _ (frame : List ℕ) (at room : ℕ) where
  ports_say : ((is_dhcp_port (field_at frame (at + source_at)) || is_dhcp_port (field_at frame (at + destination_at))) ≡ true)
      ↔ (DhcpPort (field_at frame (at + source_at)) ⊎ DhcpPort (field_at frame (at + destination_at)))
  ports_say = either_says _ _ (port_says _) (port_says _)

  dhcp_says : (is_dhcp frame at room ≡ true) ↔ Dhcp frame at room
  unfolding is_dhcp
  dhcp_says = (
    λ e. let t = simp (and-eq-true_iff, leb_says, ports_say) at e in record { header_covered = t.0.0; within = t.0.1; port = t.1 },
    λ d. simp (and-eq-true_iff, leb_says, ports_say) ((d.header_covered, d.within), d.port),
  )

  pub datagram_at_lem : (size : ℕ) → size ≡ udp_length frame at → Dhcp frame at room → placed_at (at + udp_header_size) (size - udp_header_size) ≡
      datagram_place frame at room
  unfolding datagram_place
  datagram_at_lem size e d = rw (e, dhcp_says.1 d)

  pub datagram_skipped : (Dhcp frame at room → ⊥) → None ≡ datagram_place frame at room
  unfolding datagram_place
  datagram_skipped n = rw (refuted _ dhcp_says n)

-- ---- the payload

-- the packet's tests pass
pub record Fits (frame : List ℕ) (original : ℕ) : Type 0 where
  pub all_there : length frame ≡ original
  pub whole : WholeUdp frame
  pub lengths : LengthsFit frame

-- the datagram's place and the room that the packet leaves for it, and the payload's place
module _ (frame : List ℕ) where
  abbrev pub datagram_at : ℕ
  datagram_at = packet_at + header_length frame

  abbrev pub datagram_room : ℕ
  datagram_room = total_length frame - header_length frame

  abbrev pub payload_at : ℕ
  payload_at = datagram_at + udp_header_size

  abbrev pub payload_size : ℕ
  payload_size = udp_length frame datagram_at - udp_header_size

-- all tests pass
pub record HasPayload (frame : List ℕ) (original : ℕ) : Type 0 where
  pub fits : Fits frame original
  pub dhcp : Dhcp frame (datagram_at frame) (datagram_room frame)

-- the payload stands here
pub record Placed (frame : List ℕ) (original at size : ℕ) : Type 0 where
  pub has : HasPayload frame original
  pub at_is : payload_at frame ≡ at
  pub size_is : payload_size frame ≡ size

nested : (t u : Bool) (p q : Option Payload) → cond t (cond u p q) q ≡ cond (t && u) p q
nested true u p q = refl
nested false u p q = refl

module _ (frame : List ℕ) (original : ℕ) where
  abbrev fitting : Bool
  fitting = eqb (length frame) original && is_whole_udp frame && lengths_fit frame

  abbrev carried : Bool
  carried = is_dhcp frame (datagram_at frame) (datagram_room frame)

  fits_says : (fitting ≡ true) ↔ Fits frame original
  fits_says = (
    λ e. let t = simp (and-eq-true_iff, eqb_says, whole_udp_says, lengths_say) at e in record { all_there = t.0.0; whole = t.0.1; lengths = t.1 },
    λ f. simp (and-eq-true_iff, eqb_says, whole_udp_says, lengths_say) ((f.all_there, f.whole), f.lengths),
  )

  payload_test : ((fitting && carried) ≡ true) ↔ HasPayload frame original
  payload_test =
      let both = and-eq-true_iff fitting carried in
      let d = dhcp_says frame (datagram_at frame) (datagram_room frame) in (
        λ e. record { fits = fits_says.0 (both.0 e).0; dhcp = d.0 (both.0 e).1 },
        λ h. both.1 (fits_says.1 h.fits, d.1 h.dhcp),
      )

  place_is : place_of frame original ≡ cond (fitting && carried) (placed_at (payload_at frame) (payload_size frame)) None
  unfolding place_of datagram_place
  place_is = nested fitting carried (placed_at (payload_at frame) (payload_size frame)) None

  pub place_skipped : (HasPayload frame original → ⊥) → None ≡ place_of frame original
  place_skipped n = sym (place_is ∙ rw (refuted _ payload_test n))

  pub place_datagram : (total : ℕ) → total ≡ total_length frame → Fits frame original
      → datagram_place frame (datagram_at frame) (total - header_length frame) ≡ place_of frame original
  unfolding place_of
  place_datagram total e f = rw (e, fits_says.1 f)

  module _ (at size : ℕ) where
    placed : (t : Bool) → (t ≡ true) ↔ HasPayload frame original → cond t (placed_at (payload_at frame) (payload_size frame)) None ≡ placed_at at size
        → Placed frame original at size
    placed true h e =
        let p = same_Some _ _ e in
        record { has = h.0 refl; at_is = ap (λ (q : Payload). q.at) p; size_is = ap (λ (q : Payload). q.size) p }
    placed false h e = absurd (none-some _ e)

    pub place_says : (place_of frame original ≡ placed_at at size) ↔ Placed frame original at size
    place_says = (λ e. placed _ payload_test (sym place_is ∙ e), λ p. place_is ∙ rw (payload_test.1 p.has, p.at_is, p.size_is))

    pub place_within : place_of frame original ≡ placed_at at size → at + size ≤ length frame
    place_within e = let p = place_says.0 e in omega arith

-- its bytes, for callers and for `PayloadSays` (Payloads.antt)
module _ (frame : List ℕ) (original : ℕ) where
  pub payload_at_lem : (at size : ℕ) → place_of frame original ≡ placed_at at size → payload_of frame original ≡ Some (take size (drop at frame))
  unfolding payload_of
  payload_at_lem at size e = ap (bytes_at frame) e

  pub payload_skipped : place_of frame original ≡ None → payload_of frame original ≡ None
  unfolding payload_of
  payload_skipped e = ap (bytes_at frame) e

  pub payload_is : (payload : List ℕ)
      → (payload_of frame original ≡ Some payload) ↔ (HasPayload frame original × (take (payload_size frame) (drop (payload_at frame) frame) ≡ payload))
  payload_is payload = (
    λ e. from (place_of frame original) refl e,
    λ h. payload_at_lem _ _ ((place_says frame original _ _).1 record { has = h.0; at_is = refl; size_is = refl }) ∙ ap Some h.1,
  )
    where
      from : (p : Option Payload) → place_of frame original ≡ p → payload_of frame original ≡ Some payload
          → HasPayload frame original × (take (payload_size frame) (drop (payload_at frame) frame) ≡ payload)
      from None e h = absurd (none-some payload (sym (payload_skipped e) ∙ h))
      from (Some a) e h =
          let p = (place_says frame original a.at a.size).0 e in
          let s = payload_at_lem a.at a.size e in
          (p.has, rw (p.at_is, p.size_is) (cc))
