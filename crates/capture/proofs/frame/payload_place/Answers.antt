-- `capture::payload_place` meets its contract: each refusal denies a fact of `HasPayload` (proofs/Frames.antt), and past them the datagram decides.
use mathlib.Core.Path.{◌∙◌}
use native.Mathlib.Omega.{arith}
use Rattle.capture.proofs.Frames.{denied, granted, whole_udp_says, place_skipped, place_datagram}
use mathlib.Core.Path.{ap}
use mathlib.Core.Bool.{not}
use Rattle.capture.proofs.frame.payload_place.Goals as goal

pub returns-then-frame-original : goal.returns-then-frame-original
returns-then-frame-original c = place_skipped _ _ (λ h. omega arith)

pub returns-then-frame : goal.returns-then-frame
returns-then-frame c = place_skipped _ _ (λ h. omega arith)

pub returns-then-not-is_whole_udp : goal.returns-then-not-is_whole_udp
returns-then-not-is_whole_udp c = place_skipped _ _ (λ h. denied _ _ (whole_udp_says _) c.is_whole_udp.ensures (ap not c.if-not-is_whole_udp.true) h.fits.whole)

pub returns-then-header-lt-IP_HEADER_LEAST : goal.returns-then-header-lt-IP_HEADER_LEAST
returns-then-header-lt-IP_HEADER_LEAST c = place_skipped _ _ (λ h. omega arith)

pub returns-then-total-header : goal.returns-then-total-header
returns-then-total-header c = place_skipped _ _ (λ h. omega arith)

pub returns-then-frame-total : goal.returns-then-frame-total
returns-then-frame-total c = place_skipped _ _ (λ h. omega arith)

pub returns : goal.returns
returns c =
    c.datagram_place.ensures
    ∙ place_datagram _ _ _ c.field_at-total.ensures.0 record {
      all_there = omega arith;
      whole = granted _ _ (whole_udp_says _) c.is_whole_udp.ensures (ap not c.if-not-is_whole_udp.false);
      lengths = record { header_least = omega arith; header_within = omega arith; total_within = omega arith };
    }
