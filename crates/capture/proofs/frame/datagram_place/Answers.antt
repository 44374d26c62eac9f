-- `capture::datagram_place` meets its contract: each refusal denies a fact of `Dhcp` (proofs/Frames.antt), and past them all its facts hold, the port's
-- from either test.
use mathlib.Core.Path.{ap, ◌∙◌}
use mathlib.Core.Logic.{inl, inr, ⊎_elim}
use native.Mathlib.Omega.{arith}
use Rattle.capture.specs.Frame.{is_dhcp_port}
use Rattle.capture.proofs.Frames.{denied, granted, port_says, datagram_at_lem, datagram_skipped}
use mathlib.Core.Bool.{not}
use Rattle.capture.proofs.frame.datagram_place.Goals as goal
use Rattle.capture.proofs.frame.datagram_place.Goals.{else-not-is_dhcp_port-via-then-not-is_dhcp_port+else-not-is_dhcp_port-2}
use Rattle.capture.proofs.frame.datagram_place.Goals.{else-not-is_dhcp_port-via-else-not-is_dhcp_port}

pub returns-then-size-lt-UDP_HEADER_SIZE : goal.returns-then-size-lt-UDP_HEADER_SIZE
returns-then-size-lt-UDP_HEADER_SIZE c = datagram_skipped _ _ _ (λ d. omega (arith, c.then-size-lt-UDP_HEADER_SIZE.either))

pub returns-then-not-is_dhcp_port-2 : goal.returns-then-not-is_dhcp_port-2
returns-then-not-is_dhcp_port-2 c =
    datagram_skipped _ _ _
    (λ d. ⊎_elim
    (denied _ _ (port_says _) (c.is_dhcp_port.ensures ∙ ap is_dhcp_port c.field_at.ensures.0) (ap not c.if-not-is_dhcp_port.true))
    (denied _ _ (port_says _) (c.is_dhcp_port-then-not-is_dhcp_port.ensures ∙ ap is_dhcp_port c.field_at-then-not-is_dhcp_port.ensures.0)
    (ap not c.if-not-is_dhcp_port-2.true))
    d.port)

pub returns : goal.returns
returns c =
    datagram_at_lem _ _ _ _ c.field_at-size.ensures.0 record {
      header_covered = omega arith;
      within = omega arith;
      port = elim c.else-not-is_dhcp_port.branch [
        | else-not-is_dhcp_port-via-then-not-is_dhcp_port+else-not-is_dhcp_port-2 w ↦
            inr (granted _ _ (port_says _)
            (w.is_dhcp_port-then-not-is_dhcp_port.ensures ∙ ap is_dhcp_port w.field_at-then-not-is_dhcp_port.ensures.0)
            (ap not w.if-not-is_dhcp_port-2.false))
        | else-not-is_dhcp_port-via-else-not-is_dhcp_port w ↦
            inl (granted _ _ (port_says _) (c.is_dhcp_port.ensures ∙ ap is_dhcp_port c.field_at.ensures.0) (ap not w.if-not-is_dhcp_port.false))
      ];
    }
