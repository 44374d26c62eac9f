-- `capture::is_dhcp_port` meets its contract: the two ports are tested in the definition's order.
use mathlib.Core.Path.{◌∙◌}
use borrow.Author.Tests.{eq-eqb}
use Rattle.capture.proofs.Frames.{server_port_lem, other_port}
use Rattle.capture.proofs.frame.is_dhcp_port.Goals as goal

pub returns-then-port-eq-SERVER_PORT : goal.returns-then-port-eq-SERVER_PORT
returns-then-port-eq-SERVER_PORT c = eq-eqb _ _ c.if-port-eq-SERVER_PORT.true ∙ server_port_lem _ c.if-port-eq-SERVER_PORT.true

pub returns-else-port-eq-SERVER_PORT : goal.returns-else-port-eq-SERVER_PORT
returns-else-port-eq-SERVER_PORT c = other_port _ c.if-port-eq-SERVER_PORT.false
