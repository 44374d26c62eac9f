-- `dhcp_message::scan_options` meets its contract. The invariant: what is still to be scanned, begun with what was found, gives the whole answer
-- (proofs/Turns.antt, `Scanning`).
use Rattle.dhcp_message.proofs.Turns.{Scanning}
use Rattle.dhcp_message.proofs.scan.scan_options.Given as goal

abbrev pub invariant-loop-at : goal.invariant-loop-at
invariant-loop-at l = Scanning l.message l.found l.at-iterator
