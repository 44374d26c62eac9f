-- `dhcp_message::message_type` meets its contract. The invariant: what is still to be read, begun with what was found, gives the whole answer
-- (proofs/Typing.antt, `Typed`).
use Rattle.dhcp_message.proofs.Typing.{Typed}
use Rattle.dhcp_message.proofs.types.message_type.Given as goal

abbrev pub invariant-loop-at : goal.invariant-loop-at
invariant-loop-at l = Typed l.message l.typing l.at-iterator
