-- After the largest counter is accepted no counter up to it is new to the row (`old_after`), and no message of bytes says a larger one.
use mathlib.Core.Path.{◌≡◌, sym, ◌∙◌}
use mathlib.Core.Bool.{true≢false}
use mathlib.Core.List.{List}
use Prim.Native.Nat.{ℕ, ◌^◌, ◌<◌}
use native.Mathlib.Omega.{arith}
use Rattle.octets.specs.Bytes.{Bytes}
use Rattle.dhcp_message.specs.Said.{says, said_of}
use Rattle.dhcp_message.proofs.Seals.{seal_laws}
use Rattle.delayed_auth.specs.Seal.{counter_most}
use Rattle.demands.specs.Demand3.{check, state_at}
use Rattle.demands.specs.LastCounter.{LastCounter}
use Rattle.demands.proofs.Below.{said_form}
use Rattle.demands.proofs.Stages.{accepted_accepts}
use Rattle.demands.proofs.Runs.{lt_at}
use Rattle.demands.proofs.Demand3.{accepted_there, old_after}

-- the counter that a message of bytes says fits eight bytes
counter_fits : (m : List ℕ) (c id : ℕ) (mac : List ℕ) → Bytes m → said_of m ≡ says c id mac → c < 2 ^ 64
counter_fits m c id mac h e =
    let w = said_form m (says c id mac) e in
    omega (arith, (seal_laws.full m w.auth w.form).counter_size_lem h, w.counter)

pub last_counter : LastCounter
last_counter b s run i j m n k c l e f g h a =
    let x = accepted_accepts (state_at b run j).book n k c (accepted_there b s run j n k c g a) in
    let old = old_after b s run i j m k counter_most l e f (lt_at run j (check n) g) c (omega (arith, counter_fits n c x.id x.mac h x.form)) in
    true≢false (sym x.new ∙ old)
