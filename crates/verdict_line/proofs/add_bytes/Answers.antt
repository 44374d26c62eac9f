-- `verdict_line::add_bytes` meets its contract: the place is behind the room, or the bytes don't fit behind it, or they are put there (proofs/Places.antt).
use Prim.Native.Nat.{◌+◌, ◌<◌}
use native.Mathlib.Omega.{arith}
use lib.ListN.{length}
use Rattle.verdict_line.proofs.Places.{added_none, added_fits}
use Rattle.verdict_line.proofs.add_bytes.Goals as goal
use Rattle.verdict_line.proofs.add_bytes.Goals.{then-out-at-via-then-out-at, then-out-at-via-else-out-at+then-out-at-2}

pub returns-then-out-at : goal.returns-then-out-at
returns-then-out-at c =
    let past : length c.args.out.now < c.args.at + length c.args.bytes.now = elim c.then-out-at.branch [
      | then-out-at-via-then-out-at w ↦ omega arith
      | then-out-at-via-else-out-at+then-out-at-2 w ↦ omega arith
    ] in
    let p = added_none c.args.out.now c.args.at c.args.bytes.now past in
    record { place = p.0; content = p.1 }

pub returns : goal.returns
returns c = let p = added_fits (omega arith) c.put.ensures in record { place = p.0; content = p.1 }
