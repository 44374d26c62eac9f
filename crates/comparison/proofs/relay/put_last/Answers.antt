-- `comparison::put_last` meets its contract: the one line or the other.
use mathlib.Core.Path.{sym, ap, ◌∙◌}
use native.Mathlib.Omega.{arith}
use lib.ListN.{length}
use Rattle.verdict_line.proofs.Places.{added_put}
use Rattle.comparison.specs.Difference.{last_line}
use Rattle.comparison.proofs.relay.put_last.Goals as goal

pub returns-then-relay_only : goal.returns-then-relay_only
returns-then-relay_only c =
    let e = ap last_line (sym c.relay_only.ensures ∙ c.if-relay_only.true) in
    rw e (added_put (omega (arith, c.requires, ap length e)) c.add_bytes.ensures.place c.add_bytes.ensures.content)

pub returns : goal.returns
returns c =
    let e = ap last_line (sym c.relay_only.ensures ∙ c.if-relay_only.false) in
    rw e (added_put (omega (arith, c.requires, ap length e)) c.add_bytes-2.ensures.place c.add_bytes-2.ensures.content)
