-- `verdict_line::write_numbered` meets its contract: the line is made in a room of its own and copied where it fits (proofs/Lines.antt).
use native.Mathlib.Omega.{arith}
use Rattle.verdict_line.specs.Line.{numbered_most}
use Rattle.verdict_line.proofs.Lines.{made_put}
use Rattle.verdict_line.proofs.write_numbered.Goals as goal

pub returns : goal.returns
returns c =
    let m = c.put_numbered-size.ensures in
    let q = c.put_made.ensures in
    let p = made_put m.0 (omega (arith, m.0.place, m.1)) numbered_most _ (omega (arith, m.0.place, m.1)) (q.size, q.content) in
    record { size = p.0; content = p.1.0; whole = p.1.1 }
