-- `verdict_line::write_line` meets its contract: the line is made in a room of its own and copied where it fits (proofs/Lines.antt).
use native.Mathlib.Omega.{arith}
use Rattle.verdict_line.specs.Line.{line_most}
use Rattle.verdict_line.proofs.Lines.{made_put}
use Rattle.verdict_line.proofs.write_line.Goals as goal

pub returns : goal.returns
returns c =
    let m = c.put_line-size.ensures in
    let p = made_put m.put (omega arith) line_most _ m.most (c.put_made.ensures.size, c.put_made.ensures.content) in
    record { size = p.0; content = p.1.0; whole = p.1.1 }
