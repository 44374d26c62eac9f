-- `known::main` is safe: the line lies within the room that was lent for it (verdict_line, proofs/Lines.antt).
use native.Mathlib.Omega.{arith}
use Rattle.verdict_line.proofs.Lines.{line_within, line_taken}
use Rattle.known.proofs.main.Goals as goal

pub slice_bounds-out-end : goal.slice_bounds-out-end
slice_bounds-out-end c = omega (arith, line_within _ _ c.write_line-size.ensures.size)

pub slice_bounds-write_all-end : goal.slice_bounds-write_all-end
slice_bounds-write_all-end c = line_taken _ _ c.write_line-size.ensures.size _ (omega arith)
