-- `verdict_line::put_made` meets its contract: the line fits or not (proofs/Lines.antt).
use native.Mathlib.Omega.{arith}
use Rattle.verdict_line.proofs.Lines.{no_room_lem, fits_room}
use Rattle.verdict_line.proofs.put_made.Goals as goal

pub returns-then-out-made : goal.returns-then-out-made
returns-then-out-made c = let p = no_room_lem c.args.made.now c.args.out.now (omega arith) in record { size = p.0; content = p.1 }

pub returns : goal.returns
returns c = let p = fits_room c.args.made.now c.args.out.now (omega arith) c.put.ensures in record { size = p.0; content = p.1 }
