-- `comparison::put_layout` meets its contract: one line, or none where the layouts are the same (proofs/Layouts.antt).
use mathlib.Core.Path.{sym, ap, ◌∙◌}
use native.Mathlib.Omega.{arith}
use lib.ListN.{length}
use Rattle.verdict_line.proofs.Places.{added_put}
use Rattle.comparison.proofs.OptionLines.{put_nothing}
use Rattle.comparison.proofs.Layouts.{no_layout_line, layout_line_lem}
use Rattle.comparison.proofs.layout.put_layout.Goals as goal

pub returns-then-same_layout : goal.returns-then-same_layout
returns-then-same_layout c = rw (no_layout_line _ _ (sym c.same_layout.ensures ∙ c.if-same_layout.true)) (put_nothing _ _)

pub returns : goal.returns
returns c =
    let e = layout_line_lem _ _ (sym c.same_layout.ensures ∙ c.if-same_layout.false) in
    rw e (added_put (omega (arith, c.requires, ap length e)) c.add_bytes.ensures.place c.add_bytes.ensures.content)
