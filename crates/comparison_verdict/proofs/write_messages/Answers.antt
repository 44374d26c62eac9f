-- `comparison_verdict::write_messages` meets its contract: the line of the refusal, or the lines as the comparison left them (proofs/Answers.antt).
use mathlib.Core.Path.{◌∙◌}
use native.Mathlib.Omega.{arith}
use Rattle.verdict_line.proofs.Lines.{made_take, made_size, added_front, put_same}
use Rattle.comparison_verdict.proofs.Answers.{lines_put, report_refused, report_lines}
use Rattle.comparison_verdict.proofs.write_messages.Goals as goal

pub slice_bounds-lines-end : goal.slice_bounds-lines-end
slice_bounds-lines-end c =
    let p = lines_put _ _ _ c.in-Ok.is c.compare.ensures.answer c.compare.ensures.content in
    omega (arith, p.0.place, p.1)

pub slice_bounds-add_bytes-end : goal.slice_bounds-add_bytes-end
slice_bounds-add_bytes-end c =
    let p = lines_put _ _ _ c.in-Ok.is c.compare.ensures.answer c.compare.ensures.content in
    made_size p.0 p.1

pub returns-in-Err : goal.returns-in-Err
returns-in-Err c =
    let w = c.write_line.ensures in
    let p = put_same c.args.out.now (report_refused _ _ c.in-Err.is c.compare.ensures.answer) (w.size, w.content) in
    record { size = p.0; content = p.1 }

pub returns-in-Ok : goal.returns-in-Ok
returns-in-Ok c =
    let e = c.compare.ensures in
    let l = lines_put _ _ _ c.in-Ok.is e.answer e.content in
    let t = made_take l.0 l.1 ∙ report_lines _ _ c.in-Ok.is e.answer in
    let p = put_same c.args.out.now t (added_front _ _ c.add_bytes.ensures.place c.add_bytes.ensures.content) in
    record { size = p.0; content = p.1 }
