-- `comparison_verdict::write_compared` meets its contract: one of the files may not be judged, or both are handed on (proofs/Answers.antt).
use mathlib.Core.Path.{sym}
use lib.Seq.{length-take-le}
use Rattle.file_verdict.proofs.Contents.{judged_by_lem}
use Rattle.verdict_line.proofs.Lines.{put_same}
use Rattle.comparison_verdict.proofs.Answers.{first_none, second_none, both_judged}
use Rattle.comparison_verdict.proofs.write_compared.Goals as goal

pub returns-in_default : goal.returns-in_default
returns-in_default c =
    let j = rw c.in_default.is at (judged_by_lem _ _ c.within_limit.ensures) in
    let w = c.write_line.ensures in
    let p = put_same c.args.out.now (first_none _ _ j) (w.size, w.content) in
    record { size = p.0; content = p.1 }

pub returns-in_default-within_limit : goal.returns-in_default-within_limit
returns-in_default-within_limit c =
    let i = rw c.in-Some.is at (judged_by_lem _ _ c.within_limit.ensures) in
    let j = rw c.in_default-within_limit.is at (judged_by_lem _ _ c.within_limit-2.ensures) in
    let w = c.write_line-in_default-within_limit.ensures in
    let p = put_same c.args.out.now (second_none _ _ i.1 j) (w.size, w.content) in
    record { size = p.0; content = p.1 }

pub slice_bounds-write_messages-end : goal.slice_bounds-write_messages-end
slice_bounds-write_messages-end c =
    sym (length-take-le _ _ (rw c.in-Some.is at (judged_by_lem _ _ c.within_limit.ensures)).0)

pub slice_bounds-write_messages-end-2 : goal.slice_bounds-write_messages-end-2
slice_bounds-write_messages-end-2 c =
    sym (length-take-le _ _ (rw c.in-Some-within_limit.is at (judged_by_lem _ _ c.within_limit-2.ensures)).0)

pub returns : goal.returns
returns c =
    let i = rw c.in-Some.is at (judged_by_lem _ _ c.within_limit.ensures) in
    let j = rw c.in-Some-within_limit.is at (judged_by_lem _ _ c.within_limit-2.ensures) in
    let w = c.write_messages.ensures in
    let p = put_same c.args.out.now (both_judged _ _ i.1 j.1) (w.size, w.content) in
    record { size = p.0; content = p.1 }
