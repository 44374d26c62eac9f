-- `judge_capture::judge_frame` meets its contract: the record's line is added, and its mark and its counter are stored.
use Rattle.judge_capture.proofs.judge_frame.Goals as goal

pub returns : goal.returns
returns c =
    record {
      line = rw (← c.record_line-line.ensures.answer) c.add_line.ensures.put_at;
      within = c.add_line.ensures.upper_bound;
      marked = c.record_line-line.ensures.marked;
      stored = c.record_line-line.ensures.stored;
    }
