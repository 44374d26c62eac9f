-- `capture::record_header` meets its contract: each end is one case of `record_header_of` (proofs/Headers.antt).
use Rattle.capture.proofs.Headers.{record_short, record_too_long, record_frame}
use borrow.Author.Rules.{rules}
use Rattle.capture.proofs.header.record_header.Goals as goal

pub returns-then-s-lt-RECORD_HEADER_SIZE : goal.returns-then-s-lt-RECORD_HEADER_SIZE
returns-then-s-lt-RECORD_HEADER_SIZE c = record_short _ _ (search rules)

pub returns-then-captured-gt-FRAME_MOST : goal.returns-then-captured-gt-FRAME_MOST
returns-then-captured-gt-FRAME_MOST c = record_too_long _ _ (search rules) _ c.number_at-captured.ensures.0 (search rules)

pub returns : goal.returns
returns c = record_frame _ _ (search rules) _ c.number_at-captured.ensures.0 (search rules) _ c.number_at.ensures.0
