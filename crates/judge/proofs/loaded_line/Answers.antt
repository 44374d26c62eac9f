-- `judge::loaded_line` meets its contract: the line is the one where the card stopped, or the message's by the loaded book (proofs/Lines.antt).
use Rattle.judge.proofs.Lines.{card_stopped, card_rows}
use Rattle.judge.proofs.loaded_line.Goals as goal

pub returns-in-Err : goal.returns-in-Err
returns-in-Err g c = card_stopped _ c.in-Err.is

pub returns-in-Ok : goal.returns-in-Ok
returns-in-Ok g c = card_rows _ _ _ _ _ _ c.in-Ok.is _ c.message_line.ensures.answer
