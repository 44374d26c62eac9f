-- `card_pieces::window_of` meets its contract: the bytes kept are written over zeros, and the others behind them (proofs/Going.antt).
use Rattle.card_pieces.proofs.Going.{window_is}
use Rattle.card_pieces.proofs.pieces.window_of.Goals as goal

pub returns : goal.returns
returns c = window_is _ _ c.requires.kept_len_bound c.requires.s_len_bound _ _ c.copy.ensures c.copy-2.ensures
