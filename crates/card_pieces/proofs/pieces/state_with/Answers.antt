-- `card_pieces::state_with` meets its contract: the bytes stand in front of a tail of zeros (proofs/Going.antt).
use Rattle.card_pieces.proofs.Going.{state_is}
use Rattle.card_pieces.proofs.pieces.state_with.Goals as goal

pub returns : goal.returns
returns c = state_is _ _ _ _ _ _ c.copy.ensures
