-- `card_pieces::read_piece` meets its contract: a pass to the end of the piece leaves a state that keeps the rest (proofs/Going.antt).
use Rattle.card_pieces.proofs.Going.{piece_short, piece_ends}
use Rattle.card_pieces.proofs.pieces.read_piece.Goals as goal

pub state_with-requires : goal.state_with-requires
state_with-requires c =
    piece_short _ _ _ _ _ _ _ c.read_rows-pass.ensures.goes c.read_rows-pass.ensures.inside c.read_rows-pass.ensures.stops

pub returns : goal.returns
returns c =
    let both = piece_ends _ _ _ _ _ _ _ c.read_rows-pass.ensures.goes c.read_rows-pass.ensures.inside
    c.read_rows-pass.ensures.stops _ _ c.form_after-formed.ensures _ c.state_with.ensures in
    record { same = c.read_rows-pass.ensures.same; state = both.state; spare = both.spare }
