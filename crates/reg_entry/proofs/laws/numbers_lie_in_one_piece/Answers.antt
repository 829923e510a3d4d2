use Rattle.reg_entry.proofs.OnePiece.{cards_at-card_at}
use Rattle.reg_entry.proofs.laws.numbers_lie_in_one_piece.Goals as goal

pub returns : goal.returns
returns c = λ space ps x h. cards_at-card_at 0 ps x h.rises
