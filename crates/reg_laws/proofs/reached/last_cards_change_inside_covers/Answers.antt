use Rattle.reg_laws.proofs.Reaching.{last_card_outside, last_card_reshaped}
use Rattle.reg_laws.proofs.reached.last_cards_change_inside_covers.Goals as goal

pub returns : goal.returns
returns c = record { outside = last_card_outside; reshaped = last_card_reshaped }
