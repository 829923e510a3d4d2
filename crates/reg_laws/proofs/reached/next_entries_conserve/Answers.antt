use Rattle.reg_laws.proofs.Reaching.{next_cards, next_sizes}
use Rattle.reg_laws.proofs.reached.next_entries_conserve.Goals as goal

pub returns : goal.returns
returns c = record { cards = next_cards; sizes = next_sizes }
