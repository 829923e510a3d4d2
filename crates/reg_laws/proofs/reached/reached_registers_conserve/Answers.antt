use Rattle.reg_laws.proofs.Reaching.{reached_cards, reached_once, reached_pooled, reached_sizes}
use Rattle.reg_laws.proofs.reached.reached_registers_conserve.Goals as goal

pub returns : goal.returns
returns c = record { cards = reached_cards; once = reached_once; pooled = reached_pooled; sizes = reached_sizes }
