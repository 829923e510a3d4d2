use Rattle.reg_laws.proofs.Conserving.{legal_partition, legal_cards, legal_sizes}
use Rattle.reg_laws.proofs.conservation.legal_entries_conserve.Goals as goal

pub returns : goal.returns
returns c = record { pieces = legal_partition; cards = legal_cards; sizes = legal_sizes }
