use Rattle.reg_entry.proofs.Lookups.{card_at-laid}
use Rattle.reg_entry.proofs.laws.painting_changes_look_ups.Goals as goal

pub returns : goal.returns
returns c = card_at-laid
