use Rattle.reg_entry.proofs.Sizes.{size_sum-received, size_sum-repainted}
use Rattle.reg_entry.proofs.laws.painting_counts_numbers.Goals as goal

pub returns : goal.returns
returns c = record { received = size_sum-received; repainted = size_sum-repainted }
