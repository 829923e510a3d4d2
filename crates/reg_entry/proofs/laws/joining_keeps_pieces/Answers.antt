use Rattle.reg_entry.proofs.Reshaped.{card_at-joined_at, size_sum-joined_at, join_keeps}
use Rattle.reg_entry.proofs.laws.joining_keeps_pieces.Goals as goal

pub returns : goal.returns
returns c = record { cards = card_at-joined_at; sizes = size_sum-joined_at; pieces = join_keeps }
