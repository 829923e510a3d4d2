use Rattle.reg_entry.proofs.Reshaped.{card_at-split, size_sum-split, split_keeps}
use Rattle.reg_entry.proofs.laws.splitting_keeps_pieces.Goals as goal

pub returns : goal.returns
returns c = record {
  cards = λ space ps at x h. card_at-split 0 ps at x h.rises;
  sizes = λ space ps at h. size_sum-split 0 ps at h.rises;
  pieces = split_keeps;
}
