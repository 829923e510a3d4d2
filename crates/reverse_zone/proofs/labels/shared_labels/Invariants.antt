use Rattle.std.proofs.Common.{◌≡◌, ◌^◌, ◌<◌, ◌≤◌, ◌++◌, nat_le, map, filter, drop, All}
use Rattle.arrayvec.specs.ArrayVec.{array_vec_len}
use Rattle.num_range.specs.Range.{size_of}
use Rattle.reverse_zone.specs.Zone.{label_bits, label_at}
use Rattle.reverse_zone.proofs.labels.shared_labels.Given as goal

abbrev pub invariant-loop-place : goal.invariant-loop-place
invariant-loop-place g l = record {
  labels : l.labels.items ++ map (label_at l.block) (filter (λ place. nat_le (size_of l.block) (2 ^ place)) (drop l.place-index l.places))
      ≡ map (label_at l.block) (filter (λ place. nat_le (size_of l.block) (2 ^ place)) l.places);
  bounds : All (λ label. label < 2 ^ label_bits l.block.space) l.labels.items;
  count : array_vec_len l.labels ≤ l.place-index;
}
