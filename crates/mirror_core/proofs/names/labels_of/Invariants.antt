use Rattle.std.proofs.Common.{◌≡◌, ◌==◌, ◌^◌, ◌<◌, ◌++◌, length, All}
use Rattle.std.specs.List.{slice_split}
use Rattle.std.specs.Option.{option_map}
use Rattle.reverse_zone.specs.Zone.{label_bits}
use Rattle.mirror_core.specs.Keys.{labels_of}
use Rattle.mirror_core.proofs.names.labels_of.Given as goal

abbrev pub invariant-labels : goal.invariant-labels
invariant-labels l = record {
  read : option_map (λ rest. l.labels.items ++ rest) (labels_of l.space (slice_split (λ b. b == 46) l.left)) ≡ labels_of l.space (slice_split (λ b. b == 46) l.front);
  bounds : All (λ label. label < 2 ^ label_bits l.space) l.labels.items;
}

abbrev pub decreases-labels : goal.decreases-labels
decreases-labels l = length l.left
