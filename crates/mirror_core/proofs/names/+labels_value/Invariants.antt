use Rattle.std.proofs.Common.{length}
use Rattle.mirror_core.proofs.names.+labels_value.Given as goal

abbrev pub decreases-labels_value : goal.decreases-labels_value
decreases-labels_value l = length l.labels.now
