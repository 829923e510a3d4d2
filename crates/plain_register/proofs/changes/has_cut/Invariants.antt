use Rattle.std.proofs.Common.{◌≡◌}
use Rattle.std.specs.List.{list_any}
use Rattle.num_range.specs.Range.{same_range}
use Rattle.num_range.specs.Cover.{reverse_cuts}
use Rattle.plain_register.proofs.changes.has_cut.Given as goal

abbrev pub invariant-loop-cut : goal.invariant-loop-cut
invariant-loop-cut l = list_any (λ c. same_range c l.block) l.cut-iterator ≡ list_any (λ c. same_range c l.block) (reverse_cuts l.range)
