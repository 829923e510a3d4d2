use Rattle.std.proofs.Common.{◌≡◌}
use Rattle.std.specs.List.{list_any}
use Rattle.mirror_core.specs.Draft.{is_source_attribute}
use Rattle.mirror_core.proofs.draft.has_source.Given as goal

abbrev pub invariant-loop-name : goal.invariant-loop-name
invariant-loop-name l = list_any is_source_attribute l.name-iterator ≡ list_any is_source_attribute l.attributes
