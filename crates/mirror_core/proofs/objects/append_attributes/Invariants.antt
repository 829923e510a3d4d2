use Rattle.std.proofs.Common.{◌≡◌, ◌++◌}
use Rattle.rpsl_text.specs.Object.{attributes_text}
use Rattle.mirror_core.proofs.objects.append_attributes.Given as goal

abbrev pub invariant-loop-name : goal.invariant-loop-name
invariant-loop-name l = l.body ++ attributes_text l.name-iterator ≡ l.fn.body ++ attributes_text l.attributes
