use Rattle.std.proofs.Common.{rules}
use Rattle.mirror_core.proofs.draft.Draft.attribute_fault.Goals as goal

pub returns : goal.returns
returns c = search rules
