use Rattle.std.proofs.Common.{rules}
use Rattle.delegated_ext.proofs.record_text.append_date.Goals as goal

pub returns-then-is_delegated-clause-text : goal.returns-then-is_delegated-clause-text
returns-then-is_delegated-clause-text c = search rules
