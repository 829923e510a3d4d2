use Rattle.std.proofs.Common.{◌∙◌, sym}
use Rattle.hall.proofs.Names.{none_behind, none_copied, not_some}
use Rattle.hall.proofs.ask.is_last.Goals as goal

pub returns : goal.returns
returns c = not_some c.args.behind c.is_none.result c.is_none.ensures ∙ sym (none_copied c.args.behind) ∙ sym (none_behind _)
