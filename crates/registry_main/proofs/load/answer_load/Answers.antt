use Rattle.std.proofs.Common.{◌∙◌}
use Rattle.registry_main.proofs.AtOnce.{summary_is_written}
use Rattle.registry_main.proofs.load.answer_load.Goals as goal

pub returns-in-Ok-write-clause-loaded : goal.returns-in-Ok-write-clause-loaded
returns-in-Ok-write-clause-loaded g c = summary_is_written _ _ _ _ _ _ (c.bytes.ensures ∙ c.in-Ok.ensures) c.in-Ok-write.ensures.ok
