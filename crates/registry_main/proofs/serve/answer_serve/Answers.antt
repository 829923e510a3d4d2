use Rattle.std.proofs.Common.{◌∙◌, inr}
use Rattle.registry_main.proofs.AtOnce.{front_is_written, whole_is_written}
use Rattle.registry_main.proofs.serve.answer_serve.Goals as goal

pub returns-in-Ok-write-clause-served : goal.returns-in-Ok-write-clause-served
returns-in-Ok-write-clause-served g c =
    inr (whole_is_written _ _ _ _ _ _ _ _ _ _ _ c.in-Ok.ensures.served (c.as_bytes.ensures.value ∙ c.in-Ok-service_text.ensures) c.in-Ok-write.ensures.ok)

pub returns-clause-served : goal.returns-clause-served
returns-clause-served g c =
    inr (front_is_written _ _ _ _ _ _ _ _ _ _ _ c.in-Ok.ensures.served (c.as_bytes.ensures.value ∙ c.in-Ok-service_text.ensures) c.in-Err.ensures.err)
