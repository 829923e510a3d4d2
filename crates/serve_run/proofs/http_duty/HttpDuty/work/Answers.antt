use Rattle.serve_run.proofs.Chains.{worked}
use Rattle.serve_run.proofs.http_duty.HttpDuty.work.Goals as goal

pub returns : goal.returns
returns g c = worked _ (λ before end after it. it.2.more) _ _ _ _ _ _ c.is_legal.ensures c.serve_way-end.ensures
