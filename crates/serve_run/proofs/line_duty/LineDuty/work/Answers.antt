use Rattle.serve_run.proofs.Chains.{worked}
use Rattle.serve_run.proofs.line_duty.LineDuty.work.Goals as goal

pub returns : goal.returns
returns g c = worked _ (λ before end after it. it.3.more) _ _ _ _ _ _ c.is_legal.ensures c.serve_way-end.ensures
