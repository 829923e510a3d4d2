use Rattle.std.proofs.Common.{Ok, refl, sym, subst}
use mathlib.Core.List.{IsPrefix}
use Rattle.hall.specs.Backend.{Submits}
use Rattle.hall.specs.Desk.{seen_by, IsDeskFault}
use Rattle.hall.proofs.Desks.{decided_on}
use Rattle.hall.proofs.desk_backend.DeskBackendBackend.submit.Goals as goal

pub returns-in-Ok-clause-submitted : goal.returns-in-Ok-clause-submitted
returns-in-Ok-clause-submitted g c before is = (
  seen_by c.submit.new.pass,
  refl,
  subst
      (λ s. Submits c.args.self.now.pass.now.rooms (λ es fs. IsPrefix es fs) IsDeskFault c.args.policy.now c.args.day c.args.who.now c.args.request.now s
      (Ok c.in-Ok.decided) (seen_by c.submit.new.pass))
      (sym is)
      (decided_on c.args.policy.now c.args.day c.args.who.now c.args.request.now c.args.self.now.pass.now c.submit.new.pass c.in-Ok.decided
      c.in-Ok.ensures.answer.0 (c.in-Ok.ensures.open refl) c.in-Ok.ensures.answer.1),
)
