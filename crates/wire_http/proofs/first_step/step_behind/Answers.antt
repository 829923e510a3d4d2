use Rattle.std.proofs.Common.{ℕ, Result, subst, arith}
use Rattle.std.proofs.lemmas.Grind.{common_steps}
use Rattle.wire_http.specs.Step.{HasHead}
use Rattle.wire_http.proofs.Steps.{message_found}
use Rattle.wire_http.proofs.first_step.step_behind.Goals as goal

pub returns-in-Ok : goal.returns-in-Ok
returns-in-Ok c =
    let h = c.requires.0 in
    message_found c.args.bytes.now c.args.size c.in-Ok.body h
    (subst (λ (body : Result ℕ ℕ). HasHead c.args.bytes.now c.args.size body h) c.in-Ok.is c.requires.1) c.if-body-bytes.true

pub overflow_sub-bytes : goal.overflow_sub-bytes
overflow_sub-bytes c = grind (arith, common_steps)

pub returns-in-Ok-2 : goal.returns-in-Ok-2
returns-in-Ok-2 c = grind (arith, common_steps)

pub returns-in-Ok-3 : goal.returns-in-Ok-3
returns-in-Ok-3 c = grind (arith, common_steps)
