use Rattle.std.proofs.Common.{◌≡◌, ◌∙◌, ap, subst, ℕ, List, true, false, None}
use Rattle.wire_http.specs.ErrorBody.{error_text}
use Rattle.hall.specs.Reply.{reply_to, fault_reply}
use Rattle.hall.specs.Standing.{fault_code}
use Rattle.hall.specs.Written.{IsWritten}
use Rattle.hall.proofs.reply.tell_fault.Goals as goal

pub returns-clause-written : goal.returns-clause-written
unfolding fault_reply
returns-clause-written g c =
    let text : ℕ → List ℕ → List ℕ = λ code body. reply_to c.args.head.now code true false None body in
    let body : c.as_slice.result.now ≡ error_text c.fault_code-code.result 0 c.is_shut.result = c.as_slice.ensures.value ∙ c.write_error.ensures in
    subst (λ t. IsWritten c.reply_to.result (g.L.Sink.written c.args.link.now) t (g.L.Sink.written c.reply_to.new.link))
    (ap (text c.fault_code-code.result) body
    ∙ ap (λ code. text code (error_text code 0 c.is_shut.result)) c.fault_code-code.ensures
    ∙ ap (λ shut. text (fault_code c.args.fault) (error_text (fault_code c.args.fault) 0 shut)) c.is_shut.ensures)
    c.reply_to.ensures.written
