use Rattle.std.proofs.Common.{◌≡◌, Err, IfErr, rules}
use Rattle.policy_table.proofs.Faults.{IsInner, document_fails, policy_fails, inner, inner_result, short_answer, key_answer}
use Rattle.policy_table.proofs.policy.Policy.read.Goals as goal

pub returns-in_err-top-clause-too_long : goal.returns-in_err-top-clause-too_long
returns-in_err-top-clause-too_long c =
    let is : c.from_residual.result ≡ Err c.in_err-top.field-0.0 = search rules in
    let fault : IfErr c.from_residual.result IsInner = rw is (inner _ _ (document_fails _) c.in_err-top.ensures) in
    short_answer _ _ fault c.if-bytes-gt-MOST_BYTES.false

pub returns-in_err-top-clause-key : goal.returns-in_err-top-clause-key
returns-in_err-top-clause-key c =
    let is : c.from_residual.result ≡ Err c.in_err-top.field-0.0 = search rules in
    let fault : IfErr c.from_residual.result IsInner = rw is (inner _ _ (document_fails _) c.in_err-top.ensures) in
    key_answer _ fault

pub returns-clause-too_long : goal.returns-clause-too_long
returns-clause-too_long c = short_answer _ _ (inner_result _ _ _ (policy_fails _) c.policy_in.ensures) c.if-bytes-gt-MOST_BYTES.false

pub returns-clause-key : goal.returns-clause-key
returns-clause-key c = key_answer _ (inner_result _ _ _ (policy_fails _) c.policy_in.ensures)
