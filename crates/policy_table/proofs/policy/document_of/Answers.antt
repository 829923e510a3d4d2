use Rattle.std.proofs.Common.{rules}
use Rattle.policy_table.proofs.Documents.{read_document, refused_document}
use Rattle.policy_table.proofs.policy.document_of.Goals as goal

pub returns-in-Ok : goal.returns-in-Ok
returns-in-Ok c = read_document _ _ c.in-Ok.ensures.ok.0 c.in-Ok.ensures.ok.1

pub returns-in-Err-2 : goal.returns-in-Err-2
returns-in-Err-2 c = λ _. refused_document _ (c.in-Err-2.ensures.refused (search rules))
