use Rattle.request_core.proofs.proposal.until_for.Goals as goal

pub returns-in-Transfer : goal.returns-in-Transfer
returns-in-Transfer c = cc
