use Rattle.request_core.proofs.proposal.entry_day.Goals as goal

pub returns : goal.returns
returns c = cc
