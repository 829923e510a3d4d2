use Rattle.plain_register.proofs.changes.counts.Goals as goal

pub returns-in-Add-Some : goal.returns-in-Add-Some
returns-in-Add-Some c = cc
