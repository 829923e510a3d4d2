use Rattle.registry_main.proofs.mirror.answer_mirror.Goals as goal

pub returns-in-Err-Refused-clause-refused : goal.returns-in-Err-Refused-clause-refused
returns-in-Err-Refused-clause-refused g c fault e = (c.in-Err-Refused.ensures.refused c.in-Err-Refused.fault (cc)).1
