use Rattle.std.proofs.Common.{arith}
use Rattle.std.proofs.lemmas.Grind.{common_steps}
use Rattle.desk_text.proofs.request_text.append_request.Goals as goal

pub append_hosts-requires : goal.append_hosts-requires
append_hosts-requires g c = grind (arith, common_steps)

pub returns-in-Receive-clause-text : goal.returns-in-Receive-clause-text
returns-in-Receive-clause-text g c = grind (arith, common_steps)

pub returns-in-AddHolder-clause-text : goal.returns-in-AddHolder-clause-text
returns-in-AddHolder-clause-text g c = grind (arith, common_steps)

pub returns-in-EditHolder-clause-text : goal.returns-in-EditHolder-clause-text
returns-in-EditHolder-clause-text g c = grind (arith, common_steps)

pub returns-in-Reserve-clause-text : goal.returns-in-Reserve-clause-text
returns-in-Reserve-clause-text g c = grind (arith, common_steps)

pub returns-in-Unreserve-clause-text : goal.returns-in-Unreserve-clause-text
returns-in-Unreserve-clause-text g c = grind (arith, common_steps)

pub returns-in-SubAssign-clause-text : goal.returns-in-SubAssign-clause-text
returns-in-SubAssign-clause-text g c = grind (arith, common_steps)

pub returns-in-SubReturn-clause-text : goal.returns-in-SubReturn-clause-text
returns-in-SubReturn-clause-text g c = grind (arith, common_steps)

pub returns-in-Return-clause-text : goal.returns-in-Return-clause-text
returns-in-Return-clause-text g c = grind (arith, common_steps)

pub returns-in-Release-clause-text : goal.returns-in-Release-clause-text
returns-in-Release-clause-text g c = grind (arith, common_steps)

pub returns-in-Split-clause-text : goal.returns-in-Split-clause-text
returns-in-Split-clause-text g c = grind (arith, common_steps)

pub returns-in-Join-clause-text : goal.returns-in-Join-clause-text
returns-in-Join-clause-text g c = grind (arith, common_steps)

pub returns-in-Transfer-clause-text : goal.returns-in-Transfer-clause-text
returns-in-Transfer-clause-text g c = grind (arith, common_steps)

pub returns-in-SetReverse-clause-text : goal.returns-in-SetReverse-clause-text
returns-in-SetReverse-clause-text g c = grind (arith, common_steps)

pub returns-in-ClearReverse-clause-text : goal.returns-in-ClearReverse-clause-text
returns-in-ClearReverse-clause-text g c = grind (arith, common_steps)
