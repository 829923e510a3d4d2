use Rattle.wire_http.proofs.Unique.{fault_stays}
use Rattle.wire_http.proofs.laws.faults_stay.Goals as goal

pub returns : goal.returns
returns c = fault_stays
