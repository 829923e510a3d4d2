use Rattle.mirror_core.proofs.Feeding.{fault_stays}
use Rattle.mirror_core.proofs.laws.faults_stay.Goals as goal

pub returns : goal.returns
returns c m f bytes h = fault_stays m f h bytes
