use Rattle.std.proofs.Common.{refl}
use Rattle.desk_tests.proofs.Breaking.{worse, caused}
use Rattle.desk_tests.proofs.hall_tests.BrokenBackend.submit.Goals as goal

pub returns-clause-submitted : goal.returns-clause-submitted
returns-clause-submitted c before stands = (worse before, tt, (tt, refl, caused _ before))
