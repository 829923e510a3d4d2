use Rattle.std.proofs.Common.{refl}
use Rattle.desk_tests.proofs.Breaking.{worse, caused}
use Rattle.desk_tests.proofs.hall_tests.BrokenBackend.look.Goals as goal

pub returns-clause-looked : goal.returns-clause-looked
returns-clause-looked g c before stands = (worse before, tt, refl, caused _ before)
