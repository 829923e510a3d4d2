use Rattle.std.proofs.Common.{rules}
use Rattle.door_face.proofs.thread_spawner.ThreadSpawnerSpawner.count_back.Goals as goal

pub returns-clause-risen : goal.returns-clause-risen
returns-clause-risen c = search rules
