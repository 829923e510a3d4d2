use Rattle.std.specs.Prelude.{◌≡◌, ◌+◌, ◌≤◌, ◌++◌, true, List, vec_len, vec_capacity}
use Rattle.std.specs.List.{AllZip, list_any}
use Rattle.std.specs.Vec.Iter.{into_iter_items, into_iter_len}
use Rattle.door_face.specs.Duties.{EndsAs, is_back}
use Rattle.door_face.proofs.working.work_in_turn.Given as goal

-- whatever becomes of the duties that are left, behind what became of the others, is what becomes of all
abbrev pub invariant-loop-duty : goal.invariant-loop-duty
invariant-loop-duty g l = record {
  ends : (more : List _) → AllZip (EndsAs g.W.Duty.done) (into_iter_items l.duty-iterator) more
      → AllZip (EndsAs g.W.Duty.done) l.fn.duties.items (l.outcomes.items ++ more);
  back : list_any is_back l.outcomes.items ≡ true → g.S.Spawner.can_refuse ≡ true;
  faults : g.S.Spawner.faults l.spawner ≡ g.S.Spawner.faults l.initial.spawner;
  room : vec_len l.outcomes + into_iter_len l.duty-iterator ≤ vec_capacity l.outcomes;
}
