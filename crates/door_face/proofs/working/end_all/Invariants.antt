use Rattle.std.specs.Prelude.{◌+◌, ◌≤◌, ◌++◌, List, map, vec_len, vec_capacity}
use Rattle.std.specs.List.{AllZip}
use Rattle.std.specs.Vec.Iter.{into_iter_items, into_iter_len}
use Rattle.door_face.specs.Duties.{EndsAs}
use Rattle.door_face.proofs.working.end_all.Given as goal

-- whatever becomes of the duties that are left, behind what became of the others, is what becomes of all
abbrev pub invariant-loop-begun : goal.invariant-loop-begun
invariant-loop-begun g l = record {
  ends : (more : List _) → AllZip (EndsAs g.W.Duty.done) (map (λ begun. begun.duty.value) (into_iter_items l.begun-iterator)) more
      → AllZip (EndsAs g.W.Duty.done) (map (λ begun. begun.duty.value) l.fn.all.items) (l.outcomes.items ++ more);
  room : vec_len l.outcomes + into_iter_len l.begun-iterator ≤ vec_capacity l.outcomes;
}
