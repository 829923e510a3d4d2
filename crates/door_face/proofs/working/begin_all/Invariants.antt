use Rattle.std.specs.Prelude.{◌≡◌, ◌+◌, ◌≤◌, ◌++◌, map, vec_len, vec_capacity}
use Rattle.std.specs.Vec.Iter.{into_iter_items, into_iter_len}
use Rattle.door_face.proofs.working.begin_all.Given as goal

abbrev pub invariant-loop-duty : goal.invariant-loop-duty
invariant-loop-duty g l = record {
  begun : map (λ begun. begun.duty.value) l.all.items ++ into_iter_items l.duty-iterator ≡ l.fn.duties.items;
  room : vec_len l.all + into_iter_len l.duty-iterator ≤ vec_capacity l.all;
}
