use Rattle.std.proofs.Common.{◌≡◌, ◌++◌}
use Rattle.std.specs.List.{flat_map}
use Rattle.nrtm_stream.specs.Stream.{operation_text}
use Rattle.nrtm_stream.specs.Answer.{operations_between}
use Rattle.nrtm_stream.proofs.stream.append_operations.Given as goal

abbrev pub invariant-loop-serial : goal.invariant-loop-serial
invariant-loop-serial l =
    l.body ++ flat_map (operation_text l.source) (operations_between l.board l.serial l.last)
    ≡ l.fn.body ++ flat_map (operation_text l.source) (operations_between l.board l.first l.last)
