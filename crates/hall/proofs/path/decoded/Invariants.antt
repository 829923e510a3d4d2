use Rattle.std.proofs.Common.{◌≡◌, ◌++◌}
use Rattle.percent_encoding.specs.Percent.{percent_decode as spec_decode}
use Rattle.percent_encoding.specs.Iter.{decoded_bytes}
use Rattle.hall.proofs.path.decoded.Given as goal

abbrev pub invariant-bytes : goal.invariant-bytes
invariant-bytes l =
    (goal.iterator-bytes).can_next l.byte-iterator ×
    (goal.iterator-bytes).is_finite l.byte-iterator ×
    (l.text.items ++ decoded_bytes l.byte-iterator ≡ spec_decode l.segment)
