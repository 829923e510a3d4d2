use Rattle.std.proofs.Common.{◌≡◌, length, All}
use Rattle.httparse.specs.Spans.{IsHeaderWithin}
use Rattle.wire_http.specs.Occurrence.{values_in}
use Rattle.wire_http.proofs.head.next_named.Given as goal

abbrev pub invariant-loop-left : goal.invariant-loop-left
invariant-loop-left l = record {
  within : All (IsHeaderWithin (length l.bytes)) l.left;
  values : values_in l.bytes l.left l.name ≡ values_in l.bytes l.headers l.name;
}

abbrev pub decreases-loop-left : goal.decreases-loop-left
decreases-loop-left l = length l.left
