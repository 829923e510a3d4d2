use Rattle.std.proofs.Common.{◌-◌, ◌≤◌, ◌&&◌, nat_lt}
use Rattle.piece_book.specs.Free.{serves, IsLeastFirst}
use Rattle.piece_book.proofs.free.keys.least_first.Given as goal

-- the keys below the class that is sought next were seen
abbrev pub invariant-loop-key : goal.invariant-loop-key
invariant-loop-key l = record {
  from : l.fn.class ≤ l.class;
  most : l.class ≤ 1025;
  seen : IsLeastFirst (λ key. serves l.space l.fn.class key && nat_lt key.class l.class) l.keys.pairs l.least;
}

abbrev pub decreases-loop-key : goal.decreases-loop-key
decreases-loop-key l = 1025 - l.class
