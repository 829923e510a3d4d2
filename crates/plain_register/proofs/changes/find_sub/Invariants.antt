use Rattle.std.proofs.Common.{◌≡◌, find, drop}
use Rattle.num_range.specs.Range.{same_range}
use Rattle.plain_register.proofs.changes.find_sub.Given as goal

abbrev pub invariant-loop-sub : goal.invariant-loop-sub
invariant-loop-sub l = find (λ s. same_range s.0 l.range) (drop l.sub-index l.subs) ≡ find (λ s. same_range s.0 l.range) l.subs
