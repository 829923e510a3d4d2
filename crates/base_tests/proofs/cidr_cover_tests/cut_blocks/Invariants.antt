use Rattle.std.proofs.Common.{◌≡◌}
use Rattle.base_tests.proofs.cidr_cover_tests.cut_blocks.Given as goal

abbrev pub invariant-loop-block : goal.invariant-loop-block
invariant-loop-block l = l.blocks.items ≡ l.yielded
