use Rattle.std.proofs.Common.{ℕ, ◌<◌, List, IsTrue, slice_index_or}
use Rattle.reg_entry.specs.Host.{is_host}
use Rattle.rpsl_text.proofs.laws.are_hosts.Given as goal

abbrev pub invariant-loop-host : goal.invariant-loop-host
invariant-loop-host l = (k : ℕ) (d : List ℕ) → k < l.host-index → IsTrue (is_host (slice_index_or l.hosts k d))
