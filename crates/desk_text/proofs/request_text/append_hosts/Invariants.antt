use Rattle.std.proofs.Common.{◌≡◌, ◌+◌, ◌*◌, ◌≤◌, ◌++◌, drop}
use Rattle.arrayvec.specs.ArrayVec.{array_vec_len}
use Rattle.desk_text.specs.RequestText.{hosts_text}
use Rattle.desk_text.proofs.request_text.append_hosts.Given as goal

abbrev pub invariant-loop-host : goal.invariant-loop-host
invariant-loop-host g l = record {
  text : l.out.items ++ hosts_text (drop l.host-index l.hosts) ≡ l.fn.out.items ++ hosts_text l.hosts;
  len : array_vec_len l.out ≤ array_vec_len l.fn.out + 97 * l.host-index;
}
