use Rattle.std.proofs.Common.{◌≡◌, ◌+◌, ◌*◌, ◌≤◌, ◌∷◌, ◌++◌, get_or, take}
use Rattle.std.specs.Net.Text.{groups_text}
use Rattle.arrayvec.specs.ArrayVec.{array_vec_len}
use Rattle.addr_text.proofs.ipv6.push_groups.Given as goal

abbrev pub invariant-loop-group : goal.invariant-loop-group
invariant-loop-group l =
    (l.out.items ≡ l.fn.out.items ++ groups_text (get_or l.groups 0 0 ∷ take l.group-index l.rest))
    × (array_vec_len l.out ≤ array_vec_len l.fn.out + (5 * l.group-index + 4))
