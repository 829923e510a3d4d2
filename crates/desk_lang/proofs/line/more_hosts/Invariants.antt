use Rattle.std.proofs.Common.{◌≡◌, ◌≤◌, ◌-◌, ◌∷◌, [], length, take}
use Rattle.desk_lang.specs.Grammar.{more_hosts}
use Rattle.desk_lang.proofs.line.more_hosts.Given as goal

abbrev pub invariant-hosts : goal.invariant-hosts
invariant-hosts l =
    (more_hosts (4 - l.len) (take l.len l.hosts) l.rest ≡ more_hosts 3 (l.fn.first ∷ []) l.fn.rest)
    × (1 ≤ l.len) × (l.len ≤ 4) × (length l.hosts ≡ 4)

abbrev pub decreases-hosts : goal.decreases-hosts
decreases-hosts l = 4 - l.len
