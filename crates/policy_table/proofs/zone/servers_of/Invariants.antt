use Rattle.std.proofs.Common.{◌≡◌, length, take, map, true}
use Rattle.std.specs.List.{list_all}
use Rattle.reg_entry.specs.Host.{is_host}
use Rattle.toml.specs.View.{view}
use Rattle.policy_table.specs.Section.{string_of}
use Rattle.policy_table.proofs.zone.servers_of.Given as goal

abbrev pub invariant-loop-place : goal.invariant-loop-place
invariant-loop-place l =
    (take l.place l.hosts ≡ take l.place (map (λ v. string_of (view v)) l.values)) × (list_all is_host (take l.place (map (λ v. string_of (view v)) l.values)) ≡ true) × (length l.hosts ≡ 4)
