use Rattle.std.proofs.Common.{◌≡◌, ◌++◌, true}
use Rattle.std.specs.List.{list_all}
use Rattle.toml.specs.View.{table_view, members_view}
use Rattle.policy_table.specs.Hostmasters.{texts_in, is_name_and_key}
use Rattle.policy_table.proofs.hostmasters.listed.Given as goal

abbrev pub invariant-loop-name : goal.invariant-loop-name
invariant-loop-name l =
    (l.hostmasters.items ++ texts_in (members_view l.name-iterator) ≡ texts_in (table_view l.table)) × (list_all is_name_and_key l.hostmasters.items ≡ true)
