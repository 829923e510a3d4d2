-- What a network is made of, and which facts are those of a registration.
use Rattle.std.specs.Prelude.{◌≤◌, ◌↔◌, ◌≡◌, IsSome}
use Rattle.reg_entry.specs.Days.{last_date}
use Rattle.rdap_json.specs.declared.facts.NetFacts.{NetFacts}
use Rattle.rdap_json.specs.declared.facts.NetKind.TheVariants.{Sub}

-- the day is one that is written, and there is a parent exactly where the network is a sub-assignment
pub record AreNetFacts (facts : NetFacts) : Type 0 where
  pub day : (1 ≤ facts.day) × (facts.day ≤ last_date)
  pub parent : IsSome facts.parent ↔ (facts.kind ≡ Sub)
