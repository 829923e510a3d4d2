-- A policy's fields as the plain policy that contracts see.
use Rattle.reg_entry.specs.Policy.{PlainPolicy}
use Rattle.policy_table.specs.declared.policy.Policy.TheInside.{Inside}
use Rattle.policy_table.specs.Policy.{IsWellFormed}

abbrev pub plain_policy : Inside → PlainPolicy
plain_policy p = record {
  registry = p.registry;
  quarantine_days = p.quarantine_days;
  hold_days = p.hold_days;
  hostmasters = p.hostmasters.items;
  zone = p.zone;
  asn = p.asn;
  ipv4 = p.ipv4;
  ipv6 = p.ipv6;
}

abbrev pub IsValid : Inside → Type 0
IsValid p = IsWellFormed (plain_policy p)
