-- The values of the file that all reverse zones share.
use Rattle.std.specs.Prelude.{ℕ, ◌-◌, ◌^◌, Bool, ◌&&◌, nat_le, if◌then◌else◌, codes, List, length, Result, Ok, Err}
use Rattle.std.specs.List.{list_all}
use Rattle.reg_entry.specs.declared.policy.ZoneTerms.{ZoneTerms}
use Rattle.reg_entry.specs.Host.{is_host}
use Rattle.toml.specs.Data.{Members}
use Rattle.policy_table.specs.declared.fault.PolicyFault.{PolicyFault}
use Rattle.policy_table.specs.declared.fault.PolicyFault.TheVariants.{Bounds}
use Rattle.policy_table.specs.Section.{◌>>=◌, table_at, integer_at, host_at, texts_at}

-- a time in seconds, of 31 bits (RFC 2181 8)
abbrev pub seconds_at : ℕ → List ℕ → Members → Result ℕ PolicyFault
seconds_at key name zone = integer_at key name 0 (2 ^ 31 - 1) zone

-- one to four hosts
abbrev pub are_servers : List (List ℕ) → Bool
are_servers texts = nat_le 1 (length texts) && nat_le (length texts) 4 && list_all is_host texts

unfoldable pub servers_at : ℕ → List ℕ → Members → Result (List (List ℕ)) PolicyFault
servers_at key name zone = do
  texts ← texts_at key name zone
  if are_servers texts then Ok texts else Err (Bounds key)

-- keys 5 to 12
unfoldable pub zone_at : Members → Result ZoneTerms PolicyFault
zone_at top = do
  zone ← table_at 5 (codes "zone") top
  mname ← host_at 5 (codes "mname") zone
  rname ← host_at 6 (codes "rname") zone
  ttl ← seconds_at 7 (codes "ttl") zone
  refresh ← seconds_at 8 (codes "refresh") zone
  retry ← seconds_at 9 (codes "retry") zone
  expire ← seconds_at 10 (codes "expire") zone
  minimum ← seconds_at 11 (codes "minimum") zone
  servers ← servers_at 12 (codes "servers") zone
  Ok (record {
    mname = mname;
    rname = rname;
    ttl = ttl;
    refresh = refresh;
    retry = retry;
    expire = expire;
    minimum = minimum;
    servers = servers;
  })
