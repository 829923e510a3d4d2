-- The policy that a file says, or its first fault: its 39 keys are tested in the order of their numbers.
use Rattle.std.specs.Prelude.{◌≡◌, ℕ, ◌≤◌, Bool, true, ◌&&◌, nat_le, if◌then◌else◌, bytes_eq, codes, List, [], ◌∷◌, length, Option, option_map, find, Result, Ok, Err}
use Rattle.std.specs.List.{list_all}
use Rattle.num_range.specs.declared.space.Space.TheVariants.{Asn, Ipv4, Ipv6}
use Rattle.reg_entry.specs.Name.{is_small_letter}
use Rattle.reg_entry.specs.Policy.{PlainPolicy, IsPolicy}
use Rattle.toml.specs.Data.{Members}
use Rattle.policy_table.specs.declared.fault.PolicyFault.{PolicyFault}
use Rattle.policy_table.specs.declared.fault.PolicyFault.TheVariants.{TooLong, Text, Missing, Wrong, Bounds, NoMemory}
use Rattle.policy_table.specs.Document.{document_of}
use Rattle.policy_table.specs.Section.{◌>>=◌, text_at, integer_at}
use Rattle.policy_table.specs.Hostmasters.{are_hostmasters, AreRising, hostmasters_at}
use Rattle.policy_table.specs.Rows.{rows_at}
use Rattle.policy_table.specs.Zone.{zone_at}

-- 3 to 12 small letters
abbrev pub is_registry : List ℕ → Bool
is_registry text = nat_le 3 (length text) && nat_le (length text) 12 && list_all is_small_letter text

unfoldable pub registry_at : ℕ → List ℕ → Members → Result (List ℕ) PolicyFault
registry_at key name top = do
  text ← text_at key name top
  if is_registry text then Ok text else Err (Bounds key)

-- at most a hundred years of 365 days
abbrev pub days_at : ℕ → List ℕ → Members → Result ℕ PolicyFault
days_at key name top = integer_at key name 0 36500 top

-- what a document says: keys 1 to 4, the zone's 5 to 12, and nine of each space
unfoldable pub policy_in : Members → Result PlainPolicy PolicyFault
policy_in top = do
  registry ← registry_at 1 (codes "registry") top
  quarantine_days ← days_at 2 (codes "quarantine_days") top
  hold_days ← days_at 3 (codes "hold_days") top
  hostmasters ← hostmasters_at 4 (codes "hostmasters") top
  zone ← zone_at top
  ipv4 ← rows_at 13 Ipv4 top
  ipv6 ← rows_at 22 Ipv6 top
  asn ← rows_at 31 Asn top
  Ok (record {
    registry = registry;
    quarantine_days = quarantine_days;
    hold_days = hold_days;
    hostmasters = hostmasters;
    zone = zone;
    asn = asn;
    ipv4 = ipv4;
    ipv6 = ipv6;
  })

-- what a file says
unfoldable pub policy_of : List ℕ → Result PlainPolicy PolicyFault
policy_of bytes = if nat_le (length bytes) 65536 then (document_of bytes >>= policy_in) else Err TooLong

-- a key's fault has the number of one of the 39 keys
abbrev pub HasKey : PolicyFault → Type 0
HasKey (Missing key) = (1 ≤ key) × (key ≤ 39)
HasKey (Wrong key) = (1 ≤ key) × (key ≤ 39)
HasKey (Bounds key) = (1 ≤ key) × (key ≤ 39)
HasKey TooLong = Unit {0}
HasKey Text = Unit {0}
HasKey NoMemory = Unit {0}

-- what each policy that was read keeps
pub record IsWellFormed (p : PlainPolicy) : Type 0 where
  pub registry : is_registry p.registry ≡ true
  pub quarantine : p.quarantine_days ≤ 36500
  pub hold : p.hold_days ≤ 36500
  pub hostmasters : are_hostmasters p.hostmasters ≡ true
  pub rising : AreRising p.hostmasters
  pub rows : IsPolicy p

abbrev pub first_name : List (List ℕ × List ℕ) → List ℕ
first_name [] = []
first_name (h ∷ hs) = h.0

-- the name of the hostmaster who has the token
abbrev pub hostmaster_with : PlainPolicy → List ℕ → Option (List ℕ)
hostmaster_with p token = option_map (λ h. h.0) (find (λ h. bytes_eq h.1 token) p.hostmasters)
