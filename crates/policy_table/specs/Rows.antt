-- What the file allows of each kind of delegation, a row for each.
use Rattle.std.specs.Prelude.{ℕ, ◌+◌, ◌*◌, ◌^◌, Bool, ◌||◌, bytes_eq, if◌then◌else◌, codes, List, Result, Ok, Err}
use Rattle.std.specs.List.{list_all, list_any}
use Rattle.num_range.specs.declared.space.Space.{Space}
use Rattle.num_range.specs.declared.space.Space.TheVariants.{Asn, Ipv4, Ipv6}
use Rattle.reg_entry.specs.declared.policy.Row.{Row}
use Rattle.reg_entry.specs.declared.request.Delegation.{Delegation}
use Rattle.reg_entry.specs.declared.request.Delegation.TheVariants.{Allocate, Assign}
use Rattle.reg_entry.specs.Policy.{PlainRows}
use Rattle.toml.specs.Data.{Members}
use Rattle.policy_table.specs.declared.fault.PolicyFault.{PolicyFault}
use Rattle.policy_table.specs.declared.fault.PolicyFault.TheVariants.{Bounds}
use Rattle.policy_table.specs.declared.rows.Kinds.{Kinds}
use Rattle.policy_table.specs.declared.rows.Limits.{Limits}
use Rattle.policy_table.specs.Section.{◌>>=◌, table_at, integer_at, texts_at}

-- between which bounds the amounts of a space lie (prefix lengths, or counts of AS numbers), and how high its caps are
-- (in numbers, and for IPv6 in units of 2^64 numbers)
abbrev pub limits_of : Space → Limits
limits_of Ipv4 = record { least = 0; most = 32; cap = 2 ^ 32 }
limits_of Ipv6 = record { least = 3; most = 64; cap = 2 ^ 61 }
limits_of Asn = record { least = 1; most = 1024; cap = 2 ^ 32 }

-- how many numbers a cap of the file is
abbrev pub cap_size : Space → ℕ → ℕ
cap_size Ipv6 cap = cap * 2 ^ 64
cap_size space cap = cap

abbrev pub row_name : Delegation → List ℕ
row_name Allocate = codes "allocated"
row_name Assign = codes "assigned"

-- only an allocated row has a percentage
unfoldable pub percent_at : ℕ → Delegation → Members → Result ℕ PolicyFault
percent_at key Allocate row = integer_at key (codes "percent") 0 100 row
percent_at key Assign row = Ok 0

-- the kinds are the last key of a row
abbrev pub kinds_key : ℕ → Delegation → ℕ
kinds_key first Allocate = first + 4
kinds_key first Assign = first + 3

abbrev pub is_kind : List ℕ → Bool
is_kind text = bytes_eq text (codes "lir") || bytes_eq text (codes "enduser")

abbrev pub names_kind : List ℕ → List (List ℕ) → Bool
names_kind kind texts = list_any (λ text. bytes_eq text kind) texts

-- an array of the words of kinds
unfoldable pub kinds_at : ℕ → Members → Result Kinds PolicyFault
kinds_at key row = do
  texts ← texts_at key (codes "kinds") row
  if list_all is_kind texts
      then Ok (record { lir = names_kind (codes "lir") texts; enduser = names_kind (codes "enduser") texts })
      else Err (Bounds key)

-- a row, whose keys are numbered from the first
unfoldable pub row_at : ℕ → Space → Delegation → Members → Result Row PolicyFault
row_at first space delegation section = do
  row ← table_at first (row_name delegation) section
  least ← integer_at first (codes "least") (limits_of space).least (limits_of space).most row
  most ← integer_at (first + 1) (codes "most") least (limits_of space).most row
  cap ← integer_at (first + 2) (codes "cap") 0 (limits_of space).cap row
  percent ← percent_at (first + 3) delegation row
  kinds ← kinds_at (kinds_key first delegation) row
  Ok (record {
    least = least;
    most = most;
    cap = cap_size space cap;
    percent = percent;
    lir = kinds.lir;
    enduser = kinds.enduser;
  })

abbrev pub section_name : Space → List ℕ
section_name Ipv4 = codes "ipv4"
section_name Ipv6 = codes "ipv6"
section_name Asn = codes "asn"

-- the two rows of a space: five keys from the first, and four
unfoldable pub rows_at : ℕ → Space → Members → Result PlainRows PolicyFault
rows_at first space top = do
  section ← table_at first (section_name space) top
  allocated ← row_at first space Allocate section
  assigned ← row_at (first + 5) space Assign section
  Ok (record { allocated = allocated; assigned = assigned })
