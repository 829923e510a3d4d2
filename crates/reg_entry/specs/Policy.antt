-- The policy as contracts see it: who may ask, and what each kind of delegation allows.
use Rattle.std.specs.Prelude.{◌≡◌, ℕ, ◌≤◌, Bool, true, List, bytes_eq}
use Rattle.std.specs.List.{list_any}
use Rattle.num_range.specs.declared.space.Space.{Space}
use Rattle.num_range.specs.declared.space.Space.TheVariants.{Asn, Ipv4, Ipv6}
use Rattle.reg_entry.specs.declared.kind.Kind.{Kind}
use Rattle.reg_entry.specs.declared.kind.Kind.TheVariants.{Lir, EndUser}
use Rattle.reg_entry.specs.declared.card.Status.{Status}
use Rattle.reg_entry.specs.declared.card.Status.TheVariants.{Assigned}
use Rattle.reg_entry.specs.declared.policy.Row.{Row}
use Rattle.reg_entry.specs.declared.policy.ZoneTerms.{ZoneTerms}
use Rattle.reg_entry.specs.Request.{has_size}

-- what a space's numbers may be delegated as
pub record PlainRows : Type 0 where
  pub allocated : Row
  pub assigned : Row

-- the names and keys of the hostmasters are in the order of the names
pub record PlainPolicy : Type 0 where
  pub registry : List ℕ
  pub quarantine_days : ℕ
  pub hold_days : ℕ
  pub hostmasters : List (List ℕ × List ℕ)
  pub zone : ZoneTerms
  pub asn : PlainRows
  pub ipv4 : PlainRows
  pub ipv6 : PlainRows

abbrev pub rows_of : PlainPolicy → Space → PlainRows
rows_of p Asn = p.asn
rows_of p Ipv4 = p.ipv4
rows_of p Ipv6 = p.ipv6

abbrev pub row_in : PlainRows → Status → Row
row_in rows Assigned = rows.assigned
row_in rows status = rows.allocated

-- the row of a space and of one of the two statuses of delegated pieces
abbrev pub policy_row : PlainPolicy → Space → Status → Row
policy_row p space status = row_in (rows_of p space) status

-- the policy has a hostmaster of this name
abbrev pub is_hostmaster : PlainPolicy → List ℕ → Bool
is_hostmaster p who = list_any (λ h. bytes_eq h.0 who) p.hostmasters

-- the row lists holders of this kind
abbrev pub lists_kind : Row → Kind → Bool
lists_kind row Lir = row.lir
lists_kind row EndUser = row.enduser

-- the amounts that a row allows can be asked for
abbrev pub IsRowOf : Space → Row → Type 0
IsRowOf space row = (amount : ℕ) → row.least ≤ amount → amount ≤ row.most → has_size space amount ≡ true

pub record IsPolicy (p : PlainPolicy) : Type 0 where
  pub rows : (space : Space) (status : Status) → IsRowOf space (policy_row p space status)
