-- The amounts that a policy's row allows can be asked for.
use Rattle.std.proofs.Common.{◌≡◌, ℕ, ◌≤◌, true, sym, subst}
use Rattle.num_range.specs.declared.space.Space.{Space}
use Rattle.reg_entry.specs.declared.card.Status.{Status}
use Rattle.reg_entry.specs.declared.policy.Row.{Row}
use Rattle.reg_entry.specs.Policy.{PlainPolicy, policy_row, IsRowOf}
use Rattle.reg_entry.specs.Request.{has_size}
use Rattle.policy_table.specs.Policy.{IsWellFormed}

allows : (p : PlainPolicy) (space : Space) (status : Status) (row : Row) → IsWellFormed p → row ≡ policy_row p space status → IsRowOf space row
allows p space status row valid e = subst (IsRowOf space) (sym e) (valid.rows.rows space status)

pub row_allows : (p : PlainPolicy) (space : Space) (status : Status) (row : Row) (amount : ℕ) → IsWellFormed p → row ≡ policy_row p space status
    → row.least ≤ amount → amount ≤ row.most → has_size space amount ≡ true
row_allows p space status row amount valid e low high = allows p space status row valid e amount low high
