-- Requests: what their words mean apart from any register.
use Rattle.std.specs.Prelude.{◌≡◌, ℕ, Bool, true, false, ◌&&◌, nat_le, List, length}
use Rattle.num_range.specs.Number.{PlainNumber}
use Rattle.num_range.specs.Range.{PlainRange}
use Rattle.num_range.specs.Space.{top_of}
pub use Rattle.num_range.specs.Amount.{amount_size, has_size}
use Rattle.reg_entry.specs.declared.card.Status.{Status}
use Rattle.reg_entry.specs.declared.card.Status.TheVariants.{Allocated, Assigned}
use Rattle.reg_entry.specs.declared.request.Request.{Request}
use Rattle.reg_entry.specs.declared.request.Request.TheVariants.{Receive, AddHolder, EditHolder, Delegate, Reserve, Unreserve, SubAssign, SubReturn, Return, Release, Split, Join, Transfer, SetReverse, ClearReverse}
use Rattle.reg_entry.specs.declared.request.Delegation.{Delegation}
use Rattle.reg_entry.specs.declared.request.Delegation.TheVariants.{Allocate, Assign}

-- the status of the piece that is delegated so
abbrev pub status_of : Delegation → Status
status_of Allocate = Allocated
status_of Assign = Assigned

-- the request cuts or joins pieces, and paints nothing
abbrev pub is_reshaping : Request → Bool
is_reshaping (Split at) = true
is_reshaping (Join at) = true
is_reshaping request = false

-- the amount of a Delegate is one that can be asked for
abbrev pub IsSizedRequest : Request → Type 0
IsSizedRequest (Delegate space amount status handle) = has_size space amount ≡ true
IsSizedRequest request = Unit {0}

-- the numbers of a range are its space's
abbrev pub is_range : PlainRange → Bool
is_range r = nat_le r.first r.last && nat_le r.last (top_of r.space)

abbrev pub is_number : PlainNumber → Bool
is_number n = nat_le n.value (top_of n.space)

-- a reverse entry has one to four name servers
abbrev pub is_server_count : List (List ℕ) → Bool
is_server_count hosts = nat_le 1 (length hosts) && nat_le (length hosts) 4

-- the ranges and numbers that a request names are those of their spaces, and its servers as many as there may be, as
-- those of each request of the program are
abbrev pub is_request : Request → Bool
is_request (Receive range) = is_range range
is_request (AddHolder holder) = true
is_request (EditHolder holder) = true
is_request (Delegate space amount status handle) = true
is_request (Reserve range) = is_range range
is_request (Unreserve range) = is_range range
is_request (SubAssign range handle) = is_range range
is_request (SubReturn range) = is_range range
is_request (Return range handle) = is_range range
is_request (Release range) = is_range range
is_request (Split at) = is_number at
is_request (Join at) = is_number at
is_request (Transfer range from to) = is_range range
is_request (SetReverse range servers) = is_range range && is_server_count servers
is_request (ClearReverse range) = is_range range
