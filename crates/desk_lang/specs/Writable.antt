-- Which requests have a written text that is read again: those whose parts are of their forms.
use Rattle.std.specs.Prelude.{ℕ, ◌≤◌, List, length, IsTrue}
use Rattle.std.specs.List.{All}
use Rattle.num_range.specs.Number.{IsNumber}
use Rattle.num_range.specs.Range.{IsRange}
use Rattle.reg_entry.specs.declared.holder.Holder.{Holder}
use Rattle.reg_entry.specs.declared.request.Request.{Request}
use Rattle.reg_entry.specs.declared.request.Request.TheVariants.{Receive, AddHolder, EditHolder, Delegate, Reserve, Unreserve, SubAssign, SubReturn, Return, Release, Split, Join, Transfer, SetReverse, ClearReverse}
use Rattle.reg_entry.specs.Cc.{is_cc}
use Rattle.reg_entry.specs.Handle.{is_handle}
use Rattle.reg_entry.specs.Host.{is_host}
use Rattle.reg_entry.specs.Request.{has_size}
use Rattle.reg_entry.specs.Text.{is_text}

-- each field is of its form
pub record IsWritableHolder (h : Holder) : Type 0 where
  pub handle : IsTrue (is_handle h.handle)
  pub cc : IsTrue (is_cc h.cc)
  pub name : IsTrue (is_text h.name)
  pub email : IsTrue (is_text h.email)

abbrev pub AreWritableHosts : List (List ℕ) → Type 0
AreWritableHosts hosts = All (λ host. IsTrue (is_host host)) hosts

-- ranges and numbers are those of their spaces, an amount can be asked for, handles are of their form, and a reverse
-- entry has one to four hosts
abbrev pub IsWritable : Request → Type 0
IsWritable (Receive range) = IsRange range
IsWritable (AddHolder holder) = IsWritableHolder holder
IsWritable (EditHolder holder) = IsWritableHolder holder
IsWritable (Delegate space amount status handle) = IsTrue (has_size space amount) × IsTrue (is_handle handle)
IsWritable (Reserve range) = IsRange range
IsWritable (Unreserve range) = IsRange range
IsWritable (SubAssign range handle) = IsRange range × IsTrue (is_handle handle)
IsWritable (SubReturn range) = IsRange range
IsWritable (Return range handle) = IsRange range × IsTrue (is_handle handle)
IsWritable (Release range) = IsRange range
IsWritable (Split at) = IsNumber at
IsWritable (Join at) = IsNumber at
IsWritable (Transfer range from to) = IsRange range × IsTrue (is_handle from) × IsTrue (is_handle to)
IsWritable (SetReverse range servers) =
    IsRange range × (1 ≤ length servers) × (length servers ≤ 4) × AreWritableHosts servers
IsWritable (ClearReverse range) = IsRange range
