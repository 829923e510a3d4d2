-- Objects whose parts are of their forms, as the types of the parts keep them.
use Rattle.std.specs.Prelude.{ℕ, Bool, ◌&&◌, ◌||◌, nat_le, List, length, Option, None, Some, IsTrue}
use Rattle.std.specs.List.{list_all, All}
use Rattle.num_range.specs.Range.{IsRange}
use Rattle.reg_entry.specs.declared.holder.Holder.{Holder}
use Rattle.reg_entry.specs.declared.object.Object.{Object}
use Rattle.reg_entry.specs.declared.object.Object.TheVariants.{Org, Block, Sub, Cut}
use Rattle.reg_entry.specs.Cc.{is_cc}
use Rattle.reg_entry.specs.Handle.{is_capital, is_handle}
use Rattle.reg_entry.specs.Host.{is_host}
use Rattle.reg_entry.specs.Name.{is_digit}
use Rattle.reg_entry.specs.Text.{is_text}

pub record HasFields (h : Holder) : Type 0 where
  pub handle : IsTrue (is_handle h.handle)
  pub cc : IsTrue (is_cc h.cc)
  pub name : IsTrue (is_text h.name)
  pub email : IsTrue (is_text h.email)

abbrev pub HasHandle : Option (List ℕ) → Type 0
HasHandle None = Unit {0}
HasHandle (Some handle) = IsTrue (is_handle handle)

-- handles, countries, texts and hosts are of their forms, and ranges are those of their spaces
abbrev pub HasForms : Object → Type 0
HasForms (Org holder day) = HasFields holder
HasForms (Block range status handle day until) = IsRange range × HasHandle handle
HasForms (Sub range handle day) = IsRange range × IsTrue (is_handle handle)
HasForms (Cut block servers) = All (λ server. IsTrue (is_host server)) servers

-- the name of a registry: 1 to 24 capital letters and digits
abbrev pub is_source_byte : ℕ → Bool
is_source_byte b = is_capital b || is_digit b

abbrev pub is_source : List ℕ → Bool
is_source source = nat_le 1 (length source) && nat_le (length source) 24 && list_all is_source_byte source
