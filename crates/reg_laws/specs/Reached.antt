-- The registers that legal lists of entries give.
use Rattle.std.specs.Prelude.{◌≡◌, List}
use Rattle.reg_entry.specs.Entry.{PlainEntry}
use Rattle.reg_entry.specs.Register.{Register, register_after}
use Rattle.reg_entry.specs.Next.{IsLegal}

-- the register is that of the entries, each of which might come next after those before it
pub record IsRegisterOf (r : Register) (es : List PlainEntry) : Type 0 where
  pub legal : IsLegal r.rooms es
  pub same : register_after r.rooms es ≡ r

-- the register is that of some legal list of entries
abbrev pub IsReached : Register → Type 0
IsReached r = (es : List PlainEntry) × IsRegisterOf r es
