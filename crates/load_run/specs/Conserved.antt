-- What a load's register keeps. It is a record, so that what stands on it need not work the load out.
use Rattle.std.specs.Prelude.{ℕ, List}
use Rattle.reg_entry.specs.declared.rooms.Rooms.{Rooms}
use Rattle.reg_entry.specs.Entry.{PlainEntry}
use Rattle.reg_entry.specs.Policy.{PlainPolicy}
use Rattle.board.specs.Conserved.{IsConservedBy}
use Rattle.load_gen.specs.Load.{loaded}

-- The register of so many draws of a seed is that of these legal entries, and has just the numbers that they received.
pub record IsConservedLoad (rooms : Rooms) (policy : PlainPolicy) (who : List ℕ) (seed count : ℕ) : Type 0 where
  pub entries : List PlainEntry
  pub conserved : IsConservedBy (loaded rooms policy who seed count).register entries
