-- Whose stream a mirror is fed.
use Rattle.std.specs.Prelude.{List, ℕ, IsTrue}
use Rattle.std.specs.List.{All, AllByRecursion}
use Rattle.reg_entry.specs.declared.request.Request.{Request}
use Rattle.reg_entry.specs.declared.request.Request.TheVariants.{AddHolder, EditHolder, SetReverse}
use Rattle.reg_entry.specs.declared.rooms.Rooms.{Rooms}
use Rattle.reg_entry.specs.Entry.{PlainEntry}
use Rattle.reg_entry.specs.Host.{is_host}
use Rattle.reg_entry.specs.Next.{IsLegal}
use Rattle.reg_entry.specs.Rooms.{AreRooms}
use Rattle.rpsl_text.specs.Forms.{HasFields, is_source}

-- the fields of holders and the names of servers that a request brings are of their forms, as their types keep them
abbrev pub HasRequestForms : Request → Type 0
HasRequestForms (AddHolder holder) = HasFields holder
HasRequestForms (EditHolder holder) = HasFields holder
HasRequestForms (SetReverse range servers) = All (λ server. IsTrue (is_host server)) servers
HasRequestForms request = Unit {0}

abbrev pub HaveForms : List PlainEntry → Type 0
HaveForms es = AllByRecursion (λ e. HasRequestForms e.request) es

-- the entries are legal, and their operations are published under this name
pub record ArePublished (rooms : Rooms) (es : List PlainEntry) (source : List ℕ) : Type 0 where
  pub room : AreRooms rooms
  pub legal : IsLegal rooms es
  pub forms : HaveForms es
  pub named : IsTrue (is_source source)
