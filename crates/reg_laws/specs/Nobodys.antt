-- Requests for numbers that are no holder's, before and after.
use Rattle.std.specs.Prelude.{Bool, true, false}
use Rattle.reg_entry.specs.declared.request.Request.{Request}
use Rattle.reg_entry.specs.declared.request.Request.TheVariants.{Receive, Reserve, Unreserve, Release}

abbrev pub is_of_nobodys : Request → Bool
is_of_nobodys (Receive range) = true
is_of_nobodys (Reserve range) = true
is_of_nobodys (Unreserve range) = true
is_of_nobodys (Release range) = true
is_of_nobodys request = false
