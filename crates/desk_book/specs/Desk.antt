-- What a desk's answer says of the entries that the pass has seen.
use Rattle.std.specs.Prelude.{◌≡◌, ◌+◌, ℕ, List, ◌∷◌, [], ◌++◌, Option, None, Some, take, length}
use mathlib.Core.List.{IsPrefix}
use Rattle.reg_entry.specs.declared.rooms.Rooms.{Rooms}
use Rattle.reg_entry.specs.declared.entry.Reply.{Reply}
use Rattle.reg_entry.specs.declared.entry.Reply.TheVariants.{Accepted, Refused}
use Rattle.reg_entry.specs.declared.request.Request.{Request}
use Rattle.reg_entry.specs.Entry.{PlainEntry}
use Rattle.reg_entry.specs.Policy.{PlainPolicy}
use Rattle.reg_entry.specs.Decision.{decision}
use Rattle.reg_entry.specs.Register.{register_after}
use Rattle.desk_book.specs.Reply.{with_reply}

-- The request is decided on the register of these entries, which begin with those that had been seen; they and the one
-- that it became are counted, and have been seen by then. Others may have entered theirs before.
pub record IsAnsweredOn (rooms : Rooms) (policy : PlainPolicy) (day : ℕ) (who : List ℕ) (request : Request)
    (before : List PlainEntry) (reply : Reply) (number : ℕ) (after : List PlainEntry) (es : List PlainEntry) : Type 0 where
  pub seen : IsPrefix before es
  pub reply_is : reply ≡ decision (register_after rooms es) policy day who request
  pub number_is : number ≡ length (with_reply es reply)
  pub learnt : IsPrefix (with_reply es reply) after

-- A refusal is the decision on the register of the first so many entries of the list; an entry has this number in the
-- list, and is the decision on the register of those before it.
abbrev pub IsReplyAt : Rooms → PlainPolicy → ℕ → List ℕ → Request → List PlainEntry → Reply → ℕ → Type 0
IsReplyAt rooms policy day who request es (Refused refusal) number =
    Refused refusal ≡ decision (register_after rooms (take number es)) policy day who request
IsReplyAt rooms policy day who request es (Accepted e) number =
    (place : ℕ) × (number ≡ place + 1) × (take number es ≡ take place es ++ e ∷ [])
    × (Accepted e ≡ decision (register_after rooms (take place es)) policy day who request)

-- The request became the entry of this number, behind entries that begin with those that had been seen.
pub record IsEnteredOn (rooms : Rooms) (policy : PlainPolicy) (day : ℕ) (who : List ℕ) (request : Request)
    (before : List PlainEntry) (number : ℕ) (es : List PlainEntry) (e : PlainEntry) : Type 0 where
  pub seen : IsPrefix before es
  pub entry : decision (register_after rooms es) policy day who request ≡ Accepted e
  pub number_is : number ≡ length es + 1

abbrev pub IsEntered : Rooms → PlainPolicy → ℕ → List ℕ → Request → List PlainEntry → Option ℕ → Type 0
IsEntered rooms policy day who request before None = Unit {0}
IsEntered rooms policy day who request before (Some number) =
    (es : List PlainEntry) × (e : PlainEntry) × IsEnteredOn rooms policy day who request before number es e
