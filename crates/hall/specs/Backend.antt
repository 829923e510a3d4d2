-- What a look and a submit say of the entries behind a connection.
use Rattle.std.specs.Prelude.{◌≡◌, ℕ, List, length, Result, Ok, Err}
use Rattle.reg_entry.specs.declared.rooms.Rooms.{Rooms}
use Rattle.reg_entry.specs.declared.entry.Reply.{Reply}
use Rattle.reg_entry.specs.declared.request.Request.{Request}
use Rattle.reg_entry.specs.Entry.{PlainEntry}
use Rattle.reg_entry.specs.Policy.{PlainPolicy}
use Rattle.reg_entry.specs.Decision.{decision}
use Rattle.reg_entry.specs.Register.{register_after}
use Rattle.reg_entry.specs.Operations.{PlainBoard}
use Rattle.board.specs.declared.lens.Answer.{Answer}
use Rattle.desk_book.specs.Reply.{with_reply}
use Rattle.hall.specs.declared.backend.Fault.{Fault}
use Rattle.hall.specs.Standing.{Standing, over, IsCausedBetween}

-- a lens has these answers on the register of the entries
abbrev pub AnswersOn : Rooms → (PlainBoard → Answer → Type 0) → List PlainEntry → Answer → Type 0
AnswersOn rooms answers es answer = (board : PlainBoard) × (board.register ≡ register_after rooms es) × answers board answer

-- a look answers on the register of the entries that have been seen by then
abbrev pub LooksAt : Rooms → (PlainBoard → Answer → Type 0) → Standing → Result Answer Fault → Standing → Type 0
LooksAt rooms answers before (Ok answer) after =
    AnswersOn rooms answers after.entries answer × (after ≡ over after.entries before)
LooksAt rooms answers before (Err fault) after = IsCausedBetween fault before after

-- The request is decided on the register of these entries, and they with the one that it became are counted. Others
-- may have entered theirs before, and may have by the time that this is seen.
pub record IsDecidedOn (rooms : Rooms) (goes_on : List PlainEntry → List PlainEntry → Type 0) (policy : PlainPolicy) (day : ℕ)
    (who : List ℕ) (request : Request) (before : Standing) (reply : Reply) (number : ℕ) (after : Standing) (es : List PlainEntry)
    : Type 0 where
  pub seen : goes_on before.entries es
  pub reply_is : reply ≡ decision (register_after rooms es) policy day who request
  pub number_is : number ≡ length (with_reply es reply)
  pub others : goes_on (with_reply es reply) after.entries
  pub same : after ≡ over after.entries before

abbrev pub Submits : Rooms → (List PlainEntry → List PlainEntry → Type 0) → (Fault → Type 0) → PlainPolicy → ℕ → List ℕ → Request
    → Standing → Result (Reply × ℕ) Fault → Standing → Type 0
Submits rooms goes_on may_fail policy day who request before (Ok answer) after =
    (es : List PlainEntry) × IsDecidedOn rooms goes_on policy day who request before answer.0 answer.1 after es
Submits rooms goes_on may_fail policy day who request before (Err fault) after =
    may_fail fault × goes_on before.entries after.entries × IsCausedBetween fault before after
