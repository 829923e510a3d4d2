-- What a pass of a desk's snapshots sees in one call.
use Rattle.std.proofs.Common.{◌≡◌, ℕ, ◌-◌, ◌^◌, ◌<◌, ◌≤◌, List, sym, ap, ◌∙◌, subst, inl, inr, arith}
use Rattle.std.specs.Prelude.{Ok}
use Rattle.std.proofs.lemmas.Bool.{cases_lt}
use mathlib.Core.List.{IsPrefix}
use Rattle.reg_entry.specs.declared.rooms.Rooms.{Rooms}
use Rattle.reg_entry.specs.declared.entry.Reply.{Reply}
use Rattle.reg_entry.specs.declared.request.Request.{Request}
use Rattle.reg_entry.specs.Entry.{PlainEntry}
use Rattle.reg_entry.specs.Policy.{PlainPolicy}
use Rattle.reg_entry.specs.Operations.{PlainBoard, board_after}
use Rattle.reg_entry.specs.Register.{register_after}
use Rattle.board.specs.declared.lens.Answer.{Answer}
use Rattle.reader_edge.specs.Refusals.{raised}
use Rattle.snapshot_pub.specs.Pass.{PlainPass}
use Rattle.desk_book.specs.Desk.{IsAnsweredOn}
use Rattle.link_face.specs.Faults.{HasRisen}
use Rattle.hall.specs.declared.backend.Fault.TheVariants.{NoMemory, Shut}
use Rattle.hall.specs.Standing.{standing, over, IsCausedBetween}
use Rattle.hall.specs.Backend.{LooksAt, Submits}
use Rattle.hall.specs.Desk.{seen_by, IsDeskFault}

-- the board of every list of entries has the list's register
abbrev pub BoardsHaveRegisters : Type 0
BoardsHaveRegisters = (rooms : Rooms) (es : List PlainEntry) → (board_after rooms es).register ≡ register_after rooms es

-- where the count stays, only the entries are others
same_count : (p q : PlainPass) → q.shuts ≡ p.shuts → seen_by q ≡ over q.entries (seen_by p)
same_count p q same = ap (λ n. standing q.entries n 0) same

pub looked_at : (answers : PlainBoard → Answer → Type 0) (p q : PlainPass) (answer : Answer) → BoardsHaveRegisters → q.rooms ≡ p.rooms
    → q.shuts ≡ p.shuts → answers (board_after q.rooms q.entries) answer → LooksAt p.rooms answers (seen_by p) (Ok answer) (seen_by q)
looked_at answers p q answer law rooms shuts told = (
  (board_after q.rooms q.entries, law q.rooms q.entries ∙ ap (λ r. register_after r q.entries) rooms, told),
  same_count p q shuts,
)

pub decided_on : (policy : PlainPolicy) (day : ℕ) (who : List ℕ) (request : Request) (p q : PlainPass) (answer : Reply × ℕ) (es : List PlainEntry)
    → q.shuts ≡ p.shuts → IsAnsweredOn p.rooms policy day who request p.entries answer.0 answer.1 q.entries es
    → Submits p.rooms (λ es fs. IsPrefix es fs) IsDeskFault policy day who request (seen_by p) (Ok answer) (seen_by q)
decided_on policy day who request p q answer es shuts on = (
  es,
  record { seen = on.seen; reply_is = on.reply_is; number_is = on.number_is; others = on.learnt; same = same_count p q shuts },
)

-- ---- faults

pub memory_wanting : (p q : PlainPass) → q.shuts ≡ p.shuts → IsCausedBetween NoMemory (seen_by p) (seen_by q)
memory_wanting p q same = (record { looks = omega (arith, same); disk = omega arith }, tt)

raised_risen : (n : ℕ) → n < 2 ^ 64 → (n ≤ raised n) × HasRisen n (raised n)
raised_risen n bound = (
  omega arith,
  elim (cases_lt n (2 ^ 64 - 1)) [
    | inl less ↦ inl (omega arith)
    | inr last ↦ inr (omega arith)
  ],
)

pub pass_shut : (p q : PlainPass) → p.shuts < 2 ^ 64 → q.shuts ≡ raised p.shuts → IsCausedBetween Shut (seen_by p) (seen_by q)
pass_shut p q bound rose =
    let more = raised_risen p.shuts bound in (
      record { looks = subst (λ n. p.shuts ≤ n) (sym rose) more.0; disk = omega arith },
      subst (λ n. HasRisen p.shuts n) (sym rose) more.1,
    )
