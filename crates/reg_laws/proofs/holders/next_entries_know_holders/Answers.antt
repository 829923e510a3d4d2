use Rattle.reg_laws.proofs.Knowing.{new_handle, holder_room, edited_holder_is_there, given_holder}
use Rattle.reg_laws.proofs.holders.next_entries_know_holders.Goals as goal

pub returns : goal.returns
returns c = record {
  new = new_handle;
  room = holder_room;
  edited = edited_holder_is_there;
  given = λ r e d holder h next card gives. given_holder r e d holder next card gives;
}
