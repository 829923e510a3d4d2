use Rattle.reg_laws.proofs.ReversesFitting.{reverse_is_free, reverse_room, cleared_is_there, returned_encloses}
use Rattle.reg_laws.proofs.reverses.next_entries_fit_reverses.Goals as goal

pub returns : goal.returns
returns c = record {
  free = reverse_is_free;
  room = reverse_room;
  there = cleared_is_there;
  unstraddled = returned_encloses;
}
