use Rattle.reg_laws.proofs.Fitting.{sub_is_free, sub_room, sub_holder_known, returned_sub_is_there, split_cuts_no_sub, returned_has_no_sub, sub_cover, returned_sub_cover, sub_is_allocated, returned_sub_is_allocated, sub_is_pooled, returned_sub_is_pooled}
use Rattle.reg_laws.proofs.subs.next_entries_fit_subs.Goals as goal

pub returns : goal.returns
returns c = record {
  free = sub_is_free;
  room = sub_room;
  known = sub_holder_known;
  there = returned_sub_is_there;
  unstraddled = split_cuts_no_sub;
  empty = returned_has_no_sub;
  cover = sub_cover;
  returned_cover = returned_sub_cover;
  allocated = λ r e range handle h next is. sub_is_allocated r e range handle next is;
  returned_allocated = returned_sub_is_allocated;
  pooled = sub_is_pooled;
  returned_pooled = returned_sub_is_pooled;
}
