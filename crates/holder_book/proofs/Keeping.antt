-- A book of holders keeps what it has to once a holder was added or edited.
use Rattle.std.proofs.Common.{◌≡◌, ℕ, ◌<◌, ◌≤◌, List, [], ◌∷◌, None, Some, slice_set, length, sym, subst, arith}
use Rattle.std.specs.Ordering.{nat_cmp}
use Rattle.std.specs.Prelude.{IsTrue}
use Rattle.std.proofs.lemmas.List.{length-map, length_push}
use Rattle.page_dir.specs.Sorted.{Rises}
use Rattle.page_dir.specs.Splices.{spliced}
use Rattle.reg_entry.specs.declared.holder.Holder.{Holder}
use Rattle.reg_entry.specs.Holders.{holder_number, added_holder, edited_holder}
use Rattle.reg_entry.specs.Handle.{is_handle}
use Rattle.holder_book.specs.HandleKey.{handle_key}
use Rattle.holder_book.specs.Kept.{IsHolderBook}
use Rattle.holder_book.proofs.Places.{distinct_after_adding, distinct_after_editing, edited_in_place}
use Rattle.holder_book.proofs.Indexing.{index_after_adding, index_after_editing}

pub kept_after_adding : (hs : List (Holder × ℕ)) (ps : List (ℕ × ℕ)) (holder : Holder) (day i room index_room : ℕ)
    → IsHolderBook hs ps room index_room → IsTrue (is_handle holder.handle) → holder_number hs holder.handle ≡ None → length hs < room → i ≤ length ps
    → Rises nat_cmp (spliced i 0 ((handle_key holder.handle, length hs) ∷ []) ps)
    → IsHolderBook (added_holder hs holder day) (spliced i 0 ((handle_key holder.handle, length hs) ∷ []) ps) room index_room
kept_after_adding hs ps holder day i room index_room h form none below place rises =
    let long = length_push hs (holder, day) in
    record {
      distinct = distinct_after_adding hs (holder, day) none h.distinct;
      index = index_after_adding hs ps holder day i h.index form none place rises;
      within = omega (arith, long);
      at_most = h.at_most;
      reserved = h.reserved;
    }

pub kept_after_editing : (hs : List (Holder × ℕ)) (ps : List (ℕ × ℕ)) (holder : Holder) (day number room index_room : ℕ)
    → IsHolderBook hs ps room index_room → holder_number hs holder.handle ≡ Some number
    → IsHolderBook (slice_set hs number (holder, day)) ps room index_room
kept_after_editing hs ps holder day number room index_room h e =
    let long : length (edited_holder hs holder day) ≡ length hs = length-map hs _ in
    subst (λ xs. IsHolderBook xs ps room index_room) (sym (edited_in_place hs holder day number h.distinct e))
    record {
      distinct = distinct_after_editing holder day hs h.distinct;
      index = index_after_editing hs ps holder day h.index long;
      within = omega (arith, long, h.within);
      at_most = h.at_most;
      reserved = h.reserved;
    }
