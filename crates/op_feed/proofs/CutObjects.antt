-- The objects of reverse entries: their cuts.
use Rattle.std.proofs.Common.{◌≡◌, ℕ, Bool, true, false, cond, not, ◌&&◌, inl, inr, List, [], ◌∷◌, ◌++◌, None, Some, filter, map, refl, sym, ◌∙◌, ap, append_assoc}
use Rattle.std.specs.Option.{is_none, option_map_or}
use Rattle.std.specs.List.{flat_map}
use Rattle.std.proofs.lemmas.Bool.{cond-true, cond-false, cond_both, cases_Bool}
use Rattle.std.proofs.lemmas.Option.{none-some}
use Rattle.std.proofs.lemmas.List.{append-nil, map-append}
use Rattle.std.proofs.lemmas.List.Elements.{filter-append}
use Rattle.num_range.specs.Range.{PlainRange}
use Rattle.num_range.specs.Cover.{reverse_cuts}
use Rattle.reg_entry.specs.declared.holder.Holder.{Holder}
use Rattle.reg_entry.specs.declared.object.Object.{Object}
use Rattle.reg_entry.specs.declared.object.Object.TheVariants.{Cut}
use Rattle.reg_entry.specs.declared.object.Act.TheVariants.{Del}
use Rattle.reg_entry.specs.declared.object.Key.{Key}
use Rattle.reg_entry.specs.declared.object.Key.TheVariants.{Block as BlockKey, Cut as CutKey}
use Rattle.reg_entry.specs.declared.piece.Piece.{Piece}
use Rattle.reg_entry.specs.Ranges.{same_range}
use Rattle.reg_entry.specs.Servers.{hosts_eq}
use Rattle.reg_entry.specs.Objects.{key_of, object_at, HaveDistinctKeys, same_object, has_object, blocks_of, block_of_piece, cuts_of, objects_gone, objects_come, changes_between}
use Rattle.reg_laws.proofs.Sameness.{same_range-true, same_range-refl}
use Rattle.op_feed.specs.EntryChanges.{dels, adds}
use Rattle.op_feed.proofs.Local.{Each, each_of, each_both, each_so, each_front, each_back, filter_none, filter_same, found_behind, none_behind, none_parts, distinct_back, distinct_front, each_found, each_not_behind, each_not_before, same_object-refl}

-- ---- from nothing and to nothing

all_kept : (f : Object → Bool) (os : List Object) → Each (λ o. f o ≡ true) os → filter f os ≡ os
all_kept f [] h = refl
all_kept f (o ∷ os) h = cond-true (f o) (o ∷ filter f os) (filter f os) h.0 ∙ ap (λ xs. o ∷ xs) (all_kept f os h.1)

pub changes_from_none : (os : List Object) → changes_between [] os ≡ adds os
changes_from_none os = ap adds (all_kept (λ o. not (has_object [] o)) os (each_of (λ o. not (has_object [] o) ≡ true) os (λ o. refl)))

pub changes_to_none : (os : List Object) → changes_between os [] ≡ dels os
changes_to_none os =
    ap (λ xs. dels xs ++ []) (all_kept (λ o. is_none (object_at [] (key_of o))) os (each_of (λ o. is_none (object_at [] (key_of o)) ≡ true) os (λ o. refl)))
    ∙ append-nil (dels os)

-- ---- the same cuts with other servers

abbrev cuts_with : List PlainRange → List (List ℕ) → List Object
cuts_with bs servers = map (λ block. Cut block servers) bs

cut_found : (bs : List PlainRange) (a b : List (List ℕ)) (k : PlainRange) (o : Object) → object_at (cuts_with bs a) (CutKey k) ≡ Some o
    → object_at (cuts_with bs b) (CutKey k) ≡ Some (Cut k b)
cut_found [] a b k o e = absurd (none-some o e)
cut_found (c ∷ bs) a b k o e =
    let same : Bool = same_range c k in
    elim (cases_Bool same) [
      | inl t ↦
          cond-true same (Some (Cut c b)) (object_at (cuts_with bs b) (CutKey k)) t ∙ ap (λ x. Some (Cut x b)) (same_range-true c k t)
      | inr f ↦
          cond-false same (Some (Cut c b)) (object_at (cuts_with bs b) (CutKey k)) f
          ∙ cut_found bs a b k o (sym (cond-false same (Some (Cut c a)) (object_at (cuts_with bs a) (CutKey k)) f) ∙ e)
    ]

-- each cut of a range is found with other servers where it is found with these
each_cut : (bs cs : List PlainRange) (a b : List (List ℕ)) → Each (λ o. object_at (cuts_with bs a) (key_of o) ≡ Some o) (cuts_with cs a)
    → Each (λ c. object_at (cuts_with bs b) (CutKey c) ≡ Some (Cut c b)) cs
each_cut bs [] a b h = tt
each_cut bs (c ∷ cs) a b h = (cut_found bs a b c (Cut c a) h.0, each_cut bs cs a b h.1)

each_of_cuts : (P : Object → Type 0) (cs : List PlainRange) (a : List (List ℕ)) → Each (λ c. P (Cut c a)) cs → Each P (cuts_with cs a)
each_of_cuts P [] a h = tt
each_of_cuts P (c ∷ cs) a h = (h.0, each_of_cuts P cs a h.1)

other_servers : (bs : List PlainRange) (a b : List (List ℕ)) → HaveDistinctKeys (cuts_with bs a)
    → changes_between (cuts_with bs a) (cuts_with bs b) ≡ cond (hosts_eq b a) [] (adds (cuts_with bs b))
other_servers bs a b distinct =
    let found = each_found (cuts_with bs a) distinct in
    let each_a : Each (λ c. object_at (cuts_with bs a) (CutKey c) ≡ Some (Cut c a)) bs = each_cut bs bs a a found in
    let each_b : Each (λ c. object_at (cuts_with bs b) (CutKey c) ≡ Some (Cut c b)) bs = each_cut bs bs a b found in
    let gone : objects_gone (cuts_with bs a) (cuts_with bs b) ≡ [] =
    filter_none (λ o. is_none (object_at (cuts_with bs b) (key_of o))) (cuts_with bs a)
    (each_of_cuts (λ o. is_none (object_at (cuts_with bs b) (key_of o)) ≡ false) bs a
    (each_so (λ c. object_at (cuts_with bs b) (CutKey c) ≡ Some (Cut c b)) (λ c. is_none (object_at (cuts_with bs b) (CutKey c)) ≡ false) bs
    (λ c e. ap is_none e) each_b)) in
    let agree : Each (λ o. not (has_object (cuts_with bs a) o) ≡ not (hosts_eq b a)) (cuts_with bs b) =
    each_of_cuts (λ o. not (has_object (cuts_with bs a) o) ≡ not (hosts_eq b a)) bs b
    (each_so (λ c. object_at (cuts_with bs a) (CutKey c) ≡ Some (Cut c a)) (λ c. not (has_object (cuts_with bs a) (Cut c b)) ≡ not (hosts_eq b a)) bs
    (λ c e. ap (λ o. not (option_map_or (same_object (Cut c b)) o false)) e ∙ ap (λ t. not (t && hosts_eq b a)) (same_range-refl c)) each_a) in
    let come : objects_come (cuts_with bs a) (cuts_with bs b) ≡ filter (λ o. not (hosts_eq b a)) (cuts_with bs b) =
    filter_same (λ o. not (has_object (cuts_with bs a) o)) (λ o. not (hosts_eq b a)) (cuts_with bs b) agree in
    ap (λ xs. dels xs ++ adds (objects_come (cuts_with bs a) (cuts_with bs b))) gone ∙ ap adds (come ∙ all_or_none (hosts_eq b a) (cuts_with bs b))
    ∙ adds_if (hosts_eq b a) (cuts_with bs b)
  where
    all_or_none : (b : Bool) (os : List Object) → filter (λ o. not b) os ≡ cond b [] os
    all_or_none true [] = refl
    all_or_none true (o ∷ os) = all_or_none true os
    all_or_none false [] = refl
    all_or_none false (o ∷ os) = ap (λ xs. o ∷ xs) (all_or_none false os)

    adds_if : (b : Bool) (os : List Object) → adds (cond b [] os) ≡ cond b [] (adds os)
    adds_if true os = refl
    adds_if false os = refl

pub server_change : (range : PlainRange) (a b : List (List ℕ)) → HaveDistinctKeys (cuts_of (range, a))
    → changes_between (cuts_of (range, a)) (cuts_of (range, b)) ≡ cond (hosts_eq b a) [] (adds (cuts_of (range, b)))
server_change range a b distinct = other_servers (reverse_cuts range) a b distinct

-- ---- a returned range, whose reverse entries go with it

no_cut_of_blocks : (hs : List (Holder × ℕ)) (ps : List Piece) (b : PlainRange) → object_at (blocks_of hs ps) (CutKey b) ≡ None
no_cut_of_blocks hs [] b = refl
no_cut_of_blocks hs (p ∷ ps) b = no_cut_of_blocks hs ps b

no_block_of_cuts : (cs : List PlainRange) (servers : List (List ℕ)) (b : PlainRange) (rest : List Object) → object_at rest (BlockKey b) ≡ None
    → object_at (cuts_with cs servers ++ rest) (BlockKey b) ≡ None
no_block_of_cuts [] servers b rest h = h
no_block_of_cuts (c ∷ cs) servers b rest h = no_block_of_cuts cs servers b rest h

no_block_of_entries : (ss : List (PlainRange × List (List ℕ))) (b : PlainRange) → object_at (flat_map cuts_of ss) (BlockKey b) ≡ None
no_block_of_entries [] b = refl
no_block_of_entries (s ∷ ss) b = no_block_of_cuts (reverse_cuts s.0) s.1 b (flat_map cuts_of ss) (no_block_of_entries ss b)

each_block : (hs : List (Holder × ℕ)) (P : Object → Type 0) (ps : List Piece) → ((p : Piece) → P (block_of_piece hs p)) → Each P (blocks_of hs ps)
each_block hs P [] h = tt
each_block hs P (p ∷ ps) h = (h p, each_block hs P ps h)

each_append : (P : Object → Type 0) (os ps : List Object) → Each P os → Each P ps → Each P (os ++ ps)
each_append P [] ps h k = k
each_append P (o ∷ os) ps h k = (h.0, each_append P os ps h.1 k)

each_entry_cut : (P : Object → Type 0) (ss : List (PlainRange × List (List ℕ))) → ((c : PlainRange) (servers : List (List ℕ)) → P (Cut c servers))
    → Each P (flat_map cuts_of ss)
each_entry_cut P [] h = tt
each_entry_cut P (s ∷ ss) h =
    each_append P (cuts_of s) (flat_map cuts_of ss)
    (each_of_cuts P (reverse_cuts s.0) s.1 (each_of (λ c. P (Cut c s.1)) (reverse_cuts s.0) (λ c. h c s.1))) (each_entry_cut P ss h)

-- what holds of each cut holds of each that stays
each_staying : (P : Object → Type 0) (test : PlainRange × List (List ℕ) → Bool) (ss : List (PlainRange × List (List ℕ))) → Each P (flat_map cuts_of ss)
    → Each P (flat_map cuts_of (filter test ss))
each_staying P test [] h = tt
each_staying P test (s ∷ ss) h =
    let rest = each_staying P test ss (each_back P (cuts_of s) (flat_map cuts_of ss) h) in
    cond_both (test s) (s ∷ filter test ss) (filter test ss) (λ xs. Each P (flat_map cuts_of xs))
    (λ e. each_append P (cuts_of s) (flat_map cuts_of (filter test ss)) (each_front P (cuts_of s) (flat_map cuts_of ss) h) rest)
    (λ e. rest)

none_staying : (test : PlainRange × List (List ℕ) → Bool) (ss : List (PlainRange × List (List ℕ))) (k : Key) → object_at (flat_map cuts_of ss) k ≡ None
    → object_at (flat_map cuts_of (filter test ss)) k ≡ None
none_staying test [] k h = refl
none_staying test (s ∷ ss) k h =
    let parts = none_parts (cuts_of s) (flat_map cuts_of ss) k h in
    let rest = none_staying test ss k parts.1 in
    cond_both (test s) (s ∷ filter test ss) (filter test ss) (λ xs. object_at (flat_map cuts_of xs) k ≡ None)
    (λ e. found_behind (cuts_of s) (flat_map cuts_of (filter test ss)) k parts.0 ∙ rest)
    (λ e. rest)

-- the cuts that go are those of the entries that don't stay
cuts_gone : (goes : PlainRange × List (List ℕ) → Bool) (ss : List (PlainRange × List (List ℕ))) → HaveDistinctKeys (flat_map cuts_of ss)
    → objects_gone (flat_map cuts_of ss) (flat_map cuts_of (filter (λ s. not (goes s)) ss)) ≡ flat_map cuts_of (filter goes ss)
cuts_gone goes [] h = refl
cuts_gone goes (s ∷ ss) h =
    let stays = λ (t : PlainRange × List (List ℕ)). not (goes t) in
    let here : List Object = cuts_of s in
    let all : List Object = flat_map cuts_of ss in
    let left : List Object = flat_map cuts_of (filter stays ss) in
    let rest : objects_gone all left ≡ flat_map cuts_of (filter goes ss) = cuts_gone goes ss (distinct_back here all h) in
    let apart : Each (λ o. object_at left (key_of o) ≡ None) here =
    each_so (λ o. object_at all (key_of o) ≡ None) (λ o. object_at left (key_of o) ≡ None) here
    (λ o e. none_staying stays ss (key_of o) e) (each_not_behind here all h) in
    elim (cases_Bool (goes s)) [
      | inl t ↦
          ap (λ xs. objects_gone (here ++ all) (flat_map cuts_of xs)) (cond-false (not (goes s)) (s ∷ filter stays ss) (filter stays ss) (ap not t))
          ∙ filter-append (λ o. is_none (object_at left (key_of o))) here all
          ∙ ap (λ xs. xs ++ objects_gone all left)
          (all_kept (λ o. is_none (object_at left (key_of o))) here
          (each_so (λ o. object_at left (key_of o) ≡ None) (λ o. is_none (object_at left (key_of o)) ≡ true) here (λ o e. ap is_none e) apart))
          ∙ ap (λ xs. here ++ xs) rest
          ∙ sym (ap (flat_map cuts_of) (cond-true (goes s) (s ∷ filter goes ss) (filter goes ss) t))
      | inr f ↦
          let gone = λ (o : Object). is_none (object_at (here ++ left) (key_of o)) in
          ap (λ xs. objects_gone (here ++ all) (flat_map cuts_of xs)) (cond-true (not (goes s)) (s ∷ filter stays ss) (filter stays ss) (ap not f))
          ∙ filter-append gone here all
          ∙ ap (λ xs. xs ++ filter gone all)
          (filter_none gone here
          (each_both (λ o. object_at here (key_of o) ≡ Some o) (λ o. object_at left (key_of o) ≡ None) (λ o. gone o ≡ false) here
          (λ o found none. ap is_none (none_behind here left (key_of o) none ∙ found))
          (each_found here (distinct_front here all h)) apart))
          ∙ filter_same gone (λ o. is_none (object_at left (key_of o))) all
          (each_so (λ o. object_at here (key_of o) ≡ None) (λ o. gone o ≡ is_none (object_at left (key_of o))) all
          (λ o none. ap is_none (found_behind here left (key_of o) none)) (each_not_before here all h))
          ∙ rest
          ∙ sym (ap (flat_map cuts_of) (cond-false (goes s) (s ∷ filter goes ss) (filter goes ss) f))
    ]

pub return_changes : (hs : List (Holder × ℕ)) (before after : List Piece) (goes : PlainRange × List (List ℕ) → Bool) (ss : List (PlainRange × List (List ℕ)))
    → HaveDistinctKeys (flat_map cuts_of ss)
    → changes_between (blocks_of hs before ++ flat_map cuts_of ss) (blocks_of hs after ++ flat_map cuts_of (filter (λ s. not (goes s)) ss))
    ≡ dels (objects_gone (blocks_of hs before) (blocks_of hs after))
    ++ (dels (flat_map cuts_of (filter goes ss)) ++ adds (objects_come (blocks_of hs before) (blocks_of hs after)))
return_changes hs before after goes ss distinct =
    let olds : List Object = blocks_of hs before in
    let news : List Object = blocks_of hs after in
    let all : List Object = flat_map cuts_of ss in
    let left : List Object = flat_map cuts_of (filter (λ s. not (goes s)) ss) in
    let gone = λ (o : Object). is_none (object_at (news ++ left) (key_of o)) in
    let new = λ (o : Object). not (has_object (olds ++ all) o) in
    let of_blocks : filter gone olds ≡ objects_gone olds news =
    filter_same gone (λ o. is_none (object_at news (key_of o))) olds
    (each_block hs (λ o. gone o ≡ is_none (object_at news (key_of o))) before
    (λ p. ap is_none (none_behind news left (BlockKey p.range) (no_block_of_entries (filter (λ s. not (goes s)) ss) p.range)))) in
    let of_cuts : filter gone all ≡ flat_map cuts_of (filter goes ss) =
    filter_same gone (λ o. is_none (object_at left (key_of o))) all
    (each_entry_cut (λ o. gone o ≡ is_none (object_at left (key_of o))) ss
    (λ c servers. ap is_none (found_behind news left (CutKey c) (no_cut_of_blocks hs after c))))
    ∙ cuts_gone goes ss distinct in
    let new_blocks : filter new news ≡ objects_come olds news =
    filter_same new (λ o. not (has_object olds o)) news
    (each_block hs (λ o. new o ≡ not (has_object olds o)) after
    (λ p. ap (λ x. not (option_map_or (same_object (block_of_piece hs p)) x false)) (none_behind olds all (BlockKey p.range) (no_block_of_entries ss p.range)))) in
    let found : Each (λ o. object_at all (key_of o) ≡ Some o) all = each_found all distinct in
    let no_cuts : filter new left ≡ [] =
    filter_none new left
    (each_both (λ o. object_at all (key_of o) ≡ Some o) (λ o. object_at olds (key_of o) ≡ None) (λ o. new o ≡ false) left
    (λ o is none.
    ap (λ x. not (option_map_or (same_object o) x false)) (found_behind olds all (key_of o) none ∙ is) ∙ ap not (same_object-refl o))
    (each_staying (λ o. object_at all (key_of o) ≡ Some o) (λ s. not (goes s)) ss found)
    (each_entry_cut (λ o. object_at olds (key_of o) ≡ None) (filter (λ s. not (goes s)) ss) (λ c servers. no_cut_of_blocks hs before c))) in
    let all_gone : filter gone (olds ++ all) ≡ objects_gone olds news ++ flat_map cuts_of (filter goes ss) =
    filter-append gone olds all ∙ ap (λ xs. xs ++ filter gone all) of_blocks ∙ ap (λ xs. objects_gone olds news ++ xs) of_cuts in
    let all_new : filter new (news ++ left) ≡ objects_come olds news =
    filter-append new news left ∙ ap (λ xs. xs ++ filter new left) new_blocks ∙ ap (λ xs. objects_come olds news ++ xs) no_cuts ∙ append-nil (objects_come olds news) in
    ap (λ xs. dels xs ++ adds (filter new (news ++ left))) all_gone
    ∙ ap (λ xs. dels (objects_gone olds news ++ flat_map cuts_of (filter goes ss)) ++ adds xs) all_new
    ∙ ap (λ xs. xs ++ adds (objects_come olds news)) (map-append (λ o. (Del, o)) (objects_gone olds news) (flat_map cuts_of (filter goes ss)))
    ∙ append_assoc (dels (objects_gone olds news)) (dels (flat_map cuts_of (filter goes ss))) (adds (objects_come olds news))
