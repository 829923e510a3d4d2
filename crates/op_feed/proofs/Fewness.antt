-- How many operations a legal list of entries has at most.
use Rattle.std.proofs.Common.{◌≡◌, ℕ, suc, ◌+◌, ◌*◌, ◌^◌, ◌≤◌, Bool, true, not, inl, inr, List, [], ◌∷◌, ◌++◌, Option, None, Some, filter, find, length, refl, sym, ◌∙◌, ap, subst, arith}
use Rattle.std.specs.List.{flat_map}
use Rattle.std.specs.Option.{option_map_or}
use Rattle.std.proofs.lemmas.Bool.{cond_both, cond-true, cond-false, cases_Bool, and_parts}
use Rattle.std.proofs.lemmas.Grind.{flat_map-append}
use Rattle.std.proofs.lemmas.List.{append-nil, length-append, length-map}
use Rattle.num_range.specs.declared.space.Space.{Space}
use Rattle.num_range.specs.declared.space.Space.TheVariants.{Asn, Ipv4, Ipv6}
use Rattle.num_range.specs.Range.{PlainRange, IsRange}
use Rattle.num_range.specs.Cover.{reverse_cuts}
use Rattle.cidr_cover.proofs.Fewness.{reverse_cuts-few}
use Rattle.reg_entry.specs.declared.card.Card.{Card}
use Rattle.reg_entry.specs.declared.holder.Holder.{Holder}
use Rattle.reg_entry.specs.declared.object.Object.{Object}
use Rattle.reg_entry.specs.declared.object.Object.TheVariants.{Org, Cut}
use Rattle.reg_entry.specs.declared.object.Act.{Act}
use Rattle.reg_entry.specs.declared.object.Act.TheVariants.{Add, Del}
use Rattle.reg_entry.specs.declared.piece.Piece.{Piece}
use Rattle.reg_entry.specs.declared.request.Request.{Request}
use Rattle.reg_entry.specs.declared.request.Request.TheVariants.{AddHolder, EditHolder, SubAssign, SubReturn, Return, Split, Join, SetReverse, ClearReverse}
use Rattle.reg_entry.specs.declared.rooms.Rooms.{Rooms}
use Rattle.reg_entry.specs.declared.sub_card.SubCard.{SubCard}
use Rattle.reg_entry.specs.Entry.{PlainEntry}
use Rattle.reg_entry.specs.Request.{is_range, is_server_count, is_request}
use Rattle.reg_entry.specs.Holders.{has_handle}
use Rattle.reg_entry.specs.Objects.{block_of_piece, blocks_of, sub_of, cuts_of, same_object, org_of}
use Rattle.reg_entry.specs.Operations.{changes_of, numbered, operations_from, operations_of}
use Rattle.reg_entry.specs.Pieces.{laid}
use Rattle.reg_entry.specs.Reshaping.{split_at_number, joined_at}
use Rattle.reg_entry.specs.Partition.{Partition, IsPartition, pieces_in, with_pieces, piece_count}
use Rattle.reg_entry.specs.Ranges.{same_range, lies_inside, value_of_range, ranges_inside, with_range, without_range}
use Rattle.reg_entry.specs.Register.{Register, reshaped, painted, pool_after, reverses_after, after_entry, after_entries, empty_register}
use Rattle.reg_entry.specs.Rooms.{AreRooms}
use Rattle.reg_entry.specs.Servers.{hosts_eq}
use Rattle.reg_entry.specs.Next.{IsNextEntry, IsLegalFrom, IsLegal}
use Rattle.reg_entry.specs.Whole.{IsWholeRegister}
use Rattle.reg_laws.proofs.Accepting.{range_valid}
use Rattle.reg_laws.proofs.NextFacts.{next_facts}
use Rattle.reg_laws.proofs.Paints.{next_painting}
use Rattle.reg_laws.proofs.WholeStep.{next_whole, empty_is_whole}
use Rattle.op_feed.specs.PieceChanges.{goes, comes, pieces_gone, pieces_come}
use Rattle.op_feed.specs.EntryChanges.{dels, adds, edit_changes, server_changes, entry_changes}
use Rattle.op_feed.specs.TouchedBy.{IsTouchedBy}
use Rattle.op_feed.proofs.NextChanges.{unpainted, next_changes_are}
use Rattle.op_feed.proofs.RangeLists.{parted_new, parted_out, parted_other}

-- how many cuts reverse entries have
abbrev cut_count : List (PlainRange × List (List ℕ)) → ℕ
cut_count ss = length (flat_map cuts_of ss)

length_adds : (os : List Object) → length (adds os) ≡ length os
length_adds os = length-map os (λ (o : Object). (Add, o))

length_dels : (os : List Object) → length (dels os) ≡ length os
length_dels os = length-map os (λ (o : Object). (Del, o))

length_cuts : (s : PlainRange × List (List ℕ)) → length (cuts_of s) ≡ length (reverse_cuts s.0)
length_cuts s = length-map (reverse_cuts s.0) (λ (block : PlainRange). Cut block s.1)

cuts_few : (s : PlainRange × List (List ℕ)) → length (cuts_of s) ≤ 2 ^ 24
cuts_few s = let e = length_cuts s in let few = reverse_cuts-few s.0 in omega arith

count-append : (xs ys : List (PlainRange × List (List ℕ))) → cut_count (xs ++ ys) ≡ cut_count xs + cut_count ys
count-append xs ys = ap length (flat_map-append cuts_of xs ys) ∙ length-append (flat_map cuts_of xs) (flat_map cuts_of ys)

count_one : (s : PlainRange × List (List ℕ)) → cut_count (s ∷ []) ≡ length (cuts_of s)
count_one s = ap length (append-nil (cuts_of s))

count_parted : (f m b all : List (PlainRange × List (List ℕ))) → all ≡ f ++ (m ++ b) → cut_count all ≡ cut_count f + (cut_count m + cut_count b)
count_parted f m b all e =
    ap cut_count e ∙ count-append f (m ++ b) ∙ ap (λ n. cut_count f + n) (count-append m b)

count_filter : (test : PlainRange × List (List ℕ) → Bool) (ss : List (PlainRange × List (List ℕ)))
    → cut_count (filter test ss) + cut_count (filter (λ s. not (test s)) ss) ≡ cut_count ss
count_filter test [] = omega arith
count_filter test (s ∷ ss) =
    let rest : cut_count (filter test ss) + cut_count (filter (λ t. not (test t)) ss) ≡ cut_count ss = count_filter test ss in
    let all : cut_count (s ∷ ss) ≡ length (cuts_of s) + cut_count ss = length-append (cuts_of s) (flat_map cuts_of ss) in
    let one : cut_count (s ∷ filter test ss) ≡ length (cuts_of s) + cut_count (filter test ss) = length-append (cuts_of s) (flat_map cuts_of (filter test ss)) in
    let two : cut_count (s ∷ filter (λ t. not (test t)) ss) ≡ length (cuts_of s) + cut_count (filter (λ t. not (test t)) ss) =
    length-append (cuts_of s) (flat_map cuts_of (filter (λ t. not (test t)) ss)) in
    elim (cases_Bool (test s)) [
      | inl t ↦
          let kept : cut_count (filter test (s ∷ ss)) ≡ cut_count (s ∷ filter test ss) = ap cut_count (cond-true (test s) (s ∷ filter test ss) (filter test ss) t) in
          let left : cut_count (filter (λ t. not (test t)) (s ∷ ss)) ≡ cut_count (filter (λ t. not (test t)) ss) =
          ap cut_count (cond-false (not (test s)) (s ∷ filter (λ t. not (test t)) ss) (filter (λ t. not (test t)) ss) (ap not t)) in
          omega arith
      | inr f ↦
          let kept : cut_count (filter test (s ∷ ss)) ≡ cut_count (filter test ss) = ap cut_count (cond-false (test s) (s ∷ filter test ss) (filter test ss) f) in
          let left : cut_count (filter (λ t. not (test t)) (s ∷ ss)) ≡ cut_count (s ∷ filter (λ t. not (test t)) ss) =
          ap cut_count (cond-true (not (test s)) (s ∷ filter (λ t. not (test t)) ss) (filter (λ t. not (test t)) ss) (ap not f)) in
          omega arith
    ]

-- ---- of one entry

length_filter : {T : Type 0} (test : T → Bool) (xs : List T) → length (filter test xs) ≤ length xs
length_filter test [] = omega arith
length_filter test (x ∷ xs) =
    let rest : length (filter test xs) ≤ length xs = length_filter test xs in
    cond_both (test x) (x ∷ filter test xs) (filter test xs) (λ ys. length ys ≤ length (x ∷ xs)) (λ e. omega arith) (λ e. omega arith)

pieces_few : (hs : List (Holder × ℕ)) (before after : List Piece) (d : List (Act × Object)) → length before ≤ 2 ^ 30 → length after ≤ 2 ^ 30
    → length (dels (blocks_of hs (pieces_gone before after)) ++ (d ++ adds (blocks_of hs (pieces_come before after)))) ≤ length d + 2 ^ 31
pieces_few hs before after d few few_after =
    let gone : List Object = blocks_of hs (pieces_gone before after) in
    let come : List Object = blocks_of hs (pieces_come before after) in
    let a = length-append (dels gone) (d ++ adds come) in
    let b = length-append d (adds come) in
    let c : length (dels gone) ≡ length (pieces_gone before after) =
    length_dels gone ∙ length-map (pieces_gone before after) (block_of_piece hs) in
    let e : length (adds come) ≡ length (pieces_come before after) =
    length_adds come ∙ length-map (pieces_come before after) (block_of_piece hs) in
    let f = length_filter (goes after) before in
    let g = length_filter (comes before) after in
    omega arith

edit_few : (former : Option (Holder × ℕ)) (holder : Holder) (day : ℕ) → length (edit_changes former holder day) ≤ 1
edit_few None holder day = omega arith
edit_few (Some m) holder day =
    cond_both (same_object (Org holder day) (org_of m)) [] (adds (Org holder day ∷ [])) (λ xs. length xs ≤ 1) (λ e. omega arith) (λ e. omega arith)

set_few : (r : Register) (range : PlainRange) (servers : List (List ℕ)) (former : Option (List (List ℕ))) → IsWholeRegister r → IsRange range
    → value_of_range r.reverses range ≡ former
    → length (server_changes range former servers) + cut_count (with_range r.reverses range servers) ≤ cut_count r.reverses + 2 ^ 32
set_few r range servers None h valid at =
    let p = parted_new r.reverses range servers at in
    let was = count_parted p.front [] p.back r.reverses p.was in
    let stands = count_parted p.front ((range, servers) ∷ []) p.back (with_range r.reverses range servers) p.stands in
    let one = count_one (range, servers) in
    let few = cuts_few (range, servers) in
    let n = length_adds (cuts_of (range, servers)) in
    omega arith
set_few r range servers (Some old) h valid at =
    let p = parted_other r.reverses range old servers valid h.reverses_apart at in
    let was = count_parted p.front ((range, old) ∷ []) p.back r.reverses p.was in
    let stands = count_parted p.front ((range, servers) ∷ []) p.back (with_range r.reverses range servers) p.stands in
    let one = count_one (range, servers) in
    let other = count_one (range, old) in
    let few = cuts_few (range, servers) in
    let n = length_adds (cuts_of (range, servers)) in
    let m = length_cuts (range, servers) in
    let l = length_cuts (range, old) in
    cond_both (hosts_eq servers old) [] (adds (cuts_of (range, servers)))
    (λ xs. length xs + cut_count (with_range r.reverses range servers) ≤ cut_count r.reverses + 2 ^ 32) (λ e. omega arith) (λ e. omega arith)

clear_few : (r : Register) (range : PlainRange) (former : Option (List (List ℕ))) → IsWholeRegister r → value_of_range r.reverses range ≡ former
    → length (option_map_or (λ (servers : List (List ℕ)). dels (cuts_of (range, servers))) former []) + cut_count (without_range r.reverses range)
    ≤ cut_count r.reverses + 2 ^ 32
clear_few r range None h at = let all = count_filter (λ s. same_range s.0 range) r.reverses in omega arith
clear_few r range (Some old) h at =
    let p = parted_out r.reverses range old h.reverses_apart at in
    let was = count_parted p.front ((range, old) ∷ []) p.back r.reverses p.was in
    let stands = count_parted p.front [] p.back (without_range r.reverses range) p.stands in
    let one = count_one (range, old) in
    let n = length_dels (cuts_of (range, old)) in
    omega arith

returned_few : (r : Register) (subs : Option SubCard) (range : PlainRange)
    → length (option_map_or (λ (card : SubCard). dels (sub_of r.holders (range, card) ∷ [])) subs []) ≤ 1
returned_few r None range = omega arith
returned_few r (Some card) range = omega arith

few_by : (r : Register) (day : ℕ) (before after : List Piece) (request : Request) → IsWholeRegister r → is_request request ≡ true
    → length before ≤ 2 ^ 30 → length after ≤ 2 ^ 30
    → length (entry_changes r.holders r.subs r.reverses day before after request) + cut_count (reverses_after request r.reverses)
    ≤ cut_count r.reverses + 2 ^ 32
few_by r day before after (AddHolder holder) h valid few few_after = omega arith
few_by r day before after (EditHolder holder) h valid few few_after =
    let one = edit_few (find (has_handle holder.handle) r.holders) holder day in omega arith
few_by r day before after (SubAssign range handle) h valid few few_after = omega arith
few_by r day before after (SubReturn range) h valid few few_after =
    let one = returned_few r (value_of_range r.subs range) range in omega arith
few_by r day before after (SetReverse range servers) h valid few few_after =
    set_few r range servers (value_of_range r.reverses range) h (range_valid range (and_parts (is_range range) (is_server_count servers) valid).0) refl
few_by r day before after (ClearReverse range) h valid few few_after = clear_few r range (value_of_range r.reverses range) h refl
few_by r day before after (Return range handle) h valid few few_after =
    let cuts : List Object = flat_map cuts_of (ranges_inside r.reverses range) in
    let n = length_dels cuts in
    let all = count_filter (λ s. lies_inside s.0 range) r.reverses in
    let most = pieces_few r.holders before after (dels cuts) few few_after in
    omega arith
few_by r day before after request h valid few few_after =
    let most = pieces_few r.holders before after [] few few_after in omega arith

-- ---- which pieces an entry may touch: at most all of one space

space_count : (pool : Partition) (space : Space) → length (pieces_in pool space) ≤ piece_count pool
space_count pool Asn = omega arith
space_count pool Ipv4 = omega arith
space_count pool Ipv6 = omega arith

with_those : (pool : Partition) (space : Space) (ps : List Piece) → pieces_in (with_pieces pool space ps) space ≡ ps
with_those pool Asn ps = refl
with_those pool Ipv4 ps = refl
with_those pool Ipv6 ps = refl

with_same : (pool : Partition) (space : Space) → pool ≡ with_pieces pool space (pieces_in pool space)
with_same pool Asn = refl
with_same pool Ipv4 = refl
with_same pool Ipv6 = refl

record IsAllTouched (old new : Partition) : Type 0 where
  space : Space
  touched : IsTouchedBy old new (pieces_in old space) (pieces_in new space)

all_touched : (old new : Partition) (space : Space) → new ≡ with_pieces old space (pieces_in new space) → IsAllTouched old new
all_touched old new space e = record {
  space = space;
  touched = record {
    space = space;
    others = e;
    front = [];
    back = [];
    was = sym (append-nil (pieces_in old space));
    stands = sym (append-nil (pieces_in new space));
  };
}

changed_there : (pool : Partition) (space : Space) (ps : List Piece) → IsAllTouched pool (with_pieces pool space ps)
changed_there pool space ps =
    all_touched pool (with_pieces pool space ps) space (ap (with_pieces pool space) (sym (with_those pool space ps)))

reshaped_there : (request : Request) (pool : Partition) → IsAllTouched pool (reshaped request pool)
reshaped_there (Split at) pool = changed_there pool at.space (split_at_number (pieces_in pool at.space) at.value)
reshaped_there (Join at) pool = changed_there pool at.space (joined_at (pieces_in pool at.space) at.value)
reshaped_there request pool = all_touched pool pool Asn (with_same pool Asn)

painted_there : (cover : Option PlainRange) (card : Card) (pool : Partition) → IsAllTouched pool (painted cover (Some card) pool)
painted_there None card pool = all_touched pool pool Asn (with_same pool Asn)
painted_there (Some range) card pool = changed_there pool range.space (laid (pieces_in pool range.space) range card)

next_touches : (r : Register) (e : PlainEntry) (card : Option Card) → IsPartition r.pool → IsNextEntry r e → e.card ≡ card
    → IsAllTouched r.pool (pool_after e.request e.cover card r.pool)
next_touches r e None h next is =
    subst (λ pool. IsAllTouched r.pool pool) (sym (unpainted e.cover None (reshaped e.request r.pool) refl)) (reshaped_there e.request r.pool)
next_touches r e (Some card) h next is =
    subst (λ pool. IsAllTouched r.pool (painted e.cover (Some card) pool)) (sym (next_painting r e card h next is).alone) (painted_there e.cover card r.pool)

-- ---- of a list of entries

next_few : (r : Register) (e : PlainEntry) → AreRooms r.rooms → IsWholeRegister r → IsNextEntry r e
    → length (changes_of r e) + cut_count (after_entry r e).reverses ≤ cut_count r.reverses + 2 ^ 32
next_few r e rooms h next =
    let s : Register = after_entry r e in
    let whole = next_whole r e h next in
    let t : IsAllTouched r.pool s.pool = next_touches r e e.card h.pieces next refl in
    let before : List Piece = pieces_in r.pool t.space in
    let after : List Piece = pieces_in s.pool t.space in
    let few = few_by r e.day before after e.request h (next_facts r e next).valid
    (let a = space_count r.pool t.space in let b = h.rooms.pieces in let c = rooms.pieces.1 in omega arith)
    (let a = space_count s.pool t.space in let b = whole.rooms.pieces in let c = rooms.pieces.1 in omega arith) in
    subst (λ cs. length cs + cut_count s.reverses ≤ cut_count r.reverses + 2 ^ 32) (sym (next_changes_are r e before after h next t.touched)) few

pub length_numbered : (last : ℕ) (cs : List (Act × Object)) → length (numbered last cs) ≡ length cs
length_numbered last [] = refl
length_numbered last (c ∷ cs) = ap (λ n. suc n) (length_numbered (last + 1) cs)

few_from : (r : Register) (last : ℕ) (es : List PlainEntry) → AreRooms r.rooms → IsWholeRegister r → IsLegalFrom r es
    → length (operations_from r last es) + cut_count (after_entries r es).reverses ≤ cut_count r.reverses + 2 ^ 32 * length es
few_from r last [] rooms h legal = omega arith
few_from r last (e ∷ es) rooms h legal =
    let s : Register = after_entry r e in
    let cs : List (Act × Object) = changes_of r e in
    let here = next_few r e rooms h legal.0 in
    let rest = few_from s (last + length cs) es rooms (next_whole r e h legal.0) legal.1 in
    let parts = length-append (numbered last cs) (operations_from s (last + length cs) es) in
    let n = length_numbered last cs in
    omega arith

pub operations_few : (rooms : Rooms) (es : List PlainEntry) → AreRooms rooms → IsLegal rooms es → length (operations_of rooms es) ≤ 2 ^ 32 * length es
operations_few rooms es h legal = let few = few_from (empty_register rooms) 0 es h (empty_is_whole rooms) legal in omega arith
