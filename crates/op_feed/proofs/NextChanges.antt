-- What the next entry changes of a whole register's objects, request by request.
use Rattle.std.proofs.Common.{◌≡◌, ℕ, zero, suc, ◌+◌, ◌<◌, true, false, cond, ◌==◌, nat_lt, List, [], ◌∷◌, ◌++◌, Option, None, Some, IsSome, find, map, length, slice_get, refl, sym, ◌∙◌, ap, subst, arith}
use Rattle.std.specs.List.{flat_map, position_or_len}
use Rattle.std.specs.Option.{is_some, option_map_or}
use Rattle.std.proofs.lemmas.Bool.{and_parts, both_ways, ltb-true}
use Rattle.std.proofs.lemmas.List.{append-nil, map-append}
use Rattle.std.proofs.lemmas.List.Folds.{find_at}
use Rattle.std.proofs.lemmas.Grind.{flat_map-append}
use Rattle.std.proofs.lemmas.Option.{none-some, cond_some}
use Rattle.num_range.specs.declared.space.Space.{Space}
use Rattle.num_range.specs.declared.space.Space.TheVariants.{Asn, Ipv4, Ipv6}
use Rattle.num_range.specs.Range.{PlainRange, IsRange}
use Rattle.reg_entry.specs.declared.card.Card.{Card}
use Rattle.reg_entry.specs.declared.holder.Holder.{Holder}
use Rattle.reg_entry.specs.declared.object.Object.{Object}
use Rattle.reg_entry.specs.declared.object.Object.TheVariants.{Org, Sub}
use Rattle.reg_entry.specs.declared.object.Act.{Act}
use Rattle.reg_entry.specs.declared.piece.Piece.{Piece}
use Rattle.reg_entry.specs.declared.request.Request.{Request}
use Rattle.reg_entry.specs.declared.request.Request.TheVariants.{Receive, AddHolder, EditHolder, Delegate, Reserve, Unreserve, SubAssign, SubReturn, Return, Release, Split, Join, Transfer, SetReverse, ClearReverse}
use Rattle.reg_entry.specs.declared.sub_card.SubCard.{SubCard}
use Rattle.reg_entry.specs.Entry.{PlainEntry}
use Rattle.reg_entry.specs.Request.{is_range, is_server_count, is_request}
use Rattle.reg_entry.specs.Holders.{has_handle, holder_number, handle_at, added_holder, edited_holder, HaveDistinctHandles}
use Rattle.reg_entry.specs.Objects.{HaveDistinctKeys, orgs_of, blocks_of, sub_of, cuts_of, objects_of, objects_come, changes_between}
use Rattle.reg_entry.specs.Operations.{changes_of}
use Rattle.reg_entry.specs.Partition.{Partition, pieces_in, with_pieces}
use Rattle.reg_entry.specs.Ranges.{lies_inside, value_of_range, ranges_inside, with_range, without_range, without_inside}
use Rattle.reg_entry.specs.Register.{Register, register_pieces, painted, pool_after, holders_after, with_sub, subs_after, reverses_after, after_entry}
use Rattle.reg_entry.specs.Covers.{card_for}
use Rattle.reg_entry.specs.Next.{until_of, IsNextEntry}
use Rattle.reg_entry.specs.Whole.{IsWholeRegister}
use Rattle.reg_laws.proofs.Accepting.{range_valid}
use Rattle.reg_laws.proofs.RisingKeys.{whole_is_distinct}
use Rattle.reg_laws.proofs.Fitting.{sub_is_free, sub_holder_known, returned_sub_is_there}
use Rattle.reg_laws.proofs.HolderFacts.{none_with_handle}
use Rattle.reg_laws.proofs.Knowing.{new_handle, edited_holder_is_there}
use Rattle.reg_laws.proofs.NextFacts.{next_facts}
use Rattle.reg_laws.proofs.ReversesFitting.{cleared_is_there}
use Rattle.reg_laws.proofs.Sameness.{bytes_eq-true}
use Rattle.reg_laws.proofs.WholeStep.{next_whole}
use Rattle.op_feed.specs.PieceChanges.{pieces_gone, pieces_come}
use Rattle.op_feed.specs.EntryChanges.{dels, adds, edit_changes, server_changes, entry_changes}
use Rattle.op_feed.specs.TouchedBy.{IsTouchedBy}
use Rattle.op_feed.proofs.Local.{Each, each_front, each_back, distinct_front, distinct_back, changes_in_one, changes_in_two}
use Rattle.op_feed.proofs.Handles.{HasHolderIn, piece_holders}
use Rattle.op_feed.proofs.HolderObjects.{KeepHandles, added_parted, handle_after_adding, handle_after_editing, blocks_stay, subs_stay, found_has, holder_edit}
use Rattle.op_feed.proofs.PieceObjects.{blocks_gone, blocks_come, block_changes}
use Rattle.op_feed.proofs.CutObjects.{changes_from_none, changes_to_none, server_change, return_changes}
use Rattle.op_feed.proofs.RangeLists.{IsPartedAt, parted_new, parted_out, parted_other, none_is_unmet}
use Rattle.op_feed.proofs.Spaces.{all_objects, before_those, behind_those, set_apart, before_kept, behind_kept, subs_apart, cuts_apart, orgs_apart, orgs_first}

-- the objects of these parts of a register
abbrev objects_in : List (Holder × ℕ) → Partition → List (PlainRange × SubCard) → List (PlainRange × List (List ℕ)) → List Object
objects_in hs pool subs reverses = all_objects (orgs_of hs) hs pool (map (sub_of hs) subs) (flat_map cuts_of reverses)

-- the changes between two maps that are these
between : (old new old' new' : List Object) (cs : List (Act × Object)) → old ≡ old' → new ≡ new' → HaveDistinctKeys old → HaveDistinctKeys new
    → (HaveDistinctKeys old' → HaveDistinctKeys new' → changes_between old' new' ≡ cs) → changes_between old new ≡ cs
between old new old' new' cs d e h k f =
    ap (λ xs. changes_between xs new) d ∙ ap (changes_between old') e ∙ f (subst HaveDistinctKeys d h) (subst HaveDistinctKeys e k)

-- ---- pieces

touched_apart : (hs : List (Holder × ℕ)) (pool new : Partition) (subs cuts : List Object) (space : Space) (front after back : List Piece)
    → new ≡ with_pieces pool space (pieces_in new space) → pieces_in new space ≡ front ++ (after ++ back)
    → all_objects (orgs_of hs) hs new subs cuts
    ≡ before_those (orgs_of hs) hs pool space front ++ (blocks_of hs after ++ (behind_those hs pool subs space back ++ (cuts ++ [])))
touched_apart hs pool new subs cuts space front after back others stands =
    set_apart (orgs_of hs) hs new subs cuts space front after back stands
    ∙ ap (λ xs. xs ++ (blocks_of hs after ++ (behind_those hs new subs space back ++ (cuts ++ []))))
    (ap (λ p. before_those (orgs_of hs) hs p space front) others ∙ before_kept (orgs_of hs) hs pool space (pieces_in new space) front)
    ∙ ap (λ xs. before_those (orgs_of hs) hs pool space front ++ (blocks_of hs after ++ (xs ++ (cuts ++ []))))
    (ap (λ p. behind_those hs p subs space back) others ∙ behind_kept hs pool subs space (pieces_in new space) back)

in_the_middle : (P : Piece → Type 0) (all front mid back : List Piece) → all ≡ front ++ (mid ++ back) → Each P all → Each P mid
in_the_middle P all front mid back e h = each_front P mid back (each_back P front (mid ++ back) (subst (Each P) e h))

of_pieces : (hs : List (Holder × ℕ)) (pool new : Partition) (subs : List (PlainRange × SubCard)) (reverses : List (PlainRange × List (List ℕ)))
    (before after : List Piece) → HaveDistinctHandles hs → ((space : Space) → Each (HasHolderIn hs) (pieces_in pool space))
    → ((space : Space) → Each (HasHolderIn hs) (pieces_in new space)) → HaveDistinctKeys (objects_in hs pool subs reverses)
    → HaveDistinctKeys (objects_in hs new subs reverses) → IsTouchedBy pool new before after
    → changes_between (objects_in hs pool subs reverses) (objects_in hs new subs reverses)
    ≡ dels (blocks_of hs (pieces_gone before after)) ++ adds (blocks_of hs (pieces_come before after))
of_pieces hs pool new subs reverses before after handles k l distinct distinct_after t =
    let f : List Piece = t.front in
    let b : List Piece = t.back in
    let lead : List Object = before_those (orgs_of hs) hs pool t.space f in
    let rest : List Object = behind_those hs pool (map (sub_of hs) subs) t.space b ++ (flat_map cuts_of reverses ++ []) in
    between (objects_in hs pool subs reverses) (objects_in hs new subs reverses) (lead ++ (blocks_of hs before ++ rest)) (lead ++ (blocks_of hs after ++ rest))
    (dels (blocks_of hs (pieces_gone before after)) ++ adds (blocks_of hs (pieces_come before after)))
    (set_apart (orgs_of hs) hs pool (map (sub_of hs) subs) (flat_map cuts_of reverses) t.space f before b t.was)
    (touched_apart hs pool new (map (sub_of hs) subs) (flat_map cuts_of reverses) t.space f after b t.others t.stands)
    distinct distinct_after
    (λ d e.
    changes_in_one lead (blocks_of hs before) (blocks_of hs after) rest d e
    ∙ block_changes hs before after handles (in_the_middle (HasHolderIn hs) (pieces_in pool t.space) f before b t.was (k t.space))
    (in_the_middle (HasHolderIn hs) (pieces_in new t.space) f after b t.stands (l t.space)))

of_return : (hs : List (Holder × ℕ)) (pool new : Partition) (subs : List (PlainRange × SubCard)) (reverses : List (PlainRange × List (List ℕ)))
    (range : PlainRange) (before after : List Piece) → HaveDistinctHandles hs → ((space : Space) → Each (HasHolderIn hs) (pieces_in pool space))
    → ((space : Space) → Each (HasHolderIn hs) (pieces_in new space)) → HaveDistinctKeys (objects_in hs pool subs reverses)
    → HaveDistinctKeys (objects_in hs new subs (without_inside reverses range)) → IsTouchedBy pool new before after
    → changes_between (objects_in hs pool subs reverses) (objects_in hs new subs (without_inside reverses range))
    ≡ dels (blocks_of hs (pieces_gone before after)) ++ (dels (flat_map cuts_of (ranges_inside reverses range))
    ++ adds (blocks_of hs (pieces_come before after)))
of_return hs pool new subs reverses range before after handles k l distinct distinct_after t =
    let f : List Piece = t.front in
    let b : List Piece = t.back in
    let goes = λ (s : PlainRange × List (List ℕ)). lies_inside s.0 range in
    let lead : List Object = before_those (orgs_of hs) hs pool t.space f in
    let trail : List Object = behind_those hs pool (map (sub_of hs) subs) t.space b in
    let all : List Object = flat_map cuts_of reverses in
    let left : List Object = flat_map cuts_of (without_inside reverses range) in
    let going : List Object = flat_map cuts_of (ranges_inside reverses range) in
    between (objects_in hs pool subs reverses) (objects_in hs new subs (without_inside reverses range))
    (lead ++ (blocks_of hs before ++ (trail ++ (all ++ [])))) (lead ++ (blocks_of hs after ++ (trail ++ (left ++ []))))
    (dels (blocks_of hs (pieces_gone before after)) ++ (dels going ++ adds (blocks_of hs (pieces_come before after))))
    (set_apart (orgs_of hs) hs pool (map (sub_of hs) subs) all t.space f before b t.was)
    (touched_apart hs pool new (map (sub_of hs) subs) left t.space f after b t.others t.stands)
    distinct distinct_after
    (λ d e.
    let past : HaveDistinctKeys (all ++ []) =
    distinct_back trail (all ++ []) (distinct_back (blocks_of hs before) (trail ++ (all ++ [])) (distinct_back lead (blocks_of hs before ++ (trail ++ (all ++ []))) d)) in
    changes_in_two lead (blocks_of hs before) (blocks_of hs after) trail all left [] d e
    ∙ return_changes hs before after goes reverses (distinct_front all [] past)
    ∙ ap (λ xs. dels xs ++ (dels going ++ adds (objects_come (blocks_of hs before) (blocks_of hs after)))) (blocks_gone hs before after)
    ∙ ap (λ xs. dels (blocks_of hs (pieces_gone before after)) ++ (dels going ++ adds xs))
    (blocks_come hs before after handles (in_the_middle (HasHolderIn hs) (pieces_in pool t.space) f before b t.was (k t.space))
    (in_the_middle (HasHolderIn hs) (pieces_in new t.space) f after b t.stands (l t.space))))

-- ---- subs and reverse entries

of_subs : (hs : List (Holder × ℕ)) (pool : Partition) (reverses : List (PlainRange × List (List ℕ))) (range : PlainRange)
    (old new mid came : List (PlainRange × SubCard)) (cs : List (Act × Object)) → IsPartedAt range old new mid came
    → HaveDistinctKeys (objects_in hs pool old reverses) → HaveDistinctKeys (objects_in hs pool new reverses)
    → changes_between (map (sub_of hs) mid) (map (sub_of hs) came) ≡ cs
    → changes_between (objects_in hs pool old reverses) (objects_in hs pool new reverses) ≡ cs
of_subs hs pool reverses range old new mid came cs p distinct distinct_after is =
    let f : List Object = map (sub_of hs) p.front in
    let b : List Object = map (sub_of hs) p.back in
    let cuts : List Object = flat_map cuts_of reverses in
    let lead : List Object = orgs_of hs ++ blocks_of hs pool.asn ++ blocks_of hs pool.ipv4 ++ blocks_of hs pool.ipv6 ++ f in
    between (objects_in hs pool old reverses) (objects_in hs pool new reverses) (lead ++ (map (sub_of hs) mid ++ (b ++ cuts))) (lead ++ (map (sub_of hs) came ++ (b ++ cuts)))
    cs (parted p.front mid p.back old p.was) (parted p.front came p.back new p.stands) distinct distinct_after
    (λ d e. changes_in_one lead (map (sub_of hs) mid) (map (sub_of hs) came) (b ++ cuts) d e ∙ is)
  where
    parted : (front mid back all : List (PlainRange × SubCard)) → all ≡ front ++ (mid ++ back)
        → objects_in hs pool all reverses
        ≡ (orgs_of hs ++ blocks_of hs pool.asn ++ blocks_of hs pool.ipv4 ++ blocks_of hs pool.ipv6 ++ map (sub_of hs) front)
        ++ (map (sub_of hs) mid ++ (map (sub_of hs) back ++ flat_map cuts_of reverses))
    parted front mid back all e =
        ap (λ xs. all_objects (orgs_of hs) hs pool xs (flat_map cuts_of reverses))
        (ap (map (sub_of hs)) e ∙ map-append (sub_of hs) front (mid ++ back) ∙ ap (λ xs. map (sub_of hs) front ++ xs) (map-append (sub_of hs) mid back))
        ∙ subs_apart (orgs_of hs) hs pool (map (sub_of hs) front) (map (sub_of hs) mid) (map (sub_of hs) back) (flat_map cuts_of reverses)

of_reverses : (hs : List (Holder × ℕ)) (pool : Partition) (subs : List (PlainRange × SubCard)) (range : PlainRange)
    (old new mid came : List (PlainRange × List (List ℕ))) (cs : List (Act × Object)) → IsPartedAt range old new mid came
    → HaveDistinctKeys (objects_in hs pool subs old) → HaveDistinctKeys (objects_in hs pool subs new)
    → (HaveDistinctKeys (flat_map cuts_of mid) → changes_between (flat_map cuts_of mid) (flat_map cuts_of came) ≡ cs)
    → changes_between (objects_in hs pool subs old) (objects_in hs pool subs new) ≡ cs
of_reverses hs pool subs range old new mid came cs p distinct distinct_after is =
    let f : List Object = flat_map cuts_of p.front in
    let b : List Object = flat_map cuts_of p.back in
    let lead : List Object = orgs_of hs ++ blocks_of hs pool.asn ++ blocks_of hs pool.ipv4 ++ blocks_of hs pool.ipv6 ++ map (sub_of hs) subs ++ f in
    between (objects_in hs pool subs old) (objects_in hs pool subs new) (lead ++ (flat_map cuts_of mid ++ b)) (lead ++ (flat_map cuts_of came ++ b))
    cs (parted p.front mid p.back old p.was) (parted p.front came p.back new p.stands) distinct distinct_after
    (λ d e.
    changes_in_one lead (flat_map cuts_of mid) (flat_map cuts_of came) b d e
    ∙ is (distinct_front (flat_map cuts_of mid) b (distinct_back lead (flat_map cuts_of mid ++ b) d)))
  where
    parted : (front mid back all : List (PlainRange × List (List ℕ))) → all ≡ front ++ (mid ++ back)
        → objects_in hs pool subs all
        ≡ (orgs_of hs ++ blocks_of hs pool.asn ++ blocks_of hs pool.ipv4 ++ blocks_of hs pool.ipv6 ++ map (sub_of hs) subs ++ flat_map cuts_of front)
        ++ (flat_map cuts_of mid ++ flat_map cuts_of back)
    parted front mid back all e =
        ap (λ xs. all_objects (orgs_of hs) hs pool (map (sub_of hs) subs) xs)
        (ap (flat_map cuts_of) e ∙ flat_map-append cuts_of front (mid ++ back) ∙ ap (λ xs. flat_map cuts_of front ++ xs) (flat_map-append cuts_of mid back))
        ∙ cuts_apart (orgs_of hs) hs pool (map (sub_of hs) subs) (flat_map cuts_of front) (flat_map cuts_of mid) (flat_map cuts_of back)

-- ---- holders

-- the pieces and subs of handles that stay
stay : (r : Register) (gs : List (Holder × ℕ)) → IsWholeRegister r → ((space : Space) → Each (HasHolderIn r.holders) (pieces_in r.pool space))
    → KeepHandles r.holders gs → (orgs : List Object)
    → all_objects orgs gs r.pool (map (sub_of gs) r.subs) (flat_map cuts_of r.reverses)
    ≡ all_objects orgs r.holders r.pool (map (sub_of r.holders) r.subs) (flat_map cuts_of r.reverses)
stay r gs h k keep orgs =
    let hs : List (Holder × ℕ) = r.holders in
    let cuts : List Object = flat_map cuts_of r.reverses in
    let subs : List Object = map (sub_of gs) r.subs in
    ap (λ xs. orgs ++ xs ++ blocks_of gs r.pool.ipv4 ++ blocks_of gs r.pool.ipv6 ++ subs ++ cuts) (blocks_stay hs gs r.pool.asn keep (k Asn))
    ∙ ap (λ xs. orgs ++ blocks_of hs r.pool.asn ++ xs ++ blocks_of gs r.pool.ipv6 ++ subs ++ cuts) (blocks_stay hs gs r.pool.ipv4 keep (k Ipv4))
    ∙ ap (λ xs. orgs ++ blocks_of hs r.pool.asn ++ blocks_of hs r.pool.ipv4 ++ xs ++ subs ++ cuts) (blocks_stay hs gs r.pool.ipv6 keep (k Ipv6))
    ∙ ap (λ xs. orgs ++ blocks_of hs r.pool.asn ++ blocks_of hs r.pool.ipv4 ++ blocks_of hs r.pool.ipv6 ++ xs ++ cuts) (subs_stay r gs r.subs keep h.subs)

of_new_holder : (r : Register) (pool : Partition) (holder : Holder) (day : ℕ) → IsWholeRegister r → ((space : Space) → Each (HasHolderIn r.holders) (pieces_in r.pool space))
    → pool ≡ r.pool → find (has_handle holder.handle) r.holders ≡ None → HaveDistinctKeys (objects_of r)
    → HaveDistinctKeys (objects_in (added_holder r.holders holder day) pool r.subs r.reverses)
    → changes_between (objects_of r) (objects_in (added_holder r.holders holder day) pool r.subs r.reverses) ≡ adds (Org holder day ∷ [])
of_new_holder r pool holder day h k same none distinct distinct_after =
    let hs : List (Holder × ℕ) = r.holders in
    let gs : List (Holder × ℕ) = added_holder hs holder day in
    let p = added_parted hs holder day h.handles none in
    let cuts : List Object = flat_map cuts_of r.reverses in
    let rest : List Object = p.back ++ (blocks_of hs r.pool.asn ++ (blocks_of hs r.pool.ipv4 ++ (blocks_of hs r.pool.ipv6 ++ (map (sub_of hs) r.subs ++ cuts)))) in
    between (objects_of r) (objects_in gs pool r.subs r.reverses) (p.front ++ ([] ++ rest)) (p.front ++ ((Org holder day ∷ []) ++ rest)) (adds (Org holder day ∷ []))
    (ap (λ xs. all_objects xs hs r.pool (map (sub_of hs) r.subs) cuts) p.was ∙ orgs_apart p.front [] p.back hs r.pool (map (sub_of hs) r.subs) cuts)
    (ap (λ q. objects_in gs q r.subs r.reverses) same ∙ stay r gs h k (λ n l. handle_after_adding hs (holder, day) n l) (orgs_of gs)
    ∙ ap (λ xs. all_objects xs hs r.pool (map (sub_of hs) r.subs) cuts) p.stands
    ∙ orgs_apart p.front (Org holder day ∷ []) p.back hs r.pool (map (sub_of hs) r.subs) cuts)
    distinct distinct_after
    (λ d e. changes_in_one p.front [] (Org holder day ∷ []) rest d e ∙ changes_from_none (Org holder day ∷ []))

of_edited_holder : (r : Register) (pool : Partition) (holder : Holder) (day : ℕ) → IsWholeRegister r → ((space : Space) → Each (HasHolderIn r.holders) (pieces_in r.pool space))
    → pool ≡ r.pool → HaveDistinctHandles (edited_holder r.holders holder day) → (former : Holder × ℕ) → find (has_handle holder.handle) r.holders ≡ Some former
    → HaveDistinctKeys (objects_of r) → HaveDistinctKeys (objects_in (edited_holder r.holders holder day) pool r.subs r.reverses)
    → changes_between (objects_of r) (objects_in (edited_holder r.holders holder day) pool r.subs r.reverses) ≡ edit_changes (Some former) holder day
of_edited_holder r pool holder day h k same handles former is distinct distinct_after =
    let hs : List (Holder × ℕ) = r.holders in
    let gs : List (Holder × ℕ) = edited_holder hs holder day in
    let subs : List Object = map (sub_of hs) r.subs in
    let cuts : List Object = flat_map cuts_of r.reverses in
    let rest : List Object = blocks_of hs r.pool.asn ++ (blocks_of hs r.pool.ipv4 ++ (blocks_of hs r.pool.ipv6 ++ (subs ++ cuts))) in
    between (objects_of r) (objects_in gs pool r.subs r.reverses) ([] ++ (orgs_of hs ++ rest)) ([] ++ (orgs_of gs ++ rest)) (edit_changes (Some former) holder day)
    (orgs_first (orgs_of hs) hs r.pool subs cuts)
    (ap (λ q. objects_in gs q r.subs r.reverses) same ∙ stay r gs h k (λ n l. handle_after_editing hs holder day n) (orgs_of gs)
    ∙ orgs_first (orgs_of gs) hs r.pool subs cuts)
    distinct distinct_after
    (λ d e.
    changes_in_one [] (orgs_of hs) (orgs_of gs) rest d e
    ∙ holder_edit hs holder day former h.handles handles (distinct_front (orgs_of hs) rest d) (distinct_front (orgs_of gs) rest e) is)

-- ---- request by request

abbrev after_by : Register → PlainEntry → Request → Register
after_by r e request = record {
  rooms = r.rooms;
  entries = r.entries + 1;
  first_day = cond (r.entries == 0) e.day r.first_day;
  last_day = e.day;
  pool = pool_after request e.cover e.card r.pool;
  holders = holders_after request e.day r.holders;
  subs = subs_after request e.day r.holders r.subs;
  reverses = reverses_after request r.reverses;
}

pub unpainted : (cover : Option PlainRange) (card : Option Card) (pool : Partition) → card ≡ None → painted cover card pool ≡ pool
unpainted cover card pool e = ap (λ c. painted cover c pool) e ∙ nothing cover pool
  where
    nothing : (cover : Option PlainRange) (pool : Partition) → painted cover None pool ≡ pool
    nothing None pool = refl
    nothing (Some range) pool = refl

-- what is known of the request of a next entry
record IsNextBy (r : Register) (e : PlainEntry) (before after : List Piece) (request : Request) : Type 0 where
  whole : IsWholeRegister r
  whole_after : IsWholeRegister (after_by r e request)
  next : IsNextEntry r e
  is : e.request ≡ request
  valid : is_request request ≡ true
  card : e.card ≡ card_for r request e.day (until_of e.card)
  touched : IsTouchedBy r.pool (pool_after request e.cover e.card r.pool) before after

next_by : (r : Register) (e : PlainEntry) (before after : List Piece) (request : Request) → IsWholeRegister r → IsNextEntry r e
    → IsTouchedBy r.pool (after_entry r e).pool before after → e.request ≡ request → IsNextBy r e before after request
next_by r e before after request h next t is = record {
  whole = h;
  whole_after = subst (λ q. IsWholeRegister (after_by r e q)) is (next_whole r e h next);
  next = next;
  is = is;
  valid = subst (λ q. is_request q ≡ true) is (next_facts r e next).valid;
  card = subst (λ q. e.card ≡ card_for r q e.day (until_of e.card)) is (next_facts r e next).card;
  touched = subst (λ q. IsTouchedBy r.pool (pool_after q e.cover e.card r.pool) before after) is t;
}

holders_of : (r : Register) → IsWholeRegister r → (space : Space) → Each (HasHolderIn r.holders) (pieces_in r.pool space)
holders_of r h space = piece_holders r (register_pieces r space) (h.cards space)

there : (hs : List (Holder × ℕ)) (n : ℕ) → n < length hs → slice_get hs n ≡ None → ⊥
there [] n l e = omega arith
there (m ∷ hs) zero l e = none-some m (sym e)
there (m ∷ hs) (suc n) l e = there hs n (omega arith) e

-- the holder of a number that a handle has
pub record IsNamed (hs : List (Holder × ℕ)) (handle : List ℕ) (n : ℕ) : Type 0 where
  pub holder : Holder × ℕ
  pub at : slice_get hs n ≡ Some holder
  pub found : find (has_handle handle) hs ≡ Some holder

pub named : (hs : List (Holder × ℕ)) (handle : List ℕ) (n : ℕ) → holder_number hs handle ≡ Some n → IsNamed hs handle n
named hs handle n e =
    let place : ℕ = position_or_len (has_handle handle) hs in
    let p = cond_some (nat_lt place (length hs)) place n e in
    one (slice_get hs n) refl (subst (λ k. k < length hs) p.1 (ltb-true place (length hs) p.0)) (find_at (has_handle handle) hs ∙ ap (slice_get hs) p.1)
  where
    one : (o : Option (Holder × ℕ)) → slice_get hs n ≡ o → n < length hs → find (has_handle handle) hs ≡ slice_get hs n → IsNamed hs handle n
    one None at l f = absurd (there hs n l at)
    one (Some m) at l f = record { holder = m; at = at; found = f ∙ at }

handle_found : (hs : List (Holder × ℕ)) (handle : List ℕ) (n : ℕ) → holder_number hs handle ≡ Some n → handle_at hs n ≡ handle
handle_found hs handle n e =
    let m = named hs handle n e in
    ap (λ o. option_map_or (λ (q : Holder × ℕ). q.0.handle) o []) m.at
    ∙ bytes_eq-true m.holder.0.handle handle (found_has handle hs m.holder m.found)

some_value : {A : Type 0} (o : Option A) → IsSome o → (x : A) × (o ≡ Some x)
some_value None e = absurd (both_ways false refl e)
some_value (Some x) e = (x, refl)

by_pieces : (r : Register) (e : PlainEntry) (before after : List Piece) (request : Request) → IsNextBy r e before after request
    → holders_after request e.day r.holders ≡ r.holders → subs_after request e.day r.holders r.subs ≡ r.subs → reverses_after request r.reverses ≡ r.reverses
    → changes_between (objects_of r) (objects_of (after_by r e request))
    ≡ dels (blocks_of r.holders (pieces_gone before after)) ++ adds (blocks_of r.holders (pieces_come before after))
by_pieces r e before after request f same_holders same_subs same_reverses =
    let s : Register = after_by r e request in
    let same : objects_of s ≡ objects_in r.holders s.pool r.subs r.reverses =
    ap (λ xs. objects_in xs s.pool s.subs s.reverses) same_holders
    ∙ ap (λ xs. objects_in r.holders s.pool xs s.reverses) same_subs
    ∙ ap (λ xs. objects_in r.holders s.pool r.subs xs) same_reverses in
    ap (changes_between (objects_of r)) same
    ∙ of_pieces r.holders r.pool s.pool r.subs r.reverses before after f.whole.handles (holders_of r f.whole)
    (λ space. subst (λ xs. Each (HasHolderIn xs) (pieces_in s.pool space)) same_holders (holders_of s f.whole_after space))
    (whole_is_distinct r f.whole) (subst HaveDistinctKeys same (whole_is_distinct s f.whole_after)) f.touched

by_set : (r : Register) (e : PlainEntry) (before after : List Piece) (range : PlainRange) (servers : List (List ℕ)) (former : Option (List (List ℕ)))
    → IsNextBy r e before after (SetReverse range servers) → value_of_range r.reverses range ≡ former
    → changes_between (objects_of r) (objects_of (after_by r e (SetReverse range servers))) ≡ server_changes range former servers
by_set r e before after range servers former f at =
    let s : Register = after_by r e (SetReverse range servers) in
    let same : s.pool ≡ r.pool = unpainted e.cover e.card r.pool f.card in
    let stands : objects_of s ≡ objects_in r.holders r.pool r.subs (with_range r.reverses range servers) =
    ap (λ p. objects_in r.holders p r.subs (with_range r.reverses range servers)) same in
    let distinct = whole_is_distinct r f.whole in
    let distinct_after = subst HaveDistinctKeys stands (whole_is_distinct s f.whole_after) in
    let valid : IsRange range = range_valid range (and_parts (is_range range) (is_server_count servers) f.valid).0 in
    ap (changes_between (objects_of r)) stands ∙ cases former at distinct distinct_after valid
  where
    cases : (o : Option (List (List ℕ))) → value_of_range r.reverses range ≡ o → HaveDistinctKeys (objects_of r)
        → HaveDistinctKeys (objects_in r.holders r.pool r.subs (with_range r.reverses range servers)) → IsRange range
        → changes_between (objects_of r) (objects_in r.holders r.pool r.subs (with_range r.reverses range servers)) ≡ server_changes range o servers
    cases None at distinct distinct_after valid =
        of_reverses r.holders r.pool r.subs range r.reverses (with_range r.reverses range servers) [] ((range, servers) ∷ []) (adds (cuts_of (range, servers)))
        (parted_new r.reverses range servers at) distinct distinct_after
        (λ d. changes_from_none (cuts_of (range, servers) ++ []) ∙ ap adds (append-nil (cuts_of (range, servers))))
    cases (Some old) at distinct distinct_after valid =
        of_reverses r.holders r.pool r.subs range r.reverses (with_range r.reverses range servers) ((range, old) ∷ []) ((range, servers) ∷ []) (server_changes range (Some old) servers)
        (parted_other r.reverses range old servers valid f.whole.reverses_apart at) distinct distinct_after
        (λ d.
        ap (λ xs. changes_between xs (cuts_of (range, servers) ++ [])) (append-nil (cuts_of (range, old)))
        ∙ ap (changes_between (cuts_of (range, old))) (append-nil (cuts_of (range, servers)))
        ∙ server_change range old servers (subst HaveDistinctKeys (append-nil (cuts_of (range, old))) d))

by_request : (r : Register) (e : PlainEntry) (before after : List Piece) (request : Request) → IsNextBy r e before after request
    → changes_between (objects_of r) (objects_of (after_by r e request)) ≡ entry_changes r.holders r.subs r.reverses e.day before after request
by_request r e before after (AddHolder holder) f =
    let none : is_some (holder_number r.holders holder.handle) ≡ false = ap is_some (new_handle r e holder f.next f.is) in
    of_new_holder r (after_by r e (AddHolder holder)).pool holder e.day f.whole (holders_of r f.whole) (unpainted e.cover e.card r.pool f.card)
    (none_with_handle r.holders holder.handle none) (whole_is_distinct r f.whole) (whole_is_distinct (after_by r e (AddHolder holder)) f.whole_after)
by_request r e before after (EditHolder holder) f =
    let number = some_value (holder_number r.holders holder.handle) (edited_holder_is_there r e holder f.next f.is) in
    let former = named r.holders holder.handle number.0 number.1 in
    of_edited_holder r (after_by r e (EditHolder holder)).pool holder e.day f.whole (holders_of r f.whole) (unpainted e.cover e.card r.pool f.card)
    f.whole_after.handles former.holder former.found (whole_is_distinct r f.whole) (whole_is_distinct (after_by r e (EditHolder holder)) f.whole_after)
    ∙ sym (ap (λ o. edit_changes o holder e.day) former.found)
by_request r e before after (SubAssign range handle) f =
    let s : Register = after_by r e (SubAssign range handle) in
    let number = some_value (holder_number r.holders handle) (sub_holder_known r e range handle f.next f.is) in
    let card : SubCard = record { holder = number.0; day = e.day } in
    let subs : List (PlainRange × SubCard) = with_range r.subs range card in
    let same : s.pool ≡ r.pool = unpainted e.cover e.card r.pool f.card in
    let stands : objects_of s ≡ objects_in r.holders r.pool subs r.reverses =
    ap (λ p. objects_in r.holders p s.subs r.reverses) same
    ∙ ap (λ o. objects_in r.holders r.pool (with_sub r.subs range e.day o) r.reverses) number.1 in
    ap (changes_between (objects_of r)) stands
    ∙ of_subs r.holders r.pool r.reverses range r.subs subs [] ((range, card) ∷ []) (adds (Sub range handle e.day ∷ []))
    (parted_new r.subs range card (none_is_unmet r.subs range (range_valid range f.valid) (sub_is_free r e range handle f.next f.is)))
    (whole_is_distinct r f.whole) (subst HaveDistinctKeys stands (whole_is_distinct s f.whole_after))
    (ap (λ x. adds (Sub range x e.day ∷ [])) (handle_found r.holders handle number.0 number.1))
by_request r e before after (SubReturn range) f =
    let s : Register = after_by r e (SubReturn range) in
    let card = some_value (value_of_range r.subs range) (returned_sub_is_there r e range f.next f.is) in
    let subs : List (PlainRange × SubCard) = without_range r.subs range in
    let same : s.pool ≡ r.pool = unpainted e.cover e.card r.pool f.card in
    let stands : objects_of s ≡ objects_in r.holders r.pool subs r.reverses = ap (λ p. objects_in r.holders p subs r.reverses) same in
    ap (changes_between (objects_of r)) stands
    ∙ of_subs r.holders r.pool r.reverses range r.subs subs ((range, card.0) ∷ []) [] (dels (sub_of r.holders (range, card.0) ∷ []))
    (parted_out r.subs range card.0 f.whole.subs_apart card.1)
    (whole_is_distinct r f.whole) (subst HaveDistinctKeys stands (whole_is_distinct s f.whole_after)) refl
    ∙ sym (ap (λ o. option_map_or (λ (c : SubCard). dels (sub_of r.holders (range, c) ∷ [])) o []) card.1)
by_request r e before after (SetReverse range servers) f = by_set r e before after range servers (value_of_range r.reverses range) f refl
by_request r e before after (ClearReverse range) f =
    let s : Register = after_by r e (ClearReverse range) in
    let former = some_value (value_of_range r.reverses range) (cleared_is_there r e range f.next f.is) in
    let reverses : List (PlainRange × List (List ℕ)) = without_range r.reverses range in
    let same : s.pool ≡ r.pool = unpainted e.cover e.card r.pool f.card in
    let stands : objects_of s ≡ objects_in r.holders r.pool r.subs reverses = ap (λ p. objects_in r.holders p r.subs reverses) same in
    ap (changes_between (objects_of r)) stands
    ∙ of_reverses r.holders r.pool r.subs range r.reverses reverses ((range, former.0) ∷ []) [] (dels (cuts_of (range, former.0)))
    (parted_out r.reverses range former.0 f.whole.reverses_apart former.1)
    (whole_is_distinct r f.whole) (subst HaveDistinctKeys stands (whole_is_distinct s f.whole_after))
    (λ d. changes_to_none (cuts_of (range, former.0) ++ []) ∙ ap dels (append-nil (cuts_of (range, former.0))))
    ∙ sym (ap (λ o. option_map_or (λ (servers : List (List ℕ)). dels (cuts_of (range, servers))) o []) former.1)
by_request r e before after (Return range handle) f =
    let s : Register = after_by r e (Return range handle) in
    of_return r.holders r.pool s.pool r.subs r.reverses range before after f.whole.handles (holders_of r f.whole) (holders_of s f.whole_after)
    (whole_is_distinct r f.whole) (whole_is_distinct s f.whole_after) f.touched
by_request r e before after (Receive range) f = by_pieces r e before after (Receive range) f refl refl refl
by_request r e before after (Delegate space amount status handle) f = by_pieces r e before after (Delegate space amount status handle) f refl refl refl
by_request r e before after (Reserve range) f = by_pieces r e before after (Reserve range) f refl refl refl
by_request r e before after (Unreserve range) f = by_pieces r e before after (Unreserve range) f refl refl refl
by_request r e before after (Release range) f = by_pieces r e before after (Release range) f refl refl refl
by_request r e before after (Split at) f = by_pieces r e before after (Split at) f refl refl refl
by_request r e before after (Join at) f = by_pieces r e before after (Join at) f refl refl refl
by_request r e before after (Transfer range from to) f = by_pieces r e before after (Transfer range from to) f refl refl refl

pub next_changes_are : (r : Register) (e : PlainEntry) (before after : List Piece) → IsWholeRegister r → IsNextEntry r e
    → IsTouchedBy r.pool (after_entry r e).pool before after
    → changes_of r e ≡ entry_changes r.holders r.subs r.reverses e.day before after e.request
next_changes_are r e before after h next t = by_request r e before after e.request (next_by r e before after e.request h next t refl)
