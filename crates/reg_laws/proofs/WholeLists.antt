-- Sub-assignments and reverse entries after an entry: each lies where it may, they are apart, and there is room for them.
use Rattle.std.proofs.Common.{◌≡◌, ℕ, ◌+◌, ◌<◌, ◌≤◌, Bool, true, false, not, ◌&&◌, nat_lt, nat_le, ◌⊎◌, inl, inr, List, [], ◌∷◌, Option, None, Some, filter, find, length, refl, sym, ◌∙◌, ap, subst, arith}
use Rattle.std.specs.Option.{is_some, option_or, option_map, IsSomeAnd}
use Rattle.std.proofs.lemmas.Bool.{and_parts, and_right, ltb-false, leb-true, leb-false, not-true}
use Rattle.num_range.specs.Number.{PlainNumber}
use Rattle.num_range.specs.Range.{PlainRange, IsRange}
use Rattle.reg_entry.specs.declared.card.Card.{Card}
use Rattle.reg_entry.specs.declared.card.Status.{Status}
use Rattle.reg_entry.specs.declared.card.Status.TheVariants.{Allocated}
use Rattle.reg_entry.specs.declared.piece.Piece.{Piece}
use Rattle.reg_entry.specs.declared.refusal.Refusal.TheVariants.{NotOnePiece, Overlap, Straddled, HasSubs, SubsFull, ReverseFull, NoReverseSpace}
use Rattle.reg_entry.specs.declared.request.Request.{Request}
use Rattle.reg_entry.specs.declared.request.Request.TheVariants.{SubAssign, SubReturn, Return, Split, SetReverse, ClearReverse}
use Rattle.reg_entry.specs.declared.sub_card.SubCard.{SubCard}
use Rattle.reg_entry.specs.Card.{is_delegated}
use Rattle.reg_entry.specs.Request.{is_range, is_server_count, is_request}
use Rattle.reg_entry.specs.Holders.{holder_number}
use Rattle.reg_entry.specs.Ranges.{same_range, lies_inside, ranges_meet, ranges_inside, value_of_range, first_meeting, without_range, AreApart}
use Rattle.reg_entry.specs.Register.{Register, piece_of, with_sub, subs_after, reverses_after}
use Rattle.reg_entry.specs.Covers.{first_number}
use Rattle.reg_entry.specs.Decision.{first_of, outside_pool, not_in_one_piece, wrong_status, is_status, unknown_holder, first_common, meets_sub, meets_reverse, journal_full, subs_full, has_subs, straddling, straddled, of_asn, no_reverse_space, reverse_full, early_rules, late_rules}
use Rattle.reg_entry.specs.Whole.{IsDayIn, piece_round, HasRange, IsSubIn, AreSubsIn, IsReverseIn, AreReversesIn, IsKnownHolder}
use Rattle.reg_laws.proofs.Sameness.{same_status-true}
use Rattle.reg_laws.proofs.Accepting.{or_none, refuse_if_none, map_none, range_valid, first_in_pool}
use Rattle.reg_laws.proofs.NextFacts.{some_piece, on_the_piece, allowed_if, right_status}
use Rattle.reg_laws.proofs.Parts.{IsIn}
use Rattle.reg_laws.proofs.Keeping.{Keeps, straddles}
use Rattle.reg_laws.proofs.RequestKeeps.{touches, known_number}
use Rattle.reg_laws.proofs.RangeLists.{AllOf, NoneIs, all_and, all_moved, none_at_all, none_found, none_left, none_of_both, all_with, all_filtered, ranges_of_apart, apart_filter, apart_with, meets_other, length_with, length_filter, length_with_other}

-- ---- of each sub and reverse entry

pub subs_of_each : (r : Register) (ss : List (PlainRange × SubCard)) → AreSubsIn r ss → AllOf (IsSubIn r) ss
subs_of_each r [] h = tt
subs_of_each r (s ∷ ss) h = (h.0, subs_of_each r ss h.1)

pub each_of_subs : (r : Register) (ss : List (PlainRange × SubCard)) → AllOf (IsSubIn r) ss → AreSubsIn r ss
each_of_subs r [] h = tt
each_of_subs r (s ∷ ss) h = (h.0, each_of_subs r ss h.1)

pub reverses_of_each : (r : Register) (ss : List (PlainRange × List (List ℕ))) → AreReversesIn r ss → AllOf (IsReverseIn r) ss
reverses_of_each r [] h = tt
reverses_of_each r (s ∷ ss) h = (h.0, reverses_of_each r ss h.1)

pub each_of_reverses : (r : Register) (ss : List (PlainRange × List (List ℕ))) → AllOf (IsReverseIn r) ss → AreReversesIn r ss
each_of_reverses r [] h = tt
each_of_reverses r (s ∷ ss) h = (h.0, each_of_reverses r ss h.1)

-- ---- a range inside one piece

-- the range lies inside one piece of such a status
abbrev pub IsInside : Register → PlainRange → (Status → Type 0) → Type 0
IsInside r range P = IsSomeAnd (piece_round r range) (λ p. HasRange range p × P p.card.status)

pub some_and : {A : Type 0} (o : Option A) (P : A → Type 0) → IsSomeAnd o P → (x : A) × (o ≡ Some x) × P x
some_and None P h = absurd h
some_and (Some x) P h = (x, refl, h)

inside_moved : (r s : Register) (test : PlainRange → Bool) (range : PlainRange) (P : Status → Type 0) → ((status : Status) → P status → is_delegated status ≡ true)
    → Keeps r.pool s.pool test → range.first ≤ range.last → test range ≡ false → IsInside r range P → IsInside s range P
inside_moved r s test range P delegated keeps order untested h =
    let found = some_and (piece_round r range) (λ p. HasRange range p × P p.card.status) h in
    let p : Piece = found.0 in
    let is : IsIn r.pool range p.card = record { piece = p; holds_first = found.1; inside = found.2.0; card = refl } in
    let kept = keeps range p.card order untested (delegated p.card.status found.2.1) is in
    subst (λ o. IsSomeAnd o (λ q. HasRange range q × P q.card.status)) (sym kept.is.holds_first)
    (kept.is.inside, subst P (sym (ap (λ c. c.status) kept.is.card ∙ kept.same_status)) found.2.1)

-- what the rules say of the range of a request
inside_by_rules : (r : Register) (range : PlainRange) (accepts : Status → Bool) (P : Status → Type 0) → ((status : Status) → accepts status ≡ true → P status)
    → is_range range ≡ true → outside_pool r range ≡ None → not_in_one_piece r range ≡ None → wrong_status r (first_number range) accepts ≡ None
    → IsInside r range P
inside_by_rules r range accepts P means valid pooled one status =
    let found = some_piece (piece_of r.pool (first_number range)) (first_in_pool r range (range_valid range valid) pooled) in
    let p : Piece = found.0 in
    let inside = allowed_if (lies_inside range p.range) (NotOnePiece p.range) (on_the_piece _ (piece_of r.pool (first_number range)) p one found.1) in
    subst (λ o. IsSomeAnd o (λ q. HasRange range q × P q.card.status)) (sym found.1)
    (inside, means p.card.status (right_status r (first_number range) accepts p status found.1))

-- what they say of one that is sub-assigned
pub inside_allocated : (r : Register) (range : PlainRange) → is_range range ≡ true → outside_pool r range ≡ None → not_in_one_piece r range ≡ None
    → wrong_status r (first_number range) (is_status Allocated) ≡ None → IsInside r range (λ status. status ≡ Allocated)
inside_allocated r range valid pooled one status =
    inside_by_rules r range (is_status Allocated) (λ status. status ≡ Allocated) (λ status e. same_status-true status Allocated e) valid pooled one status

-- ---- what is touched

none_inside : (r : Register) (range : PlainRange) → has_subs r range ≡ None → NoneIs (λ s. lies_inside s.0 range) r.subs
none_inside r range e =
    let n : ℕ = length (ranges_inside r.subs range) in
    let few : n ≤ 0 = ltb-false 0 n (refuse_if_none (nat_lt 0 n) (HasSubs n) e) in
    none_left (λ s. lies_inside s.0 range) r.subs (omega arith)

none_straddling : {T : Type 0} (rs : List (PlainRange × T)) (at : PlainNumber) → straddling rs at ≡ None → NoneIs (λ s. straddles at s.0) rs
none_straddling rs at e = none_found (λ s. straddles at s.0) rs (map_none (λ s. s.0) (find (λ s. straddles at s.0) rs) e)

pub unstraddled : (r : Register) (at : PlainNumber) → straddled r at ≡ None → (straddling r.subs at ≡ None) × (straddling r.reverses at ≡ None)
unstraddled r at e =
    or_none (straddling r.subs at) (straddling r.reverses at) (map_none (λ range. Straddled range) (option_or (straddling r.subs at) (straddling r.reverses at)) e)

-- an entry touches no sub
pub subs_untouched : (r : Register) (request : Request) (day : ℕ) (cover : Option PlainRange) (card : Option Card)
    → first_of (late_rules r request day cover card) ≡ None → NoneIs (λ s. touches request s.0) r.subs
subs_untouched r (Return range handle) day cover card late = none_inside r range (or_none (has_subs r range) _ late).0
subs_untouched r (Split at) day cover card late = none_straddling r.subs at (unstraddled r at (or_none (straddled r at) _ late).0).0
subs_untouched r request day cover card late = none_at_all r.subs

-- ---- subs

sub_moved : (r s : Register) (test : PlainRange → Bool) → Keeps r.pool s.pool test → length r.holders ≤ length s.holders → r.last_day ≤ s.last_day
    → (x : PlainRange × SubCard) → test x.0 ≡ false → IsRange x.0 × IsSubIn r x → IsSubIn s x
sub_moved r s test keeps more later x untested h =
    let k : x.1.holder < length r.holders = h.1.holder in
    let d : x.1.day ≤ r.last_day = h.1.day.1 in
    record {
      inside = inside_moved r s test x.0 (λ status. status ≡ Allocated) (λ status e. ap is_delegated e) keeps h.0.0 untested h.1.inside;
      holder = omega arith;
      day = (h.1.day.0, omega arith);
    }

all_subs_moved : (r s : Register) (request : Request) → Keeps r.pool s.pool (touches request) → length r.holders ≤ length s.holders → r.last_day ≤ s.last_day
    → NoneIs (λ x. touches request x.0) r.subs → AreApart r.subs → AreSubsIn r r.subs → AllOf (IsSubIn s) r.subs
all_subs_moved r s request keeps more later untouched apart h =
    all_moved (λ x. IsRange x.0 × IsSubIn r x) (IsSubIn s) (λ x. touches request x.0) r.subs untouched (sub_moved r s (touches request) keeps more later)
    (all_and (λ x. IsRange x.0) (IsSubIn r) r.subs (ranges_of_apart r.subs apart) (subs_of_each r r.subs h))

with_new_sub : (s : Register) (ss : List (PlainRange × SubCard)) (range : PlainRange) (day : ℕ) (o : Option ℕ) → AllOf (IsSubIn s) ss
    → IsInside s range (λ status. status ≡ Allocated) → IsDayIn s day → IsKnownHolder s o → AllOf (IsSubIn s) (with_sub ss range day o)
with_new_sub s ss range day None h inside dated is = h
with_new_sub s ss range day (Some holder) h inside dated is =
    all_with (IsSubIn s) ss range (record { holder = holder; day = day }) h (record { inside = inside; holder = is; day = dated })

pub subs_in : (r s : Register) (request : Request) (day : ℕ) → is_request request ≡ true → first_of (early_rules r request) ≡ None
    → Keeps r.pool s.pool (touches request) → length r.holders ≤ length s.holders → r.last_day ≤ s.last_day → IsDayIn s day
    → NoneIs (λ x. touches request x.0) r.subs → AreApart r.subs → AreSubsIn r r.subs → AllOf (IsSubIn s) (subs_after request day r.holders r.subs)
subs_in r s (SubAssign range handle) day valid early keeps more later dated untouched apart h =
    let a = or_none (outside_pool r range) _ early in
    let b = or_none (not_in_one_piece r range) _ a.1 in
    let c = or_none (wrong_status r (first_number range) (is_status Allocated)) _ b.1 in
    let d = or_none (unknown_holder r handle) _ c.1 in
    let inside = inside_allocated r range valid a.0 b.0 c.0 in
    with_new_sub s r.subs range day (holder_number r.holders handle)
    (all_subs_moved r s (SubAssign range handle) keeps more later untouched apart h)
    (inside_moved r s (touches (SubAssign range handle)) range (λ status. status ≡ Allocated) (λ status e. ap is_delegated e) keeps (range_valid range valid).0 refl inside)
    dated (known_number r s handle more d.0)
subs_in r s (SubReturn range) day valid early keeps more later dated untouched apart h =
    all_filtered (IsSubIn s) (IsSubIn s) (λ x. not (same_range x.0 range)) r.subs (λ x e i. i)
    (all_subs_moved r s (SubReturn range) keeps more later untouched apart h)
subs_in r s request day valid early keeps more later dated untouched apart h = all_subs_moved r s request keeps more later untouched apart h

none_weaker : {T : Type 0} (r : PlainRange) (ss : List (PlainRange × T)) → NoneIs (λ s. ranges_meet s.0 r) ss → NoneIs (meets_other r) ss
none_weaker r [] h = tt
none_weaker r (s ∷ ss) h = (and_right (not (same_range s.0 r)) (ranges_meet s.0 r) h.0, none_weaker r ss h.1)

with_sub_apart : (ss : List (PlainRange × SubCard)) (range : PlainRange) (day : ℕ) (o : Option ℕ) → IsRange range → AreApart ss → NoneIs (meets_other range) ss
    → AreApart (with_sub ss range day o)
with_sub_apart ss range day None valid h none = h
with_sub_apart ss range day (Some holder) valid h none = apart_with ss range (record { holder = holder; day = day }) valid h none

pub subs_apart : (r : Register) (request : Request) (day : ℕ) → is_request request ≡ true → first_of (early_rules r request) ≡ None
    → AreApart r.subs → AreApart (subs_after request day r.holders r.subs)
subs_apart r (SubAssign range handle) day valid early h =
    let a = or_none (outside_pool r range) _ early in
    let b = or_none (not_in_one_piece r range) _ a.1 in
    let c = or_none (wrong_status r (first_number range) (is_status Allocated)) _ b.1 in
    let d = or_none (unknown_holder r handle) _ c.1 in
    let e = or_none (meets_sub r range) None d.1 in
    let met : first_meeting r.subs range ≡ None =
    map_none (λ s. first_common range s.0) (first_meeting r.subs range)
    (map_none (λ n. Overlap (record { space = range.space; value = n })) (option_map (λ s. first_common range s.0) (first_meeting r.subs range)) e.0) in
    with_sub_apart r.subs range day (holder_number r.holders handle) (range_valid range valid) h
    (none_weaker range r.subs (none_found (λ s. ranges_meet s.0 range) r.subs met))
subs_apart r (SubReturn range) day valid early h = apart_filter (λ x. not (same_range x.0 range)) r.subs h
subs_apart r request day valid early h = h

length_with_sub : (ss : List (PlainRange × SubCard)) (range : PlainRange) (day : ℕ) (o : Option ℕ) → length (with_sub ss range day o) ≤ length ss + 1
length_with_sub ss range day None = omega arith
length_with_sub ss range day (Some holder) = length_with ss range (record { holder = holder; day = day })

pub subs_room : (r : Register) (request : Request) (day : ℕ) (cover : Option PlainRange) (card : Option Card)
    → first_of (late_rules r request day cover card) ≡ None → length r.subs ≤ r.rooms.subs → length (subs_after request day r.holders r.subs) ≤ r.rooms.subs
subs_room r (SubAssign range handle) day cover card late h =
    let a = or_none (journal_full r) _ late in
    let b = or_none (subs_full r) None a.1 in
    let room : length r.subs < r.rooms.subs = leb-false r.rooms.subs (length r.subs) (refuse_if_none (nat_le r.rooms.subs (length r.subs)) (SubsFull r.rooms.subs) b.0) in
    let one : length (with_sub r.subs range day (holder_number r.holders handle)) ≤ length r.subs + 1 = length_with_sub r.subs range day (holder_number r.holders handle) in
    omega arith
subs_room r (SubReturn range) day cover card late h =
    let fewer : length (without_range r.subs range) ≤ length r.subs = length_filter (λ x. not (same_range x.0 range)) r.subs in omega arith
subs_room r request day cover card late h = h

-- ---- reverse entries

reverse_moved : (r s : Register) (test : PlainRange → Bool) → Keeps r.pool s.pool test
    → (x : PlainRange × List (List ℕ)) → test x.0 ≡ false → IsRange x.0 × IsReverseIn r x → IsReverseIn s x
reverse_moved r s test keeps x untested h = record {
  inside = inside_moved r s test x.0 (λ status. is_delegated status ≡ true) (λ status e. e) keeps h.0.0 untested h.1.inside;
  addresses = h.1.addresses;
  servers = h.1.servers;
}

pub reverses_known : (r : Register) → AreApart r.reverses → AreReversesIn r r.reverses → AllOf (λ x. IsRange x.0 × IsReverseIn r x) r.reverses
reverses_known r apart h =
    all_and (λ x. IsRange x.0) (IsReverseIn r) r.reverses (ranges_of_apart r.reverses apart) (reverses_of_each r r.reverses h)

-- no rule of most requests speaks of a range that they touch
all_reverses_moved : (r s : Register) (test : PlainRange → Bool) → Keeps r.pool s.pool test → NoneIs (λ x. test x.0) r.reverses
    → AreApart r.reverses → AreReversesIn r r.reverses → AllOf (IsReverseIn s) r.reverses
all_reverses_moved r s test keeps untouched apart h =
    all_moved (λ x. IsRange x.0 × IsReverseIn r x) (IsReverseIn s) (λ x. test x.0) r.reverses untouched (reverse_moved r s test keeps) (reverses_known r apart h)

not_asn : (range : PlainRange) → no_reverse_space range ≡ None → of_asn range.space ≡ false
not_asn range e = refuse_if_none (of_asn range.space) NoReverseSpace e

pub reverses_in : (r s : Register) (request : Request) (day : ℕ) (cover : Option PlainRange) (card : Option Card) → is_request request ≡ true
    → first_of (early_rules r request) ≡ None → first_of (late_rules r request day cover card) ≡ None → Keeps r.pool s.pool (touches request)
    → AreApart r.reverses → AreReversesIn r r.reverses → AllOf (IsReverseIn s) (reverses_after request r.reverses)
reverses_in r s (SetReverse range servers) day cover card valid early late keeps apart h =
    let v = and_parts (is_range range) (is_server_count servers) valid in
    let n = and_parts (nat_le 1 (length servers)) (nat_le (length servers) 4) v.1 in
    let a = or_none (outside_pool r range) _ early in
    let b = or_none (not_in_one_piece r range) _ a.1 in
    let c = or_none (wrong_status r (first_number range) is_delegated) _ b.1 in
    let test : PlainRange → Bool = touches (SetReverse range servers) in
    let inside = inside_by_rules r range is_delegated (λ status. is_delegated status ≡ true) (λ status e. e) v.0 a.0 b.0 c.0 in
    all_with (IsReverseIn s) r.reverses range servers (all_reverses_moved r s test keeps (none_at_all r.reverses) apart h)
    (record {
      inside = inside_moved r s test range (λ status. is_delegated status ≡ true) (λ status e. e) keeps (range_valid range v.0).0 refl inside;
      addresses = not_asn range (or_none (no_reverse_space range) _ late).0;
      servers = (leb-true 1 (length servers) n.0, leb-true (length servers) 4 n.1);
    })
reverses_in r s (ClearReverse range) day cover card valid early late keeps apart h =
    all_filtered (IsReverseIn s) (IsReverseIn s) (λ x. not (same_range x.0 range)) r.reverses (λ x e i. i)
    (all_reverses_moved r s (touches (ClearReverse range)) keeps (none_at_all r.reverses) apart h)
reverses_in r s (Return range handle) day cover card valid early late keeps apart h =
    all_filtered (λ x. IsRange x.0 × IsReverseIn r x) (IsReverseIn s) (λ x. not (lies_inside x.0 range)) r.reverses
    (λ x e i. reverse_moved r s (touches (Return range handle)) keeps x (not-true (lies_inside x.0 range) e) i) (reverses_known r apart h)
reverses_in r s (Split at) day cover card valid early late keeps apart h =
    all_reverses_moved r s (straddles at) keeps (none_straddling r.reverses at (unstraddled r at (or_none (straddled r at) _ late).0).1) apart h
reverses_in r s request day cover card valid early late keeps apart h =
    all_reverses_moved r s (touches request) keeps (none_at_all r.reverses) apart h

-- no reverse entry of another range has a number of one that is given name servers
pub others_unmet : (r : Register) (range : PlainRange) (servers : List (List ℕ)) → first_of (early_rules r (SetReverse range servers)) ≡ None
    → first_meeting (filter (λ s. not (same_range s.0 range)) r.reverses) range ≡ None
others_unmet r range servers early =
    let a = or_none (outside_pool r range) _ early in
    let b = or_none (not_in_one_piece r range) _ a.1 in
    let c = or_none (wrong_status r (first_number range) is_delegated) _ b.1 in
    let d = or_none (meets_reverse r range) None c.1 in
    let others : List (PlainRange × List (List ℕ)) = filter (λ s. not (same_range s.0 range)) r.reverses in
    map_none (λ s. first_common range s.0) (first_meeting others range)
    (map_none (λ n. Overlap (record { space = range.space; value = n })) (option_map (λ s. first_common range s.0) (first_meeting others range)) d.0)

pub reverses_apart : (r : Register) (request : Request) → is_request request ≡ true → first_of (early_rules r request) ≡ None
    → AreApart r.reverses → AreApart (reverses_after request r.reverses)
reverses_apart r (SetReverse range servers) valid early h =
    let v = and_parts (is_range range) (is_server_count servers) valid in
    apart_with r.reverses range servers (range_valid range v.0) h
    (none_of_both (λ s. not (same_range s.0 range)) (λ s. ranges_meet s.0 range) r.reverses (others_unmet r range servers early))
reverses_apart r (ClearReverse range) valid early h = apart_filter (λ x. not (same_range x.0 range)) r.reverses h
reverses_apart r (Return range handle) valid early h = apart_filter (λ x. not (lies_inside x.0 range)) r.reverses h
reverses_apart r request valid early h = h

pub room_or_there : (b full : Bool) → (not b && full) ≡ false → (b ≡ true) ⊎ (full ≡ false)
room_or_there true full e = inl refl
room_or_there false full e = inr e

pub reverses_room : (r : Register) (request : Request) (day : ℕ) (cover : Option PlainRange) (card : Option Card) → is_request request ≡ true
    → first_of (late_rules r request day cover card) ≡ None → AreApart r.reverses → length r.reverses ≤ r.rooms.reverse
    → length (reverses_after request r.reverses) ≤ r.rooms.reverse
reverses_room r (SetReverse range servers) day cover card valid late apart h =
    let v = and_parts (is_range range) (is_server_count servers) valid in
    let a = or_none (no_reverse_space range) _ late in
    let b = or_none (journal_full r) _ a.1 in
    let c = or_none (reverse_full r range) None b.1 in
    let full : Bool = nat_le r.rooms.reverse (length r.reverses) in
    let there : Bool = is_some (value_of_range r.reverses range) in
    elim (room_or_there there full (refuse_if_none (not there && full) (ReverseFull r.rooms.reverse) c.0)) [
      | inl t ↦ let same = length_with_other r.reverses range servers (range_valid range v.0) apart t in omega arith
      | inr f ↦
          let room : length r.reverses < r.rooms.reverse = leb-false r.rooms.reverse (length r.reverses) f in
          let one = length_with r.reverses range servers in
          omega arith
    ]
reverses_room r (ClearReverse range) day cover card valid late apart h =
    let fewer = length_filter (λ x. not (same_range x.0 range)) r.reverses in omega arith
reverses_room r (Return range handle) day cover card valid late apart h =
    let fewer = length_filter (λ x. not (lies_inside x.0 range)) r.reverses in omega arith
reverses_room r request day cover card valid late apart h = h
