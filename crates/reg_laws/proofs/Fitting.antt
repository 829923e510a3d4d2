-- What the next entry knows of sub-assignments.
use Rattle.std.proofs.Common.{◌≡◌, ℕ, ◌<◌, ◌≤◌, Bool, true, false, nat_lt, nat_le, List, [], Option, None, Some, IsSome, find, length, refl, sym, ◌∙◌, subst, arith}
use Rattle.std.specs.Option.{is_some, option_map, IsSomeAnd}
use Rattle.std.proofs.lemmas.Bool.{both_ways, ltb-false, leb-false}
use Rattle.std.proofs.lemmas.List.{nil_from_length}
use Rattle.num_range.specs.Number.{PlainNumber}
use Rattle.num_range.specs.Range.{PlainRange}
use Rattle.reg_entry.specs.declared.card.Status.TheVariants.{Allocated}
use Rattle.reg_entry.specs.declared.piece.Piece.{Piece}
use Rattle.reg_entry.specs.declared.refusal.Refusal.TheVariants.{UnknownHolder, Overlap, NoSub, HasSubs, SubsFull}
use Rattle.reg_entry.specs.declared.request.Request.{Request}
use Rattle.reg_entry.specs.declared.request.Request.TheVariants.{SubAssign, SubReturn, Return, Split}
use Rattle.reg_entry.specs.declared.sub_card.SubCard.{SubCard}
use Rattle.reg_entry.specs.Entry.{PlainEntry}
use Rattle.reg_entry.specs.Holders.{holder_number}
use Rattle.reg_entry.specs.Pieces.{IsPoolRange}
use Rattle.reg_entry.specs.Partition.{pieces_in, IsPartition}
use Rattle.reg_entry.specs.Ranges.{same_range, value_of_range, first_meeting, ranges_inside}
use Rattle.reg_entry.specs.Register.{Register, card_of}
use Rattle.reg_entry.specs.Request.{is_request}
use Rattle.reg_entry.specs.Covers.{first_number, cover_for}
use Rattle.reg_entry.specs.Decision.{first_of, outside_pool, not_in_one_piece, wrong_status, is_status, unknown_holder, first_common, meets_sub, no_sub, has_subs, straddling, straddled, journal_full, subs_full, early_rules, late_rules}
use Rattle.reg_entry.specs.Next.{start_of, IsNextEntry}
use Rattle.reg_entry.specs.Whole.{piece_round, HasRange, IsSubIn, IsWholeRegister}
use Rattle.reg_laws.proofs.Sameness.{same_range-true}
use Rattle.reg_laws.proofs.Accepting.{or_none, refuse_if_none, map_none}
use Rattle.reg_laws.proofs.NextFacts.{next_facts, allowed_if}
use Rattle.reg_laws.proofs.Knowing.{some_of}
use Rattle.reg_laws.proofs.Painted.{piece_is_of}
use Rattle.reg_laws.proofs.Enclosing.{found_of}
use Rattle.reg_laws.proofs.Parts.{inside_last}
use Rattle.reg_laws.proofs.WholeLists.{IsInside, some_and, inside_allocated, subs_of_each, unstraddled}

-- ---- what no rule is against

pub early_of : (r : Register) (e : PlainEntry) (request : Request) → IsNextEntry r e → e.request ≡ request → first_of (early_rules r request) ≡ None
early_of r e request next is = subst (λ q. first_of (early_rules r q) ≡ None) is (next_facts r e next).early

pub late_of : (r : Register) (e : PlainEntry) (request : Request) → IsNextEntry r e → e.request ≡ request
    → first_of (late_rules r request e.day e.cover e.card) ≡ None
late_of r e request next is = subst (λ q. first_of (late_rules r q e.day e.cover e.card) ≡ None) is (next_facts r e next).late

cover_of : (r : Register) (e : PlainEntry) (request : Request) → IsNextEntry r e → e.request ≡ request
    → e.cover ≡ cover_for r request (start_of e.cover)
cover_of r e request next is = subst (λ q. e.cover ≡ cover_for r q (start_of e.cover)) is (next_facts r e next).cover

-- what the rules say of a range that is sub-assigned
record IsAssignable (r : Register) (range : PlainRange) (handle : List ℕ) : Type 0 where
  inside : IsInside r range (λ status. status ≡ Allocated)
  known : unknown_holder r handle ≡ None
  unmet : meets_sub r range ≡ None

assignable : (r : Register) (e : PlainEntry) (range : PlainRange) (handle : List ℕ) → IsNextEntry r e → e.request ≡ SubAssign range handle
    → IsAssignable r range handle
assignable r e range handle next is =
    let a = or_none (outside_pool r range) _ (early_of r e (SubAssign range handle) next is) in
    let b = or_none (not_in_one_piece r range) _ a.1 in
    let c = or_none (wrong_status r (first_number range) (is_status Allocated)) _ b.1 in
    let d = or_none (unknown_holder r handle) _ c.1 in
    let valid = subst (λ q. is_request q ≡ true) is (next_facts r e next).valid in
    record { inside = inside_allocated r range valid a.0 b.0 c.0; known = d.0; unmet = (or_none (meets_sub r range) None d.1).0 }

pub sub_is_free : (r : Register) (e : PlainEntry) (range : PlainRange) (handle : List ℕ) → IsNextEntry r e → e.request ≡ SubAssign range handle
    → first_meeting r.subs range ≡ None
sub_is_free r e range handle next is =
    map_none (λ s. first_common range s.0) (first_meeting r.subs range)
    (map_none (λ n. Overlap (record { space = range.space; value = n })) (option_map (λ s. first_common range s.0) (first_meeting r.subs range))
    (assignable r e range handle next is).unmet)

pub sub_room : (r : Register) (e : PlainEntry) (range : PlainRange) (handle : List ℕ) → IsNextEntry r e → e.request ≡ SubAssign range handle
    → length r.subs < r.rooms.subs
sub_room r e range handle next is =
    let late = or_none (journal_full r) _ (late_of r e (SubAssign range handle) next is) in
    leb-false r.rooms.subs (length r.subs)
    (refuse_if_none (nat_le r.rooms.subs (length r.subs)) (SubsFull r.rooms.subs) (or_none (subs_full r) None late.1).0)

pub sub_holder_known : (r : Register) (e : PlainEntry) (range : PlainRange) (handle : List ℕ) → IsNextEntry r e → e.request ≡ SubAssign range handle
    → IsSome (holder_number r.holders handle)
sub_holder_known r e range handle next is =
    some_of (holder_number r.holders handle)
    (allowed_if (is_some (holder_number r.holders handle)) (UnknownHolder handle) (assignable r e range handle next is).known)

pub returned_sub_is_there : (r : Register) (e : PlainEntry) (range : PlainRange) → IsNextEntry r e → e.request ≡ SubReturn range
    → IsSome (value_of_range r.subs range)
returned_sub_is_there r e range next is =
    some_of (value_of_range r.subs range)
    (allowed_if (is_some (value_of_range r.subs range)) NoSub (or_none (no_sub r range) None (early_of r e (SubReturn range) next is)).0)

pub split_cuts_no_sub : (r : Register) (e : PlainEntry) (at : PlainNumber) → IsNextEntry r e → e.request ≡ Split at → straddling r.subs at ≡ None
split_cuts_no_sub r e at next is = (unstraddled r at (or_none (straddled r at) _ (late_of r e (Split at) next is)).0).0

pub returned_has_no_sub : (r : Register) (e : PlainEntry) (range : PlainRange) (handle : List ℕ) → IsNextEntry r e → e.request ≡ Return range handle
    → ranges_inside r.subs range ≡ []
returned_has_no_sub r e range handle next is =
    let n : ℕ = length (ranges_inside r.subs range) in
    let few : n ≤ 0 =
    ltb-false 0 n (refuse_if_none (nat_lt 0 n) (HasSubs n) (or_none (has_subs r range) _ (late_of r e (Return range handle) next is)).0) in
    nil_from_length (ranges_inside r.subs range) (omega arith)

pub sub_cover : (r : Register) (e : PlainEntry) (range : PlainRange) (handle : List ℕ) → IsNextEntry r e → e.request ≡ SubAssign range handle
    → e.cover ≡ Some range
sub_cover r e range handle next is = cover_of r e (SubAssign range handle) next is

pub returned_sub_cover : (r : Register) (e : PlainEntry) (range : PlainRange) → IsNextEntry r e → e.request ≡ SubReturn range → e.cover ≡ Some range
returned_sub_cover r e range next is = cover_of r e (SubReturn range) next is

-- ---- the piece round the range

found_there : {A B : Type 0} (f : A → B) (o : Option A) → IsSome (option_map f o) → (x : A) × (o ≡ Some x)
found_there f None e = absurd (both_ways false refl e)
found_there f (Some x) e = (x, refl)

-- a sub that is there lies inside an allocated piece
returned_inside : (r : Register) (e : PlainEntry) (range : PlainRange) → IsWholeRegister r → IsNextEntry r e → e.request ≡ SubReturn range
    → IsInside r range (λ status. status ≡ Allocated)
returned_inside r e range h next is =
    let test : PlainRange × SubCard → Bool = λ s. same_range s.0 range in
    let s = found_there (λ p. p.1) (find test r.subs) (returned_sub_is_there r e range next is) in
    let found = found_of (IsSubIn r) test r.subs s.0 (subs_of_each r r.subs h.subs) s.1 in
    subst (λ t. IsInside r t (λ status. status ≡ Allocated)) (same_range-true s.0.0 range found.0) found.1.inside

card_is_allocated : (r : Register) (range : PlainRange) → IsInside r range (λ status. status ≡ Allocated)
    → IsSomeAnd (card_of r.pool (first_number range)) (λ c. c.status ≡ Allocated)
card_is_allocated r range h =
    let p = some_and (piece_round r range) (λ p. HasRange range p × (p.card.status ≡ Allocated)) h in
    subst (λ (o : Option Piece). IsSomeAnd (option_map (λ p. p.card) o) (λ c. c.status ≡ Allocated)) (sym p.1) p.2.1

inside_pool : (r : Register) (range : PlainRange) → IsPartition r.pool → IsInside r range (λ status. status ≡ Allocated) → IsPoolRange range
inside_pool r range h inside six =
    let p = some_and (piece_round r range) (λ p. HasRange range p × (p.card.status ≡ Allocated)) inside in
    let is = piece_is_of range.space (pieces_in r.pool range.space) range.first p.0 (h.each range.space).each p.1 in
    let first : p.0.range.first ≤ range.first = is.1 in
    let last : range.last ≤ p.0.range.last = inside_last range p.0.range p.2.0 in
    let b = is.0.pooled (is.0.of_space ∙ six) in
    (omega arith, omega arith)

pub sub_is_allocated : (r : Register) (e : PlainEntry) (range : PlainRange) (handle : List ℕ) → IsNextEntry r e → e.request ≡ SubAssign range handle
    → IsSomeAnd (card_of r.pool (first_number range)) (λ c. c.status ≡ Allocated)
sub_is_allocated r e range handle next is = card_is_allocated r range (assignable r e range handle next is).inside

pub returned_sub_is_allocated : (r : Register) (e : PlainEntry) (range : PlainRange) → IsWholeRegister r → IsNextEntry r e → e.request ≡ SubReturn range
    → IsSomeAnd (card_of r.pool (first_number range)) (λ c. c.status ≡ Allocated)
returned_sub_is_allocated r e range h next is = card_is_allocated r range (returned_inside r e range h next is)

pub sub_is_pooled : (r : Register) (e : PlainEntry) (range : PlainRange) (handle : List ℕ) → IsWholeRegister r → IsNextEntry r e
    → e.request ≡ SubAssign range handle → IsPoolRange range
sub_is_pooled r e range handle h next is = inside_pool r range h.pieces (assignable r e range handle next is).inside

pub returned_sub_is_pooled : (r : Register) (e : PlainEntry) (range : PlainRange) → IsWholeRegister r → IsNextEntry r e → e.request ≡ SubReturn range
    → IsPoolRange range
returned_sub_is_pooled r e range h next is = inside_pool r range h.pieces (returned_inside r e range h next is)
