-- Numbers that are received, reserved, unreserved or released are no holder's, before and after.
use Rattle.std.proofs.Common.{◌≡◌, ℕ, ◌+◌, true, false, List, Option, None, Some, MatchOption, refl, sym, ◌∙◌, subst, arith}
use Rattle.std.specs.Option.{option_map}
use Rattle.std.proofs.lemmas.Bool.{both_ways}
use Rattle.num_range.specs.declared.space.Space.{Space}
use Rattle.num_range.specs.Range.{PlainRange}
use Rattle.reg_entry.specs.declared.card.Card.{Card}
use Rattle.reg_entry.specs.declared.card.Status.{Status}
use Rattle.reg_entry.specs.declared.card.Status.TheVariants.{Available, Reserved, Quarantine, Allocated, Assigned}
use Rattle.reg_entry.specs.declared.piece.Piece.{Piece}
use Rattle.reg_entry.specs.declared.request.Request.{Request}
use Rattle.reg_entry.specs.declared.request.Request.TheVariants.{Receive, Reserve, Unreserve, Release}
use Rattle.reg_entry.specs.declared.sub_card.SubCard.{SubCard}
use Rattle.reg_entry.specs.Card.{plain_card, same_status, is_available, is_delegated}
use Rattle.reg_entry.specs.Covers.{first_number, cover_for, card_for, kept_card}
use Rattle.reg_entry.specs.Decision.{first_of, already_pooled, outside_unicast, outside_pool, not_in_one_piece, not_one_piece, wrong_status, is_status, early_rules}
use Rattle.reg_entry.specs.Entry.{PlainEntry}
use Rattle.reg_entry.specs.Holdings.{held_by_card, held_by, allocated_by_card, allocated_by}
use Rattle.reg_entry.specs.Next.{start_of, until_of, IsNextEntry}
use Rattle.reg_entry.specs.Partition.{IsPartition, pieces_in}
use Rattle.reg_entry.specs.Pieces.{piece_at, overlap, IsLeastTaken}
use Rattle.reg_entry.specs.Register.{Register, register_pieces, card_of, after_entry}
use Rattle.reg_entry.specs.Request.{is_request}
use Rattle.reg_entry.specs.Sums.{held, allocated, used}
use Rattle.reg_entry.specs.Whole.{IsWholeRegister}
use Rattle.reg_entry.proofs.Overlaps.{overlap_is_least}
use Rattle.reg_laws.specs.Nobodys.{is_of_nobodys}
use Rattle.reg_laws.specs.Use.{used_by, used_by_card}
use Rattle.reg_laws.proofs.Accepting.{or_none, map_none, range_valid}
use Rattle.reg_laws.proofs.Conserving.{rules_behind, in_one, all_one}
use Rattle.reg_laws.proofs.HoldingFacts.{next_held, next_allocated}
use Rattle.reg_laws.proofs.NextFacts.{next_facts, right_status}
use Rattle.reg_laws.proofs.RequestKeeps.{free_is_kept_back, of_status}
use Rattle.reg_laws.proofs.UseFacts.{nothing_given, use_painted}

-- nobody holds numbers by the card, or there is none
abbrev IsNobodys : Option Card → Type 0
IsNobodys card = MatchOption card (Unit {0}) (λ c. is_delegated c.status ≡ false)

-- what the request paints
record PaintsNobodys (r : Register) (request : Request) (day until : ℕ) (start : Option ℕ) : Type 0 where
  range : PlainRange
  card : Card
  cover_is : cover_for r request start ≡ Some range
  card_is : card_for r request day until ≡ Some card
  before : IsNobodys (card_of r.pool (first_number range))
  now : is_delegated card.status ≡ false

paints_nobodys : (r : Register) (request : Request) (day until : ℕ) (start : Option ℕ) → IsPartition r.pool → is_request request ≡ true
    → first_of (early_rules r request) ≡ None → is_of_nobodys request ≡ true → PaintsNobodys r request day until start
paints_nobodys r (Receive range) day until start h valid early is =
    let a = or_none (outside_unicast range) _ early in
    let b = or_none (already_pooled r range) None a.1 in
    let none = map_none _ (overlap (register_pieces r range.space) range) b.0 in
    let free : IsLeastTaken (pieces_in r.pool range.space) range None =
    subst (λ o. IsLeastTaken (pieces_in r.pool range.space) range o) none
    (overlap_is_least range.space (pieces_in r.pool range.space) range (h.each range.space) (range_valid range valid)) in
    let at : piece_at (pieces_in r.pool range.space) range.first ≡ None = free range.first (omega arith) (range_valid range valid).0 in
    record {
      range = range;
      card = plain_card;
      cover_is = refl;
      card_is = refl;
      before = subst (λ (o : Option Piece). IsNobodys (option_map (λ p. p.card) o)) (sym at) tt;
      now = refl;
    }
paints_nobodys r (Reserve range) day until start h valid early is =
    let inside = in_one r range (rules_behind (early_rules r (Reserve range))) valid early in
    let a = or_none (outside_pool r range) _ early in
    let b = or_none (not_in_one_piece r range) _ a.1 in
    let c = or_none (wrong_status r (first_number range) is_available) None b.1 in
    record {
      range = range;
      card = kept_card Reserved day 0;
      cover_is = refl;
      card_is = refl;
      before = subst (λ (o : Option Piece). IsNobodys (option_map (λ p. p.card) o)) (sym inside.holds_first)
          (free_is_kept_back inside.piece.card.status (right_status r (first_number range) is_available inside.piece c.0 inside.holds_first));
      now = refl;
    }
paints_nobodys r (Unreserve range) day until start h valid early is =
    let one = all_one r range (rules_behind (early_rules r (Unreserve range))) valid early in
    let a = or_none (outside_pool r range) _ early in
    let b = or_none (not_one_piece r range) _ a.1 in
    let c = or_none (wrong_status r (first_number range) (is_status Reserved)) None b.1 in
    record {
      range = range;
      card = plain_card;
      cover_is = refl;
      card_is = refl;
      before = subst (λ (o : Option Piece). IsNobodys (option_map (λ p. p.card) o)) (sym one.holds_first)
          (of_status r range Reserved one.piece c.0 one.holds_first refl);
      now = refl;
    }
paints_nobodys r (Release range) day until start h valid early is =
    let one = all_one r range (rules_behind (early_rules r (Release range))) valid early in
    let a = or_none (outside_pool r range) _ early in
    let b = or_none (not_one_piece r range) _ a.1 in
    let c = or_none (wrong_status r (first_number range) (is_status Quarantine)) None b.1 in
    record {
      range = range;
      card = plain_card;
      cover_is = refl;
      card_is = refl;
      before = subst (λ (o : Option Piece). IsNobodys (option_map (λ p. p.card) o)) (sym one.holds_first)
          (of_status r range Quarantine one.piece c.0 one.holds_first refl);
      now = refl;
    }
paints_nobodys r request day until start h valid early is = absurd (both_ways false refl is)

-- ---- what the card gives

not_allocated : (s : Status) → is_delegated s ≡ false → same_status s Allocated ≡ false
not_allocated Available e = refl
not_allocated Reserved e = refl
not_allocated Quarantine e = refl
not_allocated Allocated e = absurd (both_ways true e refl)
not_allocated Assigned e = refl

none_held : (holder : ℕ) (space : Space) (range : PlainRange) (c : Card) → is_delegated c.status ≡ false → held_by_card holder space range c ≡ 0
none_held holder space range c e = rw e (sym (nothing_given _ _))

none_allocated : (holder : ℕ) (space : Space) (range : PlainRange) (c : Card) → is_delegated c.status ≡ false → allocated_by_card holder space range c ≡ 0
none_allocated holder space range c e = rw (not_allocated c.status e) (sym (nothing_given _ _))

none_held_by : (holder : ℕ) (space : Space) (range : PlainRange) (card : Option Card) → IsNobodys card → held_by holder space range card ≡ 0
none_held_by holder space range None h = refl
none_held_by holder space range (Some c) h = none_held holder space range c h

none_allocated_by : (holder : ℕ) (space : Space) (range : PlainRange) (card : Option Card) → IsNobodys card → allocated_by holder space range card ≡ 0
none_allocated_by holder space range None h = refl
none_allocated_by holder space range (Some c) h = none_allocated holder space range c h

none_used : (subs : List (PlainRange × SubCard)) (holder : ℕ) (space : Space) (range : PlainRange) (c : Card) → is_delegated c.status ≡ false
    → used_by_card subs holder space range c ≡ 0
none_used subs holder space range c e = rw (not_allocated c.status e) (sym (nothing_given _ _))

none_used_by : (subs : List (PlainRange × SubCard)) (holder : ℕ) (space : Space) (range : PlainRange) (card : Option Card) → IsNobodys card
    → used_by subs holder space range card ≡ 0
none_used_by subs holder space range None h = refl
none_used_by subs holder space range (Some c) h = none_used subs holder space range c h

-- ---- the next entry

unmoved : (a b c d : ℕ) → a + c ≡ b + d → c ≡ 0 → d ≡ 0 → a ≡ b
unmoved a b c d e f g = omega arith

painted_by : (r : Register) (e : PlainEntry) → IsWholeRegister r → IsNextEntry r e → is_of_nobodys e.request ≡ true
    → PaintsNobodys r e.request e.day (until_of e.card) (start_of e.cover)
painted_by r e h next is =
    let facts = next_facts r e next in
    paints_nobodys r e.request e.day (until_of e.card) (start_of e.cover) h.pieces facts.valid facts.early is

pub nobody_gains : (r : Register) (e : PlainEntry) (holder : ℕ) (space : Space) → IsWholeRegister r → IsNextEntry r e → is_of_nobodys e.request ≡ true
    → held (after_entry r e) holder space ≡ held r holder space
nobody_gains r e holder space h next is =
    let by = painted_by r e h next is in
    let facts = next_facts r e next in
    unmoved _ _ (held_by holder space by.range (card_of r.pool (first_number by.range))) (held_by_card holder space by.range by.card)
    (next_held r e by.range by.card holder space h next (facts.cover ∙ by.cover_is) (facts.card ∙ by.card_is))
    (none_held_by holder space by.range (card_of r.pool (first_number by.range)) by.before) (none_held holder space by.range by.card by.now)

pub nobody_is_allocated : (r : Register) (e : PlainEntry) (holder : ℕ) (space : Space) → IsWholeRegister r → IsNextEntry r e → is_of_nobodys e.request ≡ true
    → allocated (after_entry r e) holder space ≡ allocated r holder space
nobody_is_allocated r e holder space h next is =
    let by = painted_by r e h next is in
    let facts = next_facts r e next in
    unmoved _ _ (allocated_by holder space by.range (card_of r.pool (first_number by.range))) (allocated_by_card holder space by.range by.card)
    (next_allocated r e by.range by.card holder space h next (facts.cover ∙ by.cover_is) (facts.card ∙ by.card_is))
    (none_allocated_by holder space by.range (card_of r.pool (first_number by.range)) by.before) (none_allocated holder space by.range by.card by.now)

pub nobody_uses : (r : Register) (e : PlainEntry) (holder : ℕ) (space : Space) → IsWholeRegister r → IsNextEntry r e → is_of_nobodys e.request ≡ true
    → used (after_entry r e) holder space ≡ used r holder space
nobody_uses r e holder space h next is =
    let by = painted_by r e h next is in
    let facts = next_facts r e next in
    unmoved _ _ (used_by r.subs holder space by.range (card_of r.pool (first_number by.range))) (used_by_card r.subs holder space by.range by.card)
    (use_painted r e by.range by.card holder space h next (facts.cover ∙ by.cover_is) (facts.card ∙ by.card_is))
    (none_used_by r.subs holder space by.range (card_of r.pool (first_number by.range)) by.before) (none_used r.subs holder space by.range by.card by.now)
