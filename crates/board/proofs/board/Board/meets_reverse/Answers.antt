use Rattle.std.proofs.Common.{◌≡◌, ℕ, ◌≤◌, true, false, List, Option, Some, sym, ◌∙◌, ap, subst}
use Rattle.std.specs.Option.{option_map}
use Rattle.num_range.specs.Range.{PlainRange}
use Rattle.num_range.specs.Space.{top_of}
use Rattle.reg_entry.specs.Decision.{overlap_at, first_common}
use Rattle.reg_entry.specs.Ranges.{first_meeting, same_range}
use Rattle.board.proofs.Meeting.{met_within, common_within, common_number}
use Rattle.board.proofs.board.Board.meets_reverse.Goals as goal

-- the range's own entry, and so no other
pub returns-then-is_same : goal.returns-then-is_same
returns-then-is_same c =
    let r = c.args.self.now.register in
    let range = c.args.range.now in
    let first : first_meeting r.reverses range ≡ Some (c.in_ok-other.other, c.in_ok-other.field-0-1) =
    ap (λ (rs : List (PlainRange × List (List ℕ))). first_meeting rs range) (sym c.reverse.ensures.reverses) ∙ sym c.first_met.ensures ∙ c.in_ok-other.was in
    let same : same_range c.in_ok-other.other range ≡ true = sym c.is_same.ensures ∙ c.if-is_same.true in
    sym
    (ap (λ (o : Option (PlainRange × List (List ℕ))). overlap_at range.space (option_map (λ s. first_common range s.0) o))
    (c.other_reverse_is_looked_up.ensures.own r range (c.in_ok-other.other, c.in_ok-other.field-0-1) c.is_whole.ensures.whole first same))

pub of-number-requires : goal.of-number-requires
of-number-requires c =
    subst (λ s. c.max.result ≤ top_of s) (sym c.space.ensures)
    (common_within c.first.result c.first-2.result c.args.range.now.last (top_of c.args.range.now.space) c.max.result c.max.ensures
    (subst (λ (n : ℕ). n ≤ c.args.range.now.last) (sym c.first.ensures.first) c.first.ensures.valid.0)
    (subst (λ (n : ℕ). n ≤ c.args.range.now.last) (sym c.first-2.ensures.first)
    (met_within c.reverse.result.now.ranges c.args.range.now (c.in_ok-other.other, c.in_ok-other.field-0-1) (sym c.first_met.ensures ∙ c.in_ok-other.was)))
    c.first.ensures.valid.1)

pub returns : goal.returns
returns c =
    let r = c.args.self.now.register in
    let range = c.args.range.now in
    let other : PlainRange = c.in_ok-other.other in
    let first : first_meeting r.reverses range ≡ Some (other, c.in_ok-other.field-0-1) =
    ap (λ (rs : List (PlainRange × List (List ℕ))). first_meeting rs range) (sym c.reverse.ensures.reverses) ∙ sym c.first_met.ensures ∙ c.in_ok-other.was in
    let differs : same_range other range ≡ false = sym c.is_same.ensures ∙ c.if-is_same.false in
    common_number range.space c.space.result range.first other.first c.first.result c.first-2.result c.max.result c.of-number.result c.of-number.ensures
    c.space.ensures c.max.ensures c.first.ensures.first c.first-2.ensures.first
    ∙ sym
    (ap (λ (o : Option (PlainRange × List (List ℕ))). overlap_at range.space (option_map (λ s. first_common range s.0) o))
    (c.other_reverse_is_looked_up.ensures.other r range (other, c.in_ok-other.field-0-1) first differs))
