use Rattle.std.proofs.Common.{sym, ◌∙◌, ◌≤◌, ℕ, subst}
use Rattle.num_range.specs.Space.{top_of}
use Rattle.board.proofs.Meeting.{met_within, common_within}
use Rattle.board.proofs.board.Board.meets_sub.Goals as goal

pub of-number-requires : goal.of-number-requires
of-number-requires c =
    subst (λ s. c.max.result ≤ top_of s) (sym c.space.ensures)
    (common_within c.first.result c.first-2.result c.args.range.now.last (top_of c.args.range.now.space) c.max.result c.max.ensures
    (subst (λ (n : ℕ). n ≤ c.args.range.now.last) (sym c.first.ensures.first) c.first.ensures.valid.0)
    (subst (λ (n : ℕ). n ≤ c.args.range.now.last) (sym c.first-2.ensures.first)
    (met_within c.subs.result.now.ranges c.args.range.now (c.in_ok-sub.sub, c.in_ok-sub.field-0-1) (sym c.first_met.ensures ∙ c.in_ok-sub.was)))
    c.first.ensures.valid.1)
