use Rattle.std.proofs.Common.{◌≡◌, ◌+◌, ℕ, List, drop, filter}
use Rattle.num_range.specs.Range.{PlainRange}
use Rattle.reg_entry.specs.declared.piece.Piece.{Piece}
use Rattle.reg_entry.specs.declared.sub_card.SubCard.{SubCard}
use Rattle.reg_entry.specs.Sums.{is_allocated_to, lies_in_one, ranges_size}
use Rattle.plain_register.proofs.sums.used_size.Given as goal

abbrev in_allocated : List Piece → ℕ → List (PlainRange × SubCard) → List (PlainRange × SubCard)
in_allocated ps holder subs = filter (λ s. lies_in_one (filter (is_allocated_to holder) ps) s.0) subs

abbrev pub invariant-loop-s : goal.invariant-loop-s
invariant-loop-s l =
    ◌≡◌ {A = ℕ} (l.sum + ranges_size (in_allocated l.pieces l.holder (drop l.s-index l.subs))) (ranges_size (in_allocated l.pieces l.holder l.subs))
