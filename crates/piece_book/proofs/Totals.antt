-- The numbers of a space's pieces are few enough to be counted.
use Rattle.std.proofs.Common.{ℕ, ◌+◌, ◌^◌, ◌<◌, ◌≤◌, List, [], ◌∷◌, inl, inr, arith}
use Rattle.std.proofs.lemmas.Bool.{cases_Bool}
use Rattle.num_range.specs.declared.space.Space.{Space}
use Rattle.num_range.specs.declared.space.Space.TheVariants.{Asn, Ipv4, Ipv6}
use Rattle.reg_entry.specs.declared.card.Status.{Status}
use Rattle.reg_entry.specs.declared.piece.Piece.{Piece}
use Rattle.reg_entry.specs.Pieces.{RisesFrom, AllPiecesOf, IsPieceOf, ArePieces}
use Rattle.reg_entry.specs.Sums.{has_status, status_sum}

ends_low : (space : Space) (p : Piece) → IsPieceOf space p → p.range.last < 2 ^ 126
ends_low Asn p h = omega (arith, h.within)
ends_low Ipv4 p h = omega (arith, h.within)
ends_low Ipv6 p h = (h.pooled h.of_space).1

sum_below : (space : Space) (low : ℕ) (ps : List Piece) (s : Status) → RisesFrom low ps → AllPiecesOf space ps → low ≤ 2 ^ 126 → status_sum ps s + low ≤ 2 ^ 126
sum_below space low [] s h a l = omega arith
sum_below space low (p ∷ ps) s h a l =
    let ends = ends_low space p a.0 in
    let rest = sum_below space (p.range.last + 1) ps s h.2 a.1 (omega arith) in
    elim (cases_Bool (has_status s p)) [
      | inl t ↦ rw t (omega (arith, h.0, h.1))
      | inr t ↦ rw t (omega (arith, h.0, h.1))
    ]

pub sum_fits : (space : Space) (ps : List Piece) (s : Status) → ArePieces space ps → status_sum ps s < 2 ^ 128
sum_fits space ps s h = let low = sum_below space 0 ps s h.rises h.each (omega arith) in omega arith
