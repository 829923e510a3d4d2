-- Painting a card over a range of a space leaves pieces of the space.
use Rattle.std.proofs.Common.{◌≡◌, ℕ, ◌+◌, ◌-◌, ◌<◌, ◌≤◌, min, max, nat_lt, List, [], ◌∷◌, ◌++◌, arith}
use Rattle.std.specs.List.{flat_map}
use Rattle.std.proofs.lemmas.Bool.{cond_both, ltb-true}
use Rattle.num_range.specs.declared.space.Space.{Space}
use Rattle.num_range.specs.Space.{top_of}
use Rattle.num_range.specs.Range.{PlainRange, IsRange}
use Rattle.reg_entry.specs.declared.card.Card.{Card}
use Rattle.reg_entry.specs.declared.piece.Piece.{Piece}
use Rattle.reg_entry.specs.Pieces.{part_below, part_above, laid, RisesFrom, IsPoolRange, IsCard, IsPieceOf, AllPiecesOf, ArePieces}
use Rattle.reg_entry.proofs.Joining.{rises_from_lower, joined_rises, joined_pieces, joined_settled}

-- the piece of `part_below`, where there is one
abbrev pub kept_below : PlainRange → Piece → Piece
kept_below r p = record { range = record { space = p.range.space; first = p.range.first; last = min p.range.last (r.first - 1) }; card = p.card }

-- the piece of `part_above`, where there is one
abbrev pub kept_above : PlainRange → Piece → Piece
kept_above r p = record { range = record { space = p.range.space; first = max p.range.first (r.last + 1); last = p.range.last }; card = p.card }

-- what is kept below the range rises, and lies below whatever lies at or above the range
pub below_rises : (low : ℕ) (r : PlainRange) (ps rest : List Piece) → low ≤ r.first → RisesFrom low ps → RisesFrom r.first rest
    → RisesFrom low (flat_map (part_below r) ps ++ rest)
below_rises low r [] rest h rises above = rises_from_lower low r.first rest h above
below_rises low r (p ∷ ps) rest h rises above =
    cond_both (nat_lt p.range.first r.first) (kept_below r p ∷ []) [] (λ xs. RisesFrom low ((xs ++ flat_map (part_below r) ps) ++ rest))
    (λ e.
    let lt : p.range.first < r.first = ltb-true p.range.first r.first e in
    let next : ℕ = min p.range.last (r.first - 1) + 1 in
    (rises.0, omega arith, below_rises next r ps rest (omega arith) (rises_from_lower next (p.range.last + 1) ps (omega arith) rises.2) above))
    (λ e. below_rises low r ps rest h (rises_from_lower low (p.range.last + 1) ps (omega arith) rises.2) above)

-- what is kept above the range rises from the number after it
pub above_rises : (low : ℕ) (r : PlainRange) (ps : List Piece) → RisesFrom low ps → RisesFrom (max low (r.last + 1)) (flat_map (part_above r) ps)
above_rises low r [] rises = tt
above_rises low r (p ∷ ps) rises =
    let next : ℕ = max (p.range.last + 1) (r.last + 1) in
    let above : RisesFrom next (flat_map (part_above r) ps) = above_rises (p.range.last + 1) r ps rises.2 in
    cond_both (nat_lt r.last p.range.last) (kept_above r p ∷ []) [] (λ xs. RisesFrom (max low (r.last + 1)) (xs ++ flat_map (part_above r) ps))
    (λ e.
    let lt : r.last < p.range.last = ltb-true r.last p.range.last e in
    (omega arith, omega arith, rises_from_lower (p.range.last + 1) next (flat_map (part_above r) ps) (omega arith) above))
    (λ e. rises_from_lower (max low (r.last + 1)) next (flat_map (part_above r) ps) (omega arith) above)

-- the pieces after the painting and before the joining
abbrev pub painted_parts : List Piece → PlainRange → Card → List Piece
painted_parts ps r c = flat_map (part_below r) ps ++ record { range = r; card = c } ∷ flat_map (part_above r) ps

pub painted_parts_rise : (ps : List Piece) (r : PlainRange) (c : Card) → RisesFrom 0 ps → r.first ≤ r.last → RisesFrom 0 (painted_parts ps r c)
painted_parts_rise ps r c rises h =
    below_rises 0 r ps (record { range = r; card = c } ∷ flat_map (part_above r) ps) (omega arith) rises
    (omega arith, h, rises_from_lower (r.last + 1) (max 0 (r.last + 1)) (flat_map (part_above r) ps) (omega arith) (above_rises 0 r ps rises))

pub all_pieces-append : (space : Space) (ps qs : List Piece) → AllPiecesOf space ps → AllPiecesOf space qs → AllPiecesOf space (ps ++ qs)
all_pieces-append space [] qs h k = k
all_pieces-append space (p ∷ ps) qs h k = (h.0, all_pieces-append space ps qs h.1 k)

pub kept_below_is_piece : (space : Space) (r : PlainRange) (p : Piece) → IsPieceOf space p → IsPieceOf space (kept_below r p)
kept_below_is_piece space r p h = record {
  of_space = h.of_space;
  within = let w : p.range.last ≤ top_of space = h.within in omega arith;
  pooled = λ e. let inside = h.pooled e in (inside.0, omega arith);
  plain = h.plain;
}

pub kept_above_is_piece : (space : Space) (r : PlainRange) (p : Piece) → IsPieceOf space p → IsPieceOf space (kept_above r p)
kept_above_is_piece space r p h = record {
  of_space = h.of_space;
  within = h.within;
  pooled = λ e. let inside = h.pooled e in (omega arith, inside.1);
  plain = h.plain;
}

pub below_pieces : (space : Space) (r : PlainRange) (ps : List Piece) → AllPiecesOf space ps → AllPiecesOf space (flat_map (part_below r) ps)
below_pieces space r [] h = tt
below_pieces space r (p ∷ ps) h =
    cond_both (nat_lt p.range.first r.first) (kept_below r p ∷ []) [] (λ xs. AllPiecesOf space (xs ++ flat_map (part_below r) ps))
    (λ e. (kept_below_is_piece space r p h.0, below_pieces space r ps h.1))
    (λ e. below_pieces space r ps h.1)

pub above_pieces : (space : Space) (r : PlainRange) (ps : List Piece) → AllPiecesOf space ps → AllPiecesOf space (flat_map (part_above r) ps)
above_pieces space r [] h = tt
above_pieces space r (p ∷ ps) h =
    cond_both (nat_lt r.last p.range.last) (kept_above r p ∷ []) [] (λ xs. AllPiecesOf space (xs ++ flat_map (part_above r) ps))
    (λ e. (kept_above_is_piece space r p h.0, above_pieces space r ps h.1))
    (λ e. above_pieces space r ps h.1)

pub painted_parts_are_pieces : (space : Space) (ps : List Piece) (r : PlainRange) (c : Card) → AllPiecesOf space ps
    → IsPieceOf space (record { range = r; card = c }) → AllPiecesOf space (painted_parts ps r c)
painted_parts_are_pieces space ps r c h new =
    all_pieces-append space (flat_map (part_below r) ps) (record { range = r; card = c } ∷ flat_map (part_above r) ps)
    (below_pieces space r ps h) (new, above_pieces space r ps h)

pub laid_keeps : (space : Space) (ps : List Piece) (r : PlainRange) (c : Card) → ArePieces space ps → r.space ≡ space → IsRange r
    → IsPoolRange r → IsCard c → ArePieces space (laid ps r c)
laid_keeps space ps r c h of_space range pooled card =
    let new : IsPieceOf space (record { range = r; card = c }) =
    record { of_space = of_space; within = rw (← of_space) range.1; pooled = pooled; plain = card } in
    record {
      rises = joined_rises 0 (painted_parts ps r c) (painted_parts_rise ps r c h.rises range.0);
      settled = joined_settled (painted_parts ps r c);
      each = joined_pieces space (painted_parts ps r c) (painted_parts_are_pieces space ps r c h.each new);
    }
