-- The parts of the pieces of a space are of that space.
use Rattle.std.proofs.Common.{◌++◌, List, [], ◌∷◌, nat_lt, refl}
use Rattle.std.specs.List.{flat_map}
use Rattle.std.proofs.lemmas.Bool.{cond_both}
use Rattle.num_range.specs.declared.space.Space.{Space}
use Rattle.num_range.specs.Range.{PlainRange}
use Rattle.reg_entry.specs.declared.card.Card.{Card}
use Rattle.reg_entry.specs.declared.piece.Piece.{Piece}
use Rattle.reg_entry.specs.Pieces.{part_below, part_above, AllPiecesOf}
use Rattle.plain_register.specs.Parts.{AreOf}

are_of-append : (space : Space) (ps qs : List Piece) → AreOf space ps → AreOf space qs → AreOf space (ps ++ qs)
are_of-append space [] qs h t = t
are_of-append space (p ∷ ps) qs h t = (h.0, are_of-append space ps qs h.1 t)

below_of : (space : Space) (r : PlainRange) (ps : List Piece) → AllPiecesOf space ps → AreOf space (flat_map (part_below r) ps)
below_of space r [] h = tt
below_of space r (p ∷ ps) h =
    are_of-append space (part_below r p) (flat_map (part_below r) ps)
    (cond_both (nat_lt p.range.first r.first) _ [] (AreOf space) (λ e. (h.0.of_space, tt)) (λ e. tt))
    (below_of space r ps h.1)

above_of : (space : Space) (r : PlainRange) (ps : List Piece) → AllPiecesOf space ps → AreOf space (flat_map (part_above r) ps)
above_of space r [] h = tt
above_of space r (p ∷ ps) h =
    are_of-append space (part_above r p) (flat_map (part_above r) ps)
    (cond_both (nat_lt r.last p.range.last) _ [] (AreOf space) (λ e. (h.0.of_space, tt)) (λ e. tt))
    (above_of space r ps h.1)

pub parts_of : (ps : List Piece) (r : PlainRange) (c : Card) → AllPiecesOf r.space ps
    → AreOf r.space (flat_map (part_below r) ps ++ record { range = r; card = c } ∷ flat_map (part_above r) ps)
parts_of ps r c h = are_of-append r.space (flat_map (part_below r) ps) _ (below_of r.space r ps h) (refl, above_of r.space r ps h)
