use Rattle.std.proofs.Common.{ℕ, List, sym, ◌∙◌, ap, subst, drop}
use Rattle.piece_book.specs.declared.part.Part.{Part}
use Rattle.piece_book.specs.Exchange.{begun_below}
use Rattle.piece_book.specs.Pairs.{AreOfRanges, pieces_of_pairs}
use Rattle.piece_book.specs.SpaceBook.{PlainSpace}
use Rattle.piece_book.proofs.Pairing.{ranges_drop, ranges_of, rest_is}
use Rattle.piece_book.proofs.space_book.SpaceBook.walk_from.Goals as goal

pub over-requires : goal.over-requires
over-requires c =
    let pairs = c.self.inside.parts.pairs in
    subst (λ (xs : List (ℕ × Part)). AreOfRanges c.self.inside.space xs) (sym c.walk_from.ensures)
    (ranges_drop c.self.inside.space _ pairs (ranges_of c.self.inside.space pairs c.self.invariant))

pub returns-clause-pieces : goal.returns-clause-pieces
returns-clause-pieces c =
    c.over.ensures
    ∙ ap (λ (xs : List (ℕ × Part)). pieces_of_pairs c.self.inside.space xs) c.walk_from.ensures
    ∙ rest_is c.self.inside.space c.args.value c.self.inside.parts.pairs
    ∙ ap (λ (b : PlainSpace). drop (begun_below c.args.value b.pieces) b.pieces) c.self.view_is
