use Rattle.std.proofs.Common.{sym, ◌∙◌, ap}
use Rattle.piece_book.specs.SpaceBook.{PlainSpace}
use Rattle.piece_book.proofs.Pairing.{found_none, found_some, range_last, ranges_of}
use Rattle.piece_book.proofs.space_book.SpaceBook.last_begun.Goals as goal

pub returns-in_err-pair-clause-found : goal.returns-in_err-pair-clause-found
returns-in_err-pair-clause-found c =
    c.from_residual.ensures
    ∙ found_none c.self.inside.space c.args.value c.self.inside.parts.pairs _ (ap (λ (b : PlainSpace). b.pieces) c.self.view_is) (sym c.found.ensures ∙ c.in_err-pair.was)

pub piece_of_pair-requires-clause-ordered : goal.piece_of_pair-requires-clause-ordered
piece_of_pair-requires-clause-ordered c =
    (range_last c.self.inside.space c.args.value c.self.inside.parts.pairs c.in_ok-pair.pair
    (ranges_of c.self.inside.space c.self.inside.parts.pairs c.self.invariant) (sym c.found.ensures ∙ c.in_ok-pair.was)).0

pub piece_of_pair-requires-clause-within : goal.piece_of_pair-requires-clause-within
piece_of_pair-requires-clause-within c =
    (range_last c.self.inside.space c.args.value c.self.inside.parts.pairs c.in_ok-pair.pair
    (ranges_of c.self.inside.space c.self.inside.parts.pairs c.self.invariant) (sym c.found.ensures ∙ c.in_ok-pair.was)).1

pub returns-clause-found : goal.returns-clause-found
returns-clause-found c =
    rw c.piece_of_pair.ensures
    (found_some c.self.inside.space c.args.value c.self.inside.parts.pairs _ c.in_ok-pair.pair (ap (λ (b : PlainSpace). b.pieces) c.self.view_is) (sym c.found.ensures ∙ c.in_ok-pair.was))
