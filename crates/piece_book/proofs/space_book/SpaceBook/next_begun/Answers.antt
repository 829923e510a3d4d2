use Rattle.std.proofs.Common.{sym, ◌∙◌, ap}
use Rattle.piece_book.specs.SpaceBook.{PlainSpace}
use Rattle.piece_book.proofs.Pairing.{next_none, next_some, range_at, ranges_of}
use Rattle.piece_book.proofs.space_book.SpaceBook.next_begun.Goals as goal

pub returns-in_err-pair : goal.returns-in_err-pair
returns-in_err-pair c =
    c.from_residual.ensures
    ∙ next_none c.self.inside.space c.args.value c.self.inside.parts.pairs _ (ap (λ (b : PlainSpace). b.pieces) c.self.view_is) (sym c.from.ensures ∙ c.in_err-pair.was)

pub piece_of_pair-requires-clause-ordered : goal.piece_of_pair-requires-clause-ordered
piece_of_pair-requires-clause-ordered c =
    (range_at c.self.inside.space _ c.self.inside.parts.pairs c.in_ok-pair.pair
    (ranges_of c.self.inside.space c.self.inside.parts.pairs c.self.invariant) (sym c.from.ensures ∙ c.in_ok-pair.was)).0

pub piece_of_pair-requires-clause-within : goal.piece_of_pair-requires-clause-within
piece_of_pair-requires-clause-within c =
    (range_at c.self.inside.space _ c.self.inside.parts.pairs c.in_ok-pair.pair
    (ranges_of c.self.inside.space c.self.inside.parts.pairs c.self.invariant) (sym c.from.ensures ∙ c.in_ok-pair.was)).1

pub returns : goal.returns
returns c =
    rw c.piece_of_pair.ensures
    (next_some c.self.inside.space c.args.value c.self.inside.parts.pairs _ c.in_ok-pair.pair (ap (λ (b : PlainSpace). b.pieces) c.self.view_is) (sym c.from.ensures ∙ c.in_ok-pair.was))
