-- Which pieces of the pool are touched where those of one space change.
use Rattle.std.proofs.Common.{◌≡◌, List, [], ◌∷◌, ◌++◌, refl, sym, ◌∙◌, ap}
use Rattle.num_range.specs.declared.space.Space.{Space}
use Rattle.num_range.specs.declared.space.Space.TheVariants.{Asn, Ipv4, Ipv6}
use Rattle.reg_entry.specs.declared.piece.Piece.{Piece}
use Rattle.reg_entry.specs.Partition.{Partition, pieces_in, with_pieces}
use Rattle.piece_book.specs.Touched.{IsTouched}
use Rattle.op_feed.specs.TouchedBy.{IsTouchedBy}

with_those : (pool : Partition) (space : Space) (ps : List Piece) → pieces_in (with_pieces pool space ps) space ≡ ps
with_those pool Asn ps = refl
with_those pool Ipv4 ps = refl
with_those pool Ipv6 ps = refl

pub touched_by : (old new : Partition) (space : Space) (ps before after : List Piece) → new ≡ with_pieces old space ps
    → IsTouched (pieces_in old space) (pieces_in new space) before after → IsTouchedBy old new before after
touched_by old new space ps before after e is = record {
  space = space;
  others = e ∙ ap (λ (qs : List Piece). with_pieces old space qs) (sym (ap (λ (p : Partition). pieces_in p space) e ∙ with_those old space ps));
  front = is.front;
  back = is.back;
  was = is.was;
  stands = is.stands;
}

pub untouched_by : (pool : Partition) (before after : List Piece) → before ≡ [] → after ≡ [] → IsTouchedBy pool pool before after
untouched_by pool before after e f = record {
  space = Asn;
  others = refl;
  front = pool.asn;
  back = [];
  was = sym (ap (λ (xs : List Piece). pool.asn ++ (xs ++ [])) e ∙ nothing_behind pool.asn);
  stands = sym (ap (λ (xs : List Piece). pool.asn ++ (xs ++ [])) f ∙ nothing_behind pool.asn);
}
  where
    nothing_behind : (ps : List Piece) → ps ++ [] ≡ ps
    nothing_behind [] = refl
    nothing_behind (p ∷ ps) = ap (λ (xs : List Piece). p ∷ xs) (nothing_behind ps)
