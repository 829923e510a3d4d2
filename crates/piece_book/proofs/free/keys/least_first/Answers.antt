use Rattle.std.proofs.Common.{◌≡◌, ℕ, ◌+◌, ◌≤◌, ◌∙◌, true, min, List, Option, Some, unwrap_or, sym, ap, subst, arith}
use Rattle.std.specs.declared.cmp.Ordering.{Ordering}
use Rattle.std.specs.List.{AllByRecursion, slice_get}
use Rattle.std.proofs.lemmas.Bool.{eqb-true, eq-eqb, false≢true}
use Rattle.num_range.specs.declared.space.Space.{Space}
use Rattle.num_range.specs.Space.{space_rank, same_space}
use Rattle.page_dir.specs.Sorted.{Rises, rank}
use Rattle.piece_book.specs.declared.free.key.FreeKey.{FreeKey}
use Rattle.piece_book.specs.Free.{key_cmp, IsLeastFirst}
use Rattle.piece_book.proofs.FreePairs.{all_at}
use Rattle.piece_book.proofs.FreeChange.{same_rank}
use Rattle.piece_book.proofs.FreeLeast.{least_of_class, seen, none_seen, class_no_less, least_more, least_where_none, least_where_other}
use Rattle.piece_book.proofs.FreeOrder.{derived_order}
use Rattle.piece_book.proofs.free.keys.least_first.Goals as goal

-- what stands at the rank of a key, by the order that the contracts name
stands_there : (space : Space) (class : ℕ) (ps : List (FreeKey × Unit {0})) (found : Option (FreeKey × Unit {0})) (R : FreeKey → FreeKey → Ordering) → R ≡ key_cmp
    → found ≡ slice_get ps (rank R (least_of_class space class) ps) → slice_get ps (rank key_cmp (least_of_class space class) ps) ≡ found
stands_there space class ps found R e h = sym (subst (λ (S : FreeKey → FreeKey → Ordering). found ≡ slice_get ps (rank S (least_of_class space class) ps)) e h)

-- one look-up more, as the loop has it
record IsMore (space : Space) (from class : ℕ) (ps : List (FreeKey × Unit {0})) (key : FreeKey) (least : Option ℕ) : Type 0 where
  no_less : class ≤ key.class
  bound : key.class ≤ 1024
  seen : IsLeastFirst (seen space from (key.class + 1)) ps (Some (min key.first (unwrap_or least key.first)))

more : (space : Space) (from class : ℕ) (ps : List (FreeKey × Unit {0})) (key : FreeKey) (least : Option ℕ) → from ≤ class → Rises key_cmp ps
    → AllByRecursion (λ p. p.0.class ≤ 1024) ps → slice_get ps (rank key_cmp (least_of_class space class) ps) ≡ Some (key, tt) → same_space key.space space ≡ true
    → IsLeastFirst (seen space from class) ps least → IsMore space from class ps key least
more space from class ps key least le rises classes found here h =
    let is : key.space ≡ space = same_rank key.space space (eqb-true (space_rank key.space) (space_rank space) here) in
    record {
      no_less = class_no_less space from class ps (key, tt) le rises found is;
      bound = all_at (λ (p : FreeKey × Unit {0}). p.0.class ≤ 1024) ps (rank key_cmp (least_of_class space class) ps) (key, tt) classes found;
      seen = least_more space from class ps (key, tt) le rises found is least h;
    }

pub loop-key-init : goal.loop-key-init
loop-key-init c = record {
  from = omega arith;
  most = omega arith;
  seen = none_seen c.args.space c.args.class c.args.keys.now.pairs;
}

pub returns-then-not-is_of : goal.returns-then-not-is_of
returns-then-not-is_of c =
    least_where_other c.args.space c.args.class c.loop-key.class c.args.keys.now.pairs (c.in-Some.key, tt) c.loop-key.least c.requires.rises
    (stands_there c.args.space c.loop-key.class c.args.keys.now.pairs c.from.result _ derived_order c.from.ensures ∙ c.in-Some.is)
    (λ e. false≢true (sym c.if-not-is_of.true ∙ (c.is_of.ensures ∙ eq-eqb (space_rank c.in-Some.key.space) (space_rank c.args.space) (ap space_rank e))))
    c.loop-key.invariant.seen

step : (c : goal.After-lesser) → IsMore c.args.space c.args.class c.loop-key.class c.args.keys.now.pairs c.in-Some.key c.loop-key.least
step c =
    more c.args.space c.args.class c.loop-key.class c.args.keys.now.pairs c.in-Some.key c.loop-key.least c.loop-key.invariant.from c.requires.rises c.requires.classes
    (stands_there c.args.space c.loop-key.class c.args.keys.now.pairs c.from.result _ derived_order c.from.ensures ∙ c.in-Some.is)
    (sym c.is_of.ensures ∙ c.if-not-is_of.false) c.loop-key.invariant.seen

pub overflow_add-class : goal.overflow_add-class
overflow_add-class c = let bound = (step c).bound in omega arith

pub loop-key-smaller : goal.loop-key-smaller
loop-key-smaller c = let one = step c in omega arith

pub loop-key-preserved : goal.loop-key-preserved
loop-key-preserved c =
    let one = step c in
    let from = c.loop-key.invariant.from in
    let no_less = one.no_less in
    record {
      from = omega arith;
      most = let bound = one.bound in omega arith;
      seen = subst (λ least. IsLeastFirst (seen c.args.space c.args.class (c.in-Some.key.class + 1)) c.args.keys.now.pairs (Some least)) (sym c.lesser.ensures) one.seen;
    }

pub returns : goal.returns
returns c =
    least_where_none c.args.space c.args.class c.loop-key.class c.args.keys.now.pairs c.loop-key.least
    (stands_there c.args.space c.loop-key.class c.args.keys.now.pairs c.from.result _ derived_order c.from.ensures ∙ c.in_default.is)
    c.loop-key.invariant.seen
