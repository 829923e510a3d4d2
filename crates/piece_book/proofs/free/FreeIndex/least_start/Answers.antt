use Rattle.std.proofs.Common.{◌≡◌, ℕ, ◌+◌, ◌∙◌, List, map, Option, None, Some, sym, ap, subst, arith}
use Rattle.std.specs.Option.{option_map}
use Rattle.num_range.specs.declared.space.Space.{Space}
use Rattle.num_range.specs.Amount.{alignment}
use Rattle.reg_entry.specs.Blocks.{rounded_up, least_block}
use Rattle.reg_entry.specs.Partition.{pieces_in}
use Rattle.piece_book.specs.declared.free.key.FreeKey.{FreeKey}
use Rattle.piece_book.specs.Free.{serves, IsIndexed, IsIndexOf, IsLeastFirst, PlainIndex}
use Rattle.piece_book.proofs.FreeBlock.{classes_are_small, found_within, least_is_found, sizes_are_positive, top_counted}
use Rattle.piece_book.proofs.FreeClass.{IsClass}
use Rattle.piece_book.proofs.free.FreeIndex.least_start.Goals as goal

abbrev Pairs : Type 0
Pairs = List (FreeKey × Unit {0})

abbrev index_of : Pairs → ℕ → PlainIndex
index_of ps room = record { keys = map (λ (p : FreeKey × Unit {0}). p.0) ps; room = room }

found : (index : PlainIndex) (ps : Pairs) (room : ℕ) (space : Space) (size class : ℕ) (least : Option ℕ) → index_of ps room ≡ index → IsClass space size class
    → IsLeastFirst (serves space class) ps least → (i : IsIndexed index.keys)
    → least_block (pieces_in i.pool space) space size ≡ option_map (λ first. rounded_up first (alignment space size)) least
found index ps room space size class least view h first i =
    least_is_found i.pool space size class ps least (subst (λ (n : PlainIndex). IsIndexOf n.keys i.pool) (sym view) i.indexed) i.valid h first

pub least_first-requires-clause-classes : goal.least_first-requires-clause-classes
least_first-requires-clause-classes c =
    classes_are_small c.requires.indexed.pool c.self.inside.keys.pairs
    (subst (λ (n : PlainIndex). IsIndexOf n.keys c.requires.indexed.pool) (sym c.self.view_is) c.requires.indexed.indexed)

pub returns-in_err-first : goal.returns-in_err-first
returns-in_err-first c = λ i.
    c.from_residual.ensures
    ∙ sym (found c.args.self.now c.self.inside.keys.pairs c.self.inside.keys.room c.args.space c.args.size c.class_of_size.result None c.self.view_is
    (record { sized = c.requires.size; is = c.class_of_size.ensures.size }) c.in_err-first.ensures i)

block_is : (c : goal.After-gap) (i : IsIndexed c.args.self.now.keys)
    → least_block (pieces_in i.pool c.args.space) c.args.space c.args.size ≡ Some (c.in_ok-first.first + c.gap.result)
block_is c i =
    found c.args.self.now c.self.inside.keys.pairs c.self.inside.keys.room c.args.space c.args.size c.class_of_size.result (Some c.in_ok-first.first) c.self.view_is
    (record { sized = c.requires.size; is = c.class_of_size.ensures.size }) c.in_ok-first.ensures i
    ∙ ap Some (sym (c.gap.ensures.gap ∙ ap (rounded_up c.in_ok-first.first) c.alignment.ensures))

pub overflow_add-result : goal.overflow_add-result
overflow_add-result c =
    let i : IsIndexed c.args.self.now.keys = c.requires.indexed in
    let within =
    found_within c.args.space c.args.size (pieces_in i.pool c.args.space) (c.in_ok-first.first + c.gap.result) (sizes_are_positive c.args.space c.args.size c.requires.size) (i.valid.each c.args.space)
    (block_is c i) in
    let top = top_counted c.args.space in
    omega arith

pub returns : goal.returns
returns c = λ i. sym (block_is c i)
