-- The changes of the objects of pieces are those of the pieces, each with its holder's handle.
use Rattle.std.proofs.Common.{◌≡◌, ℕ, Bool, true, false, not, ◌&&◌, nat_eq, inl, inr, List, [], ◌∷◌, ◌++◌, Option, None, Some, filter, map, refl, sym, ◌∙◌, ap}
use Rattle.std.specs.Option.{is_none, option_eq, option_map, option_map_or}
use Rattle.std.proofs.lemmas.Bool.{cond-true, cond-false, cases_Bool}
use Rattle.num_range.specs.Range.{PlainRange}
use Rattle.reg_entry.specs.declared.holder.Holder.{Holder}
use Rattle.reg_entry.specs.declared.object.Key.TheVariants.{Block as BlockKey}
use Rattle.reg_entry.specs.declared.piece.Piece.{Piece}
use Rattle.reg_entry.specs.Holders.{HaveDistinctHandles}
use Rattle.reg_entry.specs.Ranges.{same_range}
use Rattle.reg_entry.specs.Card.{same_status}
use Rattle.reg_entry.specs.Objects.{key_of, object_at, same_object, has_object, block_of_piece, blocks_of, objects_gone, objects_come, changes_between}
use Rattle.op_feed.specs.PieceChanges.{same_piece, piece_of_range, goes, comes, pieces_gone, pieces_come}
use Rattle.op_feed.specs.EntryChanges.{dels, adds}
use Rattle.op_feed.proofs.Local.{Each, each_of, each_so}
use Rattle.op_feed.proofs.Handles.{HasHolderIn, same_holders}

-- a filter of what stands for other things
pub filter_through : {A B : Type 0} (f : B → Bool) (g : A → Bool) (h : A → B) (xs : List A) → Each (λ x. f (h x) ≡ g x) xs
    → filter f (map h xs) ≡ map h (filter g xs)
filter_through f g h [] e = refl
filter_through f g h (x ∷ xs) e =
    let rest = filter_through f g h xs e.1 in
    elim (cases_Bool (g x)) [
      | inl t ↦
          cond-true (f (h x)) (h x ∷ filter f (map h xs)) (filter f (map h xs)) (e.0 ∙ t)
          ∙ ap (λ ys. h x ∷ ys) rest
          ∙ sym (ap (map h) (cond-true (g x) (x ∷ filter g xs) (filter g xs) t))
      | inr k ↦
          cond-false (f (h x)) (h x ∷ filter f (map h xs)) (filter f (map h xs)) (e.0 ∙ k)
          ∙ rest
          ∙ sym (ap (map h) (cond-false (g x) (x ∷ filter g xs) (filter g xs) k))
    ]

block_found : (hs : List (Holder × ℕ)) (ps : List Piece) (r : PlainRange)
    → object_at (blocks_of hs ps) (BlockKey r) ≡ option_map (block_of_piece hs) (piece_of_range ps r)
block_found hs [] r = refl
block_found hs (p ∷ ps) r =
    elim (cases_Bool (same_range p.range r)) [
      | inl t ↦
          cond-true (same_range p.range r) (Some (block_of_piece hs p)) (object_at (blocks_of hs ps) (BlockKey r)) t
          ∙ sym (ap (option_map (block_of_piece hs)) (cond-true (same_range p.range r) (Some p) (piece_of_range ps r) t))
      | inr f ↦
          cond-false (same_range p.range r) (Some (block_of_piece hs p)) (object_at (blocks_of hs ps) (BlockKey r)) f
          ∙ block_found hs ps r
          ∙ sym (ap (option_map (block_of_piece hs)) (cond-false (same_range p.range r) (Some p) (piece_of_range ps r) f))
    ]

none_through : {A B : Type 0} (f : A → B) (o : Option A) → is_none (option_map f o) ≡ is_none o
none_through f None = refl
none_through f (Some x) = refl

regroup : (a b c d e : Bool) → (a && b && c && d && e) ≡ (a && (b && c && d && e))
regroup true b c d e = refl
regroup false b c d e = refl

same_blocks : (hs : List (Holder × ℕ)) (p q : Piece) → HaveDistinctHandles hs → HasHolderIn hs p → HasHolderIn hs q
    → same_object (block_of_piece hs p) (block_of_piece hs q) ≡ same_piece p q
same_blocks hs p q h k l =
    ap (λ b. same_range p.range q.range && same_status p.card.status q.card.status && b && nat_eq p.card.day q.card.day && nat_eq p.card.until q.card.until)
    (same_holders hs p.card.holder q.card.holder h k l)
    ∙ regroup (same_range p.range q.range) (same_status p.card.status q.card.status) (option_eq nat_eq p.card.holder q.card.holder)
    (nat_eq p.card.day q.card.day) (nat_eq p.card.until q.card.until)

same_block_found : (hs : List (Holder × ℕ)) (ps : List Piece) (p : Piece) → HaveDistinctHandles hs → HasHolderIn hs p → Each (HasHolderIn hs) ps
    → option_map_or (same_object (block_of_piece hs p)) (object_at (blocks_of hs ps) (BlockKey p.range)) false
    ≡ option_map_or (same_piece p) (piece_of_range ps p.range) false
same_block_found hs [] p h k l = refl
same_block_found hs (q ∷ qs) p h k l =
    let test : Bool = same_range q.range p.range in
    let one = option_map_or (same_object (block_of_piece hs p)) in
    let two = option_map_or (same_piece p) in
    elim (cases_Bool test) [
      | inl t ↦
          ap (λ o. one o false) (cond-true test (Some (block_of_piece hs q)) (object_at (blocks_of hs qs) (BlockKey p.range)) t)
          ∙ same_blocks hs p q h k l.0
          ∙ sym (ap (λ o. two o false) (cond-true test (Some q) (piece_of_range qs p.range) t))
      | inr f ↦
          ap (λ o. one o false) (cond-false test (Some (block_of_piece hs q)) (object_at (blocks_of hs qs) (BlockKey p.range)) f)
          ∙ same_block_found hs qs p h k l.1
          ∙ sym (ap (λ o. two o false) (cond-false test (Some q) (piece_of_range qs p.range) f))
    ]

pub blocks_gone : (hs : List (Holder × ℕ)) (before after : List Piece)
    → objects_gone (blocks_of hs before) (blocks_of hs after) ≡ blocks_of hs (pieces_gone before after)
blocks_gone hs before after =
    filter_through (λ o. is_none (object_at (blocks_of hs after) (key_of o))) (goes after) (block_of_piece hs) before
    (each_of (λ p. is_none (object_at (blocks_of hs after) (BlockKey p.range)) ≡ goes after p) before
    (λ p. ap is_none (block_found hs after p.range) ∙ none_through (block_of_piece hs) (piece_of_range after p.range)))

pub blocks_come : (hs : List (Holder × ℕ)) (before after : List Piece) → HaveDistinctHandles hs → Each (HasHolderIn hs) before
    → Each (HasHolderIn hs) after → objects_come (blocks_of hs before) (blocks_of hs after) ≡ blocks_of hs (pieces_come before after)
blocks_come hs before after h k l =
    filter_through (λ o. not (has_object (blocks_of hs before) o)) (comes before) (block_of_piece hs) after
    (each_so (HasHolderIn hs) (λ p. not (has_object (blocks_of hs before) (block_of_piece hs p)) ≡ comes before p) after
    (λ p m. ap not (same_block_found hs before p h m k)) l)

pub block_changes : (hs : List (Holder × ℕ)) (before after : List Piece) → HaveDistinctHandles hs → Each (HasHolderIn hs) before
    → Each (HasHolderIn hs) after
    → changes_between (blocks_of hs before) (blocks_of hs after) ≡ dels (blocks_of hs (pieces_gone before after)) ++ adds (blocks_of hs (pieces_come before after))
block_changes hs before after h k l =
    ap (λ xs. dels xs ++ adds (objects_come (blocks_of hs before) (blocks_of hs after))) (blocks_gone hs before after)
    ∙ ap (λ xs. dels (blocks_of hs (pieces_gone before after)) ++ adds xs) (blocks_come hs before after h k l)
