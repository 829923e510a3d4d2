-- The cards of the pieces: what each card is stays so for those that are there, and holds of the painted one.
use Rattle.std.proofs.Common.{ℕ, ◌≤◌, nat_lt, ◌==◌, List, [], ◌∷◌, ◌++◌, Option, None, Some, MatchOption, length, arith}
use Rattle.std.specs.List.{flat_map}
use Rattle.std.proofs.lemmas.Bool.{cond_both}
use Rattle.num_range.specs.declared.space.Space.{Space}
use Rattle.num_range.specs.Range.{PlainRange}
use Rattle.reg_entry.specs.declared.card.Card.{Card}
use Rattle.reg_entry.specs.declared.piece.Piece.{Piece}
use Rattle.reg_entry.specs.declared.request.Request.{Request}
use Rattle.reg_entry.specs.declared.request.Request.TheVariants.{Split, Join}
use Rattle.reg_entry.specs.Pieces.{part_below, part_above, can_join, joined_pair, joined_after, joined, laid}
use Rattle.reg_entry.specs.Partition.{Partition, pieces_in, with_pieces}
use Rattle.reg_entry.specs.Reshaping.{holds_past_first, split_at_number, joined_at_after, joined_at}
use Rattle.reg_entry.specs.Register.{Register, reshaped, painted, pool_after}
use Rattle.reg_entry.specs.Whole.{IsKnownHolder, IsCardIn, HaveCardsIn}
use Rattle.reg_entry.proofs.Laying.{kept_below, kept_above, painted_parts}
use Rattle.reg_laws.proofs.Painted.{with_pieces_has}
use Rattle.reg_entry.proofs.Reshaped.{left_part, right_part}

-- ---- in a register with more holders and a later day

number_moved : (r s : Register) (holder : Option ℕ) → length r.holders ≤ length s.holders → IsKnownHolder r holder → IsKnownHolder s holder
number_moved r s None h k = absurd k
number_moved r s (Some number) h k = omega arith

card_moved : (r s : Register) (c : Card) → length r.holders ≤ length s.holders → r.last_day ≤ s.last_day → IsCardIn r c → IsCardIn s c
card_moved r s c more later h = record {
  holder = λ e. number_moved r s c.holder more (h.holder e);
  nobody = h.nobody;
  dated = h.dated;
  day = let d = h.day in omega arith;
  until = h.until;
}

pub cards_moved : (r s : Register) (ps : List Piece) → length r.holders ≤ length s.holders → r.last_day ≤ s.last_day → HaveCardsIn r ps → HaveCardsIn s ps
cards_moved r s [] more later h = tt
cards_moved r s (p ∷ ps) more later h = (card_moved r s p.card more later h.0, cards_moved r s ps more later h.1)

-- ---- painting

cards_append : (r : Register) (ps qs : List Piece) → HaveCardsIn r ps → HaveCardsIn r qs → HaveCardsIn r (ps ++ qs)
cards_append r [] qs h k = k
cards_append r (p ∷ ps) qs h k = (h.0, cards_append r ps qs h.1 k)

cards_below : (r : Register) (range : PlainRange) (ps : List Piece) → HaveCardsIn r ps → HaveCardsIn r (flat_map (part_below range) ps)
cards_below r range [] h = tt
cards_below r range (p ∷ ps) h =
    cond_both (nat_lt p.range.first range.first) (kept_below range p ∷ []) [] (λ xs. HaveCardsIn r (xs ++ flat_map (part_below range) ps))
    (λ e. (h.0, cards_below r range ps h.1))
    (λ e. cards_below r range ps h.1)

cards_above : (r : Register) (range : PlainRange) (ps : List Piece) → HaveCardsIn r ps → HaveCardsIn r (flat_map (part_above range) ps)
cards_above r range [] h = tt
cards_above r range (p ∷ ps) h =
    cond_both (nat_lt range.last p.range.last) (kept_above range p ∷ []) [] (λ xs. HaveCardsIn r (xs ++ flat_map (part_above range) ps))
    (λ e. (h.0, cards_above r range ps h.1))
    (λ e. cards_above r range ps h.1)

cards_joined_after : (r : Register) (p : Piece) (qs : List Piece) → HaveCardsIn r (p ∷ qs) → HaveCardsIn r (joined_after p qs)
cards_joined_after r p [] h = h
cards_joined_after r p (q ∷ qs) h =
    cond_both (can_join p q) (joined_after (joined_pair p q) qs) (p ∷ joined_after q qs) (HaveCardsIn r)
    (λ e. cards_joined_after r (joined_pair p q) qs (h.0, h.1.1))
    (λ e. (h.0, cards_joined_after r q qs h.1))

cards_joined : (r : Register) (ps : List Piece) → HaveCardsIn r ps → HaveCardsIn r (joined ps)
cards_joined r [] h = tt
cards_joined r (p ∷ ps) h = cards_joined_after r p ps h

pub cards_laid : (r : Register) (ps : List Piece) (range : PlainRange) (c : Card) → HaveCardsIn r ps → IsCardIn r c → HaveCardsIn r (laid ps range c)
cards_laid r ps range c h new =
    let piece : Piece = record { range = range; card = c } in
    cards_joined r (painted_parts ps range c)
    (cards_append r (flat_map (part_below range) ps) (piece ∷ flat_map (part_above range) ps) (cards_below r range ps h) (new, cards_above r range ps h))

-- ---- splitting and joining

cards_split : (r : Register) (ps : List Piece) (at : ℕ) → HaveCardsIn r ps → HaveCardsIn r (split_at_number ps at)
cards_split r [] at h = tt
cards_split r (p ∷ ps) at h =
    cond_both (holds_past_first p at) (left_part p at ∷ right_part p at ∷ []) (p ∷ []) (λ xs. HaveCardsIn r (xs ++ split_at_number ps at))
    (λ e. (h.0, (h.0, cards_split r ps at h.1)))
    (λ e. (h.0, cards_split r ps at h.1))

cards_joined_at_after : (r : Register) (p : Piece) (qs : List Piece) (at : ℕ) → HaveCardsIn r (p ∷ qs) → HaveCardsIn r (joined_at_after p qs at)
cards_joined_at_after r p [] at h = h
cards_joined_at_after r p (q ∷ qs) at h =
    cond_both (q.range.first == at) (joined_pair p q ∷ qs) (p ∷ joined_at_after q qs at) (HaveCardsIn r)
    (λ e. (h.0, h.1.1))
    (λ e. (h.0, cards_joined_at_after r q qs at h.1))

cards_joined_at : (r : Register) (ps : List Piece) (at : ℕ) → HaveCardsIn r ps → HaveCardsIn r (joined_at ps at)
cards_joined_at r [] at h = tt
cards_joined_at r (p ∷ ps) at h = cards_joined_at_after r p ps at h

-- ---- in the pool

-- what is known of each space's cards
abbrev pub HaveAllCardsIn : Register → Partition → Type 0
HaveAllCardsIn r pool = (space : Space) → HaveCardsIn r (pieces_in pool space)

cards_with : (r : Register) (pool : Partition) (s : Space) (ps : List Piece) → HaveAllCardsIn r pool → HaveCardsIn r ps → HaveAllCardsIn r (with_pieces pool s ps)
cards_with r pool s ps h new = λ t. with_pieces_has (λ u xs. HaveCardsIn r xs) pool s t ps new (h t)

cards_reshaped : (r : Register) (request : Request) (pool : Partition) → HaveAllCardsIn r pool → HaveAllCardsIn r (reshaped request pool)
cards_reshaped r (Split at) pool h =
    cards_with r pool at.space (split_at_number (pieces_in pool at.space) at.value) h (cards_split r (pieces_in pool at.space) at.value (h at.space))
cards_reshaped r (Join at) pool h =
    cards_with r pool at.space (joined_at (pieces_in pool at.space) at.value) h (cards_joined_at r (pieces_in pool at.space) at.value (h at.space))
cards_reshaped r request pool h = h

cards_painted : (r : Register) (cover : Option PlainRange) (card : Option Card) (pool : Partition) → HaveAllCardsIn r pool
    → MatchOption card (Unit {0}) (IsCardIn r) → HaveAllCardsIn r (painted cover card pool)
cards_painted r (Some range) (Some c) pool h new =
    cards_with r pool range.space (laid (pieces_in pool range.space) range c) h (cards_laid r (pieces_in pool range.space) range c (h range.space) new)
cards_painted r (Some range) None pool h new = h
cards_painted r None card pool h new = h

pub cards_after : (r : Register) (request : Request) (cover : Option PlainRange) (card : Option Card) (pool : Partition) → HaveAllCardsIn r pool
    → MatchOption card (Unit {0}) (IsCardIn r) → HaveAllCardsIn r (pool_after request cover card pool)
cards_after r request cover card pool h new = cards_painted r cover card (reshaped request pool) (cards_reshaped r request pool h) new
