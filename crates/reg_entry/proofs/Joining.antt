-- Joining neighbours keeps what the pieces of a space are, and leaves none that can be joined.
use Rattle.std.proofs.Common.{◌≡◌, ℕ, ◌+◌, ◌≤◌, true, false, ◌&&◌, ◌==◌, List, [], ◌∷◌, refl, ap, sym, ◌∙◌, arith}
use Rattle.std.proofs.lemmas.Bool.{cond_both, cond-false, and_parts, eqb-true}
use Rattle.num_range.specs.declared.space.Space.{Space}
use Rattle.reg_entry.specs.declared.piece.Piece.{Piece}
use Rattle.reg_entry.specs.Card.{is_available}
use Rattle.reg_entry.specs.Pieces.{can_join, joined_pair, joined_after, joined, RisesFrom, IsSettledAfter, IsSettled, IsPieceOf, AllPiecesOf}

-- what two pieces that are joined have
pub can_join_true : (p q : Piece) → can_join p q ≡ true
    → (p.range.last + 1 ≡ q.range.first) × (is_available p.card.status ≡ true) × (is_available q.card.status ≡ true)
can_join_true p q e =
    let outer = and_parts ((p.range.last + 1 == q.range.first) && is_available p.card.status) (is_available q.card.status) e in
    let inner = and_parts (p.range.last + 1 == q.range.first) (is_available p.card.status) outer.0 in
    (eqb-true (p.range.last + 1) q.range.first inner.0, inner.1, outer.1)

-- pieces that lie at or above a number lie at or above each lesser one
pub rises_from_lower : (low high : ℕ) (ps : List Piece) → low ≤ high → RisesFrom high ps → RisesFrom low ps
rises_from_lower low high [] h rises = tt
rises_from_lower low high (p ∷ ps) h rises = (omega arith, rises.1, rises.2)

pub joined_after_rises : (low : ℕ) (p : Piece) (qs : List Piece) → RisesFrom low (p ∷ qs) → RisesFrom low (joined_after p qs)
joined_after_rises low p [] h = h
joined_after_rises low p (q ∷ qs) h =
    cond_both (can_join p q) (joined_after (joined_pair p q) qs) (p ∷ joined_after q qs) (RisesFrom low)
    (λ e. joined_after_rises low (joined_pair p q) qs (h.0, omega arith, h.2.2))
    (λ e. (h.0, h.1, joined_after_rises (p.range.last + 1) q qs h.2))

pub joined_rises : (low : ℕ) (ps : List Piece) → RisesFrom low ps → RisesFrom low (joined ps)
joined_rises low [] h = tt
joined_rises low (p ∷ ps) h = joined_after_rises low p ps h

pub joined_pair_is_piece : (space : Space) (p q : Piece) → IsPieceOf space p → IsPieceOf space q → IsPieceOf space (joined_pair p q)
joined_pair_is_piece space p q hp hq = record {
  of_space = hp.of_space;
  within = hq.within;
  pooled = λ e. ((hp.pooled e).0, (hq.pooled (hq.of_space ∙ sym hp.of_space ∙ e)).1);
  plain = hp.plain;
}

pub joined_after_pieces : (space : Space) (p : Piece) (qs : List Piece) → AllPiecesOf space (p ∷ qs) → AllPiecesOf space (joined_after p qs)
joined_after_pieces space p [] h = h
joined_after_pieces space p (q ∷ qs) h =
    cond_both (can_join p q) (joined_after (joined_pair p q) qs) (p ∷ joined_after q qs) (AllPiecesOf space)
    (λ e. joined_after_pieces space (joined_pair p q) qs (joined_pair_is_piece space p q h.0 h.1.0, h.1.1))
    (λ e. (h.0, joined_after_pieces space q qs h.1))

pub joined_pieces : (space : Space) (ps : List Piece) → AllPiecesOf space ps → AllPiecesOf space (joined ps)
joined_pieces space [] h = tt
joined_pieces space (p ∷ ps) h = joined_after_pieces space p ps h

-- the first of the joined pieces begins where q does, and is available where q is
pub settled_before_joined : (p q : Piece) (qs : List Piece) → can_join p q ≡ false → IsSettledAfter p (joined_after q qs)
settled_before_joined p q [] h = (h, tt)
settled_before_joined p q (s ∷ qs) h =
    cond_both (can_join q s) (joined_after (joined_pair q s) qs) (q ∷ joined_after s qs) (IsSettledAfter p)
    (λ e. settled_before_joined p (joined_pair q s) qs h)
    (λ e. (h, settled_before_joined q s qs e))

pub joined_after_settled : (p : Piece) (qs : List Piece) → IsSettled (joined_after p qs)
joined_after_settled p [] = tt
joined_after_settled p (q ∷ qs) =
    cond_both (can_join p q) (joined_after (joined_pair p q) qs) (p ∷ joined_after q qs) IsSettled
    (λ e. joined_after_settled (joined_pair p q) qs)
    (λ e. settled_before_joined p q qs e)

pub joined_settled : (ps : List Piece) → IsSettled (joined ps)
joined_settled [] = tt
joined_settled (p ∷ ps) = joined_after_settled p ps

pub joined_after_of_settled : (p : Piece) (qs : List Piece) → IsSettledAfter p qs → joined_after p qs ≡ p ∷ qs
joined_after_of_settled p [] h = refl
joined_after_of_settled p (q ∷ qs) h =
    cond-false (can_join p q) (joined_after (joined_pair p q) qs) (p ∷ joined_after q qs) h.0
    ∙ ap (λ xs. p ∷ xs) (joined_after_of_settled q qs h.1)
