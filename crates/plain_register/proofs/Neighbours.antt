-- Two neighbours among the pieces of a space, and joining them.
use Rattle.std.proofs.Common.{◌≡◌, ℕ, zero, suc, ◌+◌, ◌-◌, ◌<◌, ◌≤◌, ◌==◌, false, List, [], ◌∷◌, ◌++◌, length, take, drop, get_or, set, refl, sym, ◌∙◌, ap, subst, arith}
use Rattle.std.specs.List.{remove}
use Rattle.std.proofs.lemmas.Bool.{cond-true, cond-false, eq-eqb}
use Rattle.num_range.specs.declared.space.Space.{Space}
use Rattle.num_range.specs.Space.{top_of}
use Rattle.reg_entry.specs.declared.piece.Piece.{Piece}
use Rattle.reg_entry.specs.Pieces.{joined_pair, RisesFrom, AllPiecesOf, ArePieces}
use Rattle.reg_entry.specs.Reshaping.{joined_at}

of_space_at : (space : Space) (ps : List Piece) (i : ℕ) (d : Piece) → AllPiecesOf space ps → i < length ps → (get_or ps i d).range.space ≡ space
of_space_at space [] i d h l = absurd (omega arith)
of_space_at space (p ∷ ps) zero d h l = h.0.of_space
of_space_at space (p ∷ ps) (suc i) d h l = of_space_at space ps i d h.1 (omega arith)

rising_at : (low : ℕ) (ps : List Piece) (i : ℕ) (d e : Piece) → RisesFrom low ps → suc i < length ps
    → (get_or ps i d).range.first ≤ (get_or ps (suc i) e).range.last
rising_at low [] i d e h l = absurd (omega arith)
rising_at low (p ∷ []) i d e h l = absurd (omega arith)
rising_at low (p ∷ q ∷ qs) zero d e h l =
    let a : p.range.first ≤ p.range.last = h.1 in
    let b : p.range.last + 1 ≤ q.range.first = h.2.0 in
    let c : q.range.first ≤ q.range.last = h.2.1 in
    omega arith
rising_at low (p ∷ q ∷ qs) (suc i) d e h l = rising_at (p.range.last + 1) (q ∷ qs) i d e h.2 (omega arith)

-- the piece that begins at the number is joined to the one before it
pub joined_here : (ps : List Piece) (k at : ℕ) (d e : Piece) → suc k < length ps → (get_or ps (suc k) e).range.first ≡ at
    → take k ps ++ joined_at (drop k ps) at ≡ remove (set ps k (joined_pair (get_or ps k d) (get_or ps (suc k) e))) (suc k)
joined_here [] k at d e h t = absurd (omega arith)
joined_here (p ∷ []) k at d e h t = absurd (omega arith)
joined_here (p ∷ q ∷ qs) zero at d e h t = cond-true (q.range.first == at) _ _ (eq-eqb q.range.first at t)
joined_here (p ∷ q ∷ qs) (suc k) at d e h t = ap (λ rs. p ∷ rs) (joined_here (q ∷ qs) k at d e (omega arith) t)

-- where the next piece doesn't begin at the number, this one stays
pub joined_later : (ps : List Piece) (k at : ℕ) (e : Piece) → suc k < length ps → ((get_or ps (suc k) e).range.first == at) ≡ false
    → take k ps ++ joined_at (drop k ps) at ≡ take (suc k) ps ++ joined_at (drop (suc k) ps) at
joined_later [] k at e h f = absurd (omega arith)
joined_later (p ∷ []) k at e h f = absurd (omega arith)
joined_later (p ∷ q ∷ qs) zero at e h f = cond-false (q.range.first == at) _ _ f
joined_later (p ∷ q ∷ qs) (suc k) at e h f = ap (λ rs. p ∷ rs) (joined_later (q ∷ qs) k at e (omega arith) f)

-- the last piece has none to be joined to it
pub joined_none : (ps : List Piece) (k at : ℕ) → length ps ≤ suc k → take k ps ++ joined_at (drop k ps) at ≡ ps
joined_none [] zero at h = refl
joined_none [] (suc k) at h = refl
joined_none (p ∷ []) zero at h = refl
joined_none (p ∷ q ∷ qs) zero at h = absurd (omega arith)
joined_none (p ∷ ps) (suc k) at h = ap (λ rs. p ∷ rs) (joined_none ps k at (omega arith))

pub same_space : (space : Space) (ps : List Piece) (i : ℕ) (p q : Piece) → ArePieces space ps → 1 ≤ i → i < length ps
    → p ≡ get_or ps (i - 1) p → q ≡ get_or ps i q → p.range.space ≡ q.range.space
same_space space ps i p q h low high left right =
    ap (λ x. x.range.space) left ∙ of_space_at space ps (i - 1) p h.each (omega arith)
    ∙ sym (ap (λ x. x.range.space) right ∙ of_space_at space ps i q h.each high)

pub in_order : (space : Space) (ps : List Piece) (i : ℕ) (p q : Piece) → ArePieces space ps → 1 ≤ i → i < length ps
    → p ≡ get_or ps (i - 1) p → q ≡ get_or ps i q → p.range.first ≤ q.range.last
in_order space ps i p q h low high left right =
    let at : suc (i - 1) ≡ i = omega arith in
    let a : p.range.first ≡ (get_or ps (i - 1) p).range.first = ap (λ x. x.range.first) left in
    let b : q.range.last ≡ (get_or ps (suc (i - 1)) q).range.last = ap (λ x. x.range.last) right ∙ ap (λ n. (get_or ps n q).range.last) (sym at) in
    let c : (get_or ps (i - 1) p).range.first ≤ (get_or ps (suc (i - 1)) q).range.last = rising_at 0 ps (i - 1) p q h.rises (omega arith) in
    omega arith

pub within_at : (space : Space) (ps : List Piece) (i : ℕ) (p : Piece) → ArePieces space ps → i < length ps → p ≡ get_or ps i p
    → p.range.last ≤ top_of space
within_at space ps i p h l e = subst (λ q. q.range.last ≤ top_of space) (sym e) (each_within space ps i p h.each l)
  where
    each_within : (space : Space) (ps : List Piece) (i : ℕ) (d : Piece) → AllPiecesOf space ps → i < length ps → (get_or ps i d).range.last ≤ top_of space
    each_within space [] i d h l = absurd (omega arith)
    each_within space (p ∷ ps) zero d h l = h.0.within
    each_within space (p ∷ ps) (suc i) d h l = each_within space ps i d h.1 (omega arith)
