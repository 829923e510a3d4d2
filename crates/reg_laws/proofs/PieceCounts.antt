-- How many pieces there are: no more after a joining, and after exactly one piece was painted.
use Rattle.std.proofs.Common.{◌≡◌, ℕ, suc, ◌+◌, ◌≤◌, nat_lt, ◌==◌, inl, inr, List, [], ◌∷◌, ◌++◌, Some, length, refl, sym, ◌∙◌, ap, subst, arith}
use Rattle.std.specs.List.{flat_map}
use Rattle.std.proofs.lemmas.Bool.{cond_both, cases_Bool, le-ltb, cond-false}
use Rattle.std.proofs.lemmas.List.{length-append}
use Rattle.std.proofs.lemmas.Option.{none-some, same_Some}
use Rattle.num_range.specs.declared.space.Space.{Space}
use Rattle.num_range.specs.declared.space.Space.TheVariants.{Asn, Ipv4, Ipv6}
use Rattle.num_range.specs.Range.{PlainRange}
use Rattle.reg_entry.specs.declared.card.Card.{Card}
use Rattle.reg_entry.specs.declared.piece.Piece.{Piece}
use Rattle.reg_entry.specs.Pieces.{piece_holds, piece_at, part_below, part_above, can_join, joined_pair, joined_after, joined, laid, RisesFrom}
use Rattle.reg_entry.specs.Partition.{Partition, pieces_in, with_pieces, piece_count}
use Rattle.reg_entry.specs.Reshaping.{joined_at_after, joined_at}
use Rattle.reg_entry.proofs.Holding.{piece_at-first, piece_at-rest}
use Rattle.reg_entry.proofs.Laying.{kept_below, kept_above, painted_parts}

-- ---- joining

length_joined_after : (p : Piece) (qs : List Piece) → length (joined_after p qs) ≤ suc (length qs)
length_joined_after p [] = omega arith
length_joined_after p (q ∷ qs) =
    cond_both (can_join p q) (joined_after (joined_pair p q) qs) (p ∷ joined_after q qs) (λ xs. length xs ≤ suc (suc (length qs)))
    (λ e. let rest : length (joined_after (joined_pair p q) qs) ≤ suc (length qs) = length_joined_after (joined_pair p q) qs in omega arith)
    (λ e. let rest : length (joined_after q qs) ≤ suc (length qs) = length_joined_after q qs in omega arith)

length_joined : (ps : List Piece) → length (joined ps) ≤ length ps
length_joined [] = omega arith
length_joined (p ∷ ps) = length_joined_after p ps

length_joined_at_after : (p : Piece) (qs : List Piece) (at : ℕ) → length (joined_at_after p qs at) ≤ suc (length qs)
length_joined_at_after p [] at = omega arith
length_joined_at_after p (q ∷ qs) at =
    let rest : length (joined_at_after q qs at) ≤ suc (length qs) = length_joined_at_after q qs at in
    cond_both (q.range.first == at) (joined_pair p q ∷ qs) (p ∷ joined_at_after q qs at) (λ xs. length xs ≤ suc (suc (length qs)))
    (λ e. omega arith)
    (λ e. omega arith)

pub length_joined_at : (ps : List Piece) (at : ℕ) → length (joined_at ps at) ≤ length ps
length_joined_at [] at = omega arith
length_joined_at (p ∷ ps) at = length_joined_at_after p ps at

-- ---- painting

none_below : (low : ℕ) (r : PlainRange) (ps : List Piece) → RisesFrom low ps → r.first ≤ low → flat_map (part_below r) ps ≡ []
none_below low r [] rises h = refl
none_below low r (p ∷ ps) rises h =
    ap (λ xs. xs ++ flat_map (part_below r) ps) (cond-false (nat_lt p.range.first r.first) (kept_below r p ∷ []) [] (le-ltb p.range.first r.first (omega arith)))
    ∙ none_below (p.range.last + 1) r ps rises.2 (omega arith)

length_above : (r : PlainRange) (ps : List Piece) → length (flat_map (part_above r) ps) ≤ length ps
length_above r [] = omega arith
length_above r (p ∷ ps) =
    let rest : length (flat_map (part_above r) ps) ≤ length ps = length_above r ps in
    cond_both (nat_lt r.last p.range.last) (kept_above r p ∷ []) [] (λ xs. length (xs ++ flat_map (part_above r) ps) ≤ suc (length ps))
    (λ e. omega arith)
    (λ e. omega arith)

pub above_low : (low : ℕ) (ps : List Piece) (x : ℕ) (p : Piece) → RisesFrom low ps → piece_at ps x ≡ Some p → low ≤ p.range.first
above_low low [] x p rises e = absurd (none-some p e)
above_low low (q ∷ qs) x p rises e =
    elim (cases_Bool (piece_holds q x)) [
      | inl t ↦ subst (λ y. low ≤ y.range.first) (same_Some q p (sym (piece_at-first q qs x t) ∙ e)) rises.0
      | inr f ↦
          let b : q.range.last + 1 ≤ p.range.first = above_low (q.range.last + 1) qs x p rises.2 (sym (piece_at-rest q qs x f) ∙ e) in
          let l : low ≤ q.range.first = rises.0 in
          let o : q.range.first ≤ q.range.last = rises.1 in
          omega arith
    ]

-- exactly one piece is painted, so that nothing of it is kept
length_parts : (low : ℕ) (r : PlainRange) (ps : List Piece) (p : Piece) → RisesFrom low ps → piece_at ps r.first ≡ Some p
    → r.first ≡ p.range.first → r.last ≡ p.range.last → r.first ≤ r.last
    → length (flat_map (part_below r) ps) + suc (length (flat_map (part_above r) ps)) ≤ length ps
length_parts low r [] p rises e first last order = absurd (none-some p e)
length_parts low r (q ∷ qs) p rises e first last order =
    elim (cases_Bool (piece_holds q r.first)) [
      | inl t ↦
          let same : q ≡ p = same_Some q p (sym (piece_at-first q qs r.first t) ∙ e) in
          let qf : q.range.first ≡ r.first = ap (λ x. x.range.first) same ∙ sym first in
          let ql : q.range.last ≡ r.last = ap (λ x. x.range.last) same ∙ sym last in
          let below : flat_map (part_below r) (q ∷ qs) ≡ [] = none_below r.first r (q ∷ qs) (omega arith, rises.1, rises.2) (omega arith) in
          let above : flat_map (part_above r) (q ∷ qs) ≡ flat_map (part_above r) qs =
          ap (λ xs. xs ++ flat_map (part_above r) qs) (cond-false (nat_lt r.last q.range.last) (kept_above r q ∷ []) [] (le-ltb r.last q.range.last (omega arith))) in
          let few : length (flat_map (part_above r) qs) ≤ length qs = length_above r qs in
          none_and_few (length (flat_map (part_below r) (q ∷ qs))) (length (flat_map (part_above r) (q ∷ qs))) (length (flat_map (part_above r) qs)) (length qs)
          (ap length below) (ap length above) few
      | inr f ↦
          let rest : piece_at qs r.first ≡ Some p = sym (piece_at-rest q qs r.first f) ∙ e in
          let past : q.range.last + 1 ≤ p.range.first = above_low (q.range.last + 1) qs r.first p rises.2 rest in
          let above : flat_map (part_above r) (q ∷ qs) ≡ flat_map (part_above r) qs =
          ap (λ xs. xs ++ flat_map (part_above r) qs) (cond-false (nat_lt r.last q.range.last) (kept_above r q ∷ []) [] (le-ltb r.last q.range.last (omega arith))) in
          let more : length (flat_map (part_below r) qs) + suc (length (flat_map (part_above r) qs)) ≤ length qs =
          length_parts (q.range.last + 1) r qs p rises.2 rest first last order in
          let below : length (flat_map (part_below r) (q ∷ qs)) ≤ suc (length (flat_map (part_below r) qs)) =
          cond_both (nat_lt q.range.first r.first) (kept_below r q ∷ []) [] (λ xs. length (xs ++ flat_map (part_below r) qs) ≤ suc (length (flat_map (part_below r) qs)))
          (λ t. omega arith) (λ t. omega arith) in
          one_more (length (flat_map (part_below r) (q ∷ qs))) (length (flat_map (part_above r) (q ∷ qs))) (length (flat_map (part_below r) qs))
          (length (flat_map (part_above r) qs)) (length qs) below (ap length above) more
    ]
  where
    none_and_few : (b a n l : ℕ) → b ≡ 0 → a ≡ n → n ≤ l → b + suc a ≤ suc l
    none_and_few b a n l e f g = omega arith

    one_more : (b a m n l : ℕ) → b ≤ suc m → a ≡ n → m + suc n ≤ l → b + suc a ≤ suc l
    one_more b a m n l e f g = omega arith

pub length_laid : (ps : List Piece) (r : PlainRange) (c : Card) (p : Piece) → RisesFrom 0 ps → piece_at ps r.first ≡ Some p
    → r.first ≡ p.range.first → r.last ≡ p.range.last → r.first ≤ r.last → length (laid ps r c) ≤ length ps
length_laid ps r c p rises e first last order =
    let below : List Piece = flat_map (part_below r) ps in
    let above : List Piece = flat_map (part_above r) ps in
    let new : Piece = record { range = r; card = c } in
    let parts : length below + suc (length above) ≤ length ps = length_parts 0 r ps p rises e first last order in
    let sum : length (below ++ new ∷ above) ≡ length below + suc (length above) = length-append below (new ∷ above) in
    let fewer : length (laid ps r c) ≤ length (below ++ new ∷ above) = length_joined (painted_parts ps r c) in
    through (length (laid ps r c)) (length (below ++ new ∷ above)) (length below + suc (length above)) (length ps) fewer sum parts
  where
    through : (a b c d : ℕ) → a ≤ b → b ≡ c → c ≤ d → a ≤ d
    through a b c d e f g = omega arith

-- ---- in the pool

pub count_with : (pool : Partition) (s : Space) (ps : List Piece) → length ps ≤ length (pieces_in pool s) → piece_count (with_pieces pool s ps) ≤ piece_count pool
count_with pool Asn ps h = omega arith
count_with pool Ipv4 ps h = omega arith
count_with pool Ipv6 ps h = omega arith
