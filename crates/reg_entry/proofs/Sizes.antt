-- How many numbers the pieces have after a card was painted over a range.
use Rattle.std.proofs.Common.{◌≡◌, ℕ, ◌+◌, ◌-◌, ◌<◌, ◌≤◌, min, max, true, false, cond, nat_lt, ◌⊎◌, inl, inr, List, [], ◌∷◌, ◌++◌, Option, None, Some, refl, ap, sym, ◌∙◌, arith}
use Rattle.std.specs.List.{flat_map}
use Rattle.std.specs.Option.{option_map}
use Rattle.std.proofs.lemmas.Bool.{cond_both, cond-true, cond-false, cases_Bool, cases_lt, ltb-true, ltb-false, both_ways}
use Rattle.std.proofs.lemmas.Option.{none-some, same_Some}
use Rattle.num_range.specs.declared.space.Space.{Space}
use Rattle.num_range.specs.Range.{PlainRange, IsRange, size_of}
use Rattle.reg_entry.specs.declared.card.Card.{Card}
use Rattle.reg_entry.specs.declared.piece.Piece.{Piece}
use Rattle.reg_entry.specs.Pieces.{piece_meets, first_met, overlap, size_sum, part_below, part_above, can_join, joined_pair, joined_after, joined, laid, RisesFrom, ArePieces}
use Rattle.reg_entry.proofs.Joining.{can_join_true}
use Rattle.reg_entry.proofs.Laying.{kept_below, kept_above, painted_parts, painted_parts_rise}
use Rattle.reg_entry.proofs.Overlaps.{meets_from}

pub size_sum-append : (ps qs : List Piece) → size_sum (ps ++ qs) ≡ size_sum ps + size_sum qs
size_sum-append [] qs = omega arith
size_sum-append (p ∷ ps) qs = let rest : size_sum (ps ++ qs) ≡ size_sum ps + size_sum qs = size_sum-append ps qs in omega arith

-- ---- the numbers that a piece has in common with the range

abbrev pub common_size : PlainRange → Piece → ℕ
common_size r p = (min p.range.last r.last + 1) - max p.range.first r.first

abbrev pub common_sum : PlainRange → List Piece → ℕ
common_sum r [] = 0
common_sum r (p ∷ ps) = common_size r p + common_sum r ps

size_of_below : (r : PlainRange) (p : Piece) → p.range.first ≤ p.range.last → size_sum (part_below r p) ≡ min (p.range.last + 1) r.first - p.range.first
size_of_below r p h =
    cond_both (nat_lt p.range.first r.first) (kept_below r p ∷ []) [] (λ xs. size_sum xs ≡ min (p.range.last + 1) r.first - p.range.first)
    (λ e. let lt : p.range.first < r.first = ltb-true p.range.first r.first e in omega arith)
    (λ e. let le : r.first ≤ p.range.first = ltb-false p.range.first r.first e in omega arith)

size_of_above : (r : PlainRange) (p : Piece) → p.range.first ≤ p.range.last → size_sum (part_above r p) ≡ (p.range.last + 1) - max p.range.first (r.last + 1)
size_of_above r p h =
    cond_both (nat_lt r.last p.range.last) (kept_above r p ∷ []) [] (λ xs. size_sum xs ≡ (p.range.last + 1) - max p.range.first (r.last + 1))
    (λ e. let lt : r.last < p.range.last = ltb-true r.last p.range.last e in omega arith)
    (λ e. let le : p.range.last ≤ r.last = ltb-false r.last p.range.last e in omega arith)

split_size : (first last start end : ℕ) → first ≤ last → start ≤ end
    → (min (last + 1) start - first) + ((last + 1) - max first (end + 1)) + ((min last end + 1) - max first start) ≡ last - first + 1
split_size first last start end h k = omega arith

-- what is kept below and above, with what is in common, are the numbers of the pieces
pub size_sum-kept : (low : ℕ) (r : PlainRange) (ps : List Piece) → RisesFrom low ps → r.first ≤ r.last
    → size_sum (flat_map (part_below r) ps) + size_sum (flat_map (part_above r) ps) + common_sum r ps ≡ size_sum ps
size_sum-kept low r [] rises h = omega arith
size_sum-kept low r (p ∷ ps) rises h =
    let below : List Piece = flat_map (part_below r) ps in
    let above : List Piece = flat_map (part_above r) ps in
    let rest : size_sum below + size_sum above + common_sum r ps ≡ size_sum ps = size_sum-kept (p.range.last + 1) r ps rises.2 h in
    let b : size_sum (part_below r p ++ below) ≡ size_sum (part_below r p) + size_sum below = size_sum-append (part_below r p) below in
    let a : size_sum (part_above r p ++ above) ≡ size_sum (part_above r p) + size_sum above = size_sum-append (part_above r p) above in
    let split : size_sum (part_below r p) + size_sum (part_above r p) + common_size r p ≡ size_of p.range =
    ap (λ n. n + size_sum (part_above r p) + common_size r p) (size_of_below r p rises.1)
    ∙ ap (λ n. (min (p.range.last + 1) r.first - p.range.first) + n + common_size r p) (size_of_above r p rises.1)
    ∙ split_size p.range.first p.range.last r.first r.last rises.1 h in
    add_up (size_sum (part_below r p ++ below)) (size_sum (part_above r p ++ above)) (size_sum (part_below r p)) (size_sum below)
    (size_sum (part_above r p)) (size_sum above) (common_size r p) (common_sum r ps) (size_of p.range) (size_sum ps) b a split rest
  where
    add_up : (x y b bs a as₁ c cs n ns : ℕ) → x ≡ b + bs → y ≡ a + as₁ → b + a + c ≡ n → bs + as₁ + cs ≡ ns → x + y + (c + cs) ≡ n + ns
    add_up x y b bs a as₁ c cs n ns e f g h = omega arith

-- ---- joining

pub size_sum-joined_after : (low : ℕ) (p : Piece) (qs : List Piece) → RisesFrom low (p ∷ qs) → size_sum (joined_after p qs) ≡ size_sum (p ∷ qs)
size_sum-joined_after low p [] rises = refl
size_sum-joined_after low p (q ∷ qs) rises =
    cond_both (can_join p q) (joined_after (joined_pair p q) qs) (p ∷ joined_after q qs) (λ xs. size_sum xs ≡ size_sum (p ∷ q ∷ qs))
    (λ e.
    let touch : p.range.last + 1 ≡ q.range.first = (can_join_true p q e).0 in
    let one : size_of (joined_pair p q).range ≡ size_of p.range + size_of q.range = omega arith in
    let rest : size_sum (joined_after (joined_pair p q) qs) ≡ size_of (joined_pair p q).range + size_sum qs =
    size_sum-joined_after low (joined_pair p q) qs (rises.0, omega arith, rises.2.2) in
    three (size_of (joined_pair p q).range) (size_of p.range) (size_of q.range) (size_sum qs) (size_sum (joined_after (joined_pair p q) qs)) one rest)
    (λ e. ap (λ n. size_of p.range + n) (size_sum-joined_after (p.range.last + 1) q qs rises.2))
  where
    three : (pq a b n s : ℕ) → pq ≡ a + b → s ≡ pq + n → s ≡ a + (b + n)
    three pq a b n s e f = omega arith

pub size_sum-joined : (low : ℕ) (ps : List Piece) → RisesFrom low ps → size_sum (joined ps) ≡ size_sum ps
size_sum-joined low [] rises = refl
size_sum-joined low (p ∷ ps) rises = size_sum-joined_after low p ps rises

-- ---- painting

-- the numbers after the painting, and those that had a card before, are the pieces' and the range's
pub size_sum-laid : (space : Space) (ps : List Piece) (r : PlainRange) (c : Card) → ArePieces space ps → IsRange r
    → size_sum (laid ps r c) + common_sum r ps ≡ size_sum ps + size_of r
size_sum-laid space ps r c h range =
    let new : Piece = record { range = r; card = c } in
    let below : List Piece = flat_map (part_below r) ps in
    let above : List Piece = flat_map (part_above r) ps in
    add_up (size_sum (laid ps r c)) (size_sum (painted_parts ps r c)) (size_sum below) (size_sum above) (common_sum r ps) (size_of r) (size_sum ps)
    (size_sum-joined 0 (painted_parts ps r c) (painted_parts_rise ps r c h.rises range.0))
    (size_sum-append below (new ∷ above))
    (size_sum-kept 0 r ps h.rises range.0)
  where
    add_up : (laid parts b a c n s : ℕ) → laid ≡ parts → parts ≡ b + (n + a) → b + a + c ≡ s → laid + c ≡ s + n
    add_up laid parts b a c n s e f g = omega arith

common_none : (r : PlainRange) (p : Piece) → piece_meets r p ≡ false → common_size r p ≡ 0
common_none r p e =
    elim (cases_lt r.last p.range.first) [
      | inl before ↦ omega arith
      | inr le ↦
          elim (cases_lt p.range.last r.first) [
            | inl after ↦ omega arith
            | inr ge ↦ absurd (both_ways (piece_meets r p) e (meets_from r p le ge))
          ]
    ]

first_met_cases : (r : PlainRange) (p : Piece) (o q : Option Piece) → cond (piece_meets r p) (Some p) o ≡ q
    → ((piece_meets r p ≡ true) × (Some p ≡ q)) ⊎ ((piece_meets r p ≡ false) × (o ≡ q))
first_met_cases r p o q h =
    elim (cases_Bool (piece_meets r p)) [
      | inl e ↦ inl (e, sym (cond-true (piece_meets r p) (Some p) o e) ∙ h)
      | inr e ↦ inr (e, sym (cond-false (piece_meets r p) (Some p) o e) ∙ h)
    ]

pub common_sum_unmet : (r : PlainRange) (ps : List Piece) → first_met ps r ≡ None → common_sum r ps ≡ 0
common_sum_unmet r [] h = refl
common_sum_unmet r (p ∷ ps) h =
    elim (first_met_cases r p (first_met ps r) None h) [
      | inl met ↦ absurd (none-some p (sym met.1))
      | inr rest ↦
          let zero_here : common_size r p ≡ 0 = common_none r p rest.0 in
          let zero_after : common_sum r ps ≡ 0 = common_sum_unmet r ps rest.1 in
          omega arith
    ]

-- pieces above the range have no number in common with it
pub common_sum_above : (low : ℕ) (r : PlainRange) (ps : List Piece) → RisesFrom low ps → r.last < low → common_sum r ps ≡ 0
common_sum_above low r [] rises h = refl
common_sum_above low r (p ∷ ps) rises h =
    let zero_after : common_sum r ps ≡ 0 = common_sum_above (p.range.last + 1) r ps rises.2 (omega arith) in
    omega arith

pub common_sum_inside : (low : ℕ) (r : PlainRange) (ps : List Piece) (p : Piece) → RisesFrom low ps → r.first ≤ r.last
    → first_met ps r ≡ Some p → p.range.first ≤ r.first → r.last ≤ p.range.last → common_sum r ps ≡ size_of r
common_sum_inside low r [] p rises order h first last = absurd (none-some p h)
common_sum_inside low r (q ∷ qs) p rises order h first last =
    elim (first_met_cases r q (first_met qs r) (Some p) h) [
      | inl met ↦
          let same : q ≡ p = same_Some q p met.1 in
          let f : q.range.first ≤ r.first = rw same first in
          let l : r.last ≤ q.range.last = rw same last in
          let zero_after : common_sum r qs ≡ 0 = common_sum_above (q.range.last + 1) r qs rises.2 (omega arith) in
          omega arith
      | inr rest ↦
          let zero_here : common_size r q ≡ 0 = common_none r q rest.0 in
          let after : common_sum r qs ≡ size_of r = common_sum_inside (q.range.last + 1) r qs p rises.2 order rest.1 first last in
          omega arith
    ]

none_of_map : (f : Piece → ℕ) (o : Option Piece) → option_map f o ≡ None → o ≡ None
none_of_map f None h = refl
none_of_map f (Some p) h = absurd (none-some (f p) (sym h))

pub size_sum-received : (space : Space) (ps : List Piece) (r : PlainRange) (c : Card) → ArePieces space ps → IsRange r
    → overlap ps r ≡ None → size_sum (laid ps r c) ≡ size_sum ps + size_of r
size_sum-received space ps r c h range none =
    let all : size_sum (laid ps r c) + common_sum r ps ≡ size_sum ps + size_of r = size_sum-laid space ps r c h range in
    let unmet : common_sum r ps ≡ 0 = common_sum_unmet r ps (none_of_map (λ p. max r.first p.range.first) (first_met ps r) none) in
    drop_zero (size_sum (laid ps r c)) (common_sum r ps) (size_sum ps + size_of r) all unmet
  where
    drop_zero : (l c s : ℕ) → l + c ≡ s → c ≡ 0 → l ≡ s
    drop_zero l c s e f = omega arith

pub size_sum-repainted : (space : Space) (ps : List Piece) (r : PlainRange) (c : Card) (p : Piece) → ArePieces space ps → IsRange r
    → first_met ps r ≡ Some p → p.range.first ≤ r.first → r.last ≤ p.range.last → size_sum (laid ps r c) ≡ size_sum ps
size_sum-repainted space ps r c p h range met first last =
    let all : size_sum (laid ps r c) + common_sum r ps ≡ size_sum ps + size_of r = size_sum-laid space ps r c h range in
    let whole : common_sum r ps ≡ size_of r = common_sum_inside 0 r ps p h.rises range.0 met first last in
    cancel (size_sum (laid ps r c)) (common_sum r ps) (size_sum ps) (size_of r) all whole
  where
    cancel : (l c s n : ℕ) → l + c ≡ s + n → c ≡ n → l ≡ s
    cancel l c s n e f = omega arith
