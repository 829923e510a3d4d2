-- What is found, and changed, in the pairs of a directory is so in the pieces that they are.
use Rattle.std.proofs.Common.{◌≡◌, ℕ, ◌+◌, ◌<◌, ◌≤◌, suc, zero, Bool, true, false, ◌==◌, cond, nat_lt, nat_le, List, [], ◌∷◌, ◌++◌, length, map, take, drop, Option, None, Some, refl, sym, ◌∙◌, ap, subst, arith, ◌⊎◌, inl, inr}
use Rattle.std.proofs.lemmas.Bool.{cond-true, lt-ltb}
use Rattle.std.proofs.lemmas.Bool.Decides.{nat_tests}
use Rattle.std.proofs.lemmas.List.{length-map, map-append, take-map, drop-map}
use Rattle.std.proofs.lemmas.Option.{slice_get-map}
use Rattle.std.specs.List.{AllByRecursion, slice_get}
use Rattle.std.specs.Option.{option_map, option_or}
use Rattle.std.specs.Ordering.{is_le, is_lt, nat_cmp}
use Rattle.std.specs.declared.cmp.Ordering.TheVariants.{Less, Equal, Greater}
use Rattle.num_range.specs.declared.space.Space.{Space}
use Rattle.num_range.specs.Space.{top_of}
use Rattle.reg_entry.specs.declared.piece.Piece.{Piece}
use Rattle.reg_entry.specs.Pieces.{RisesFrom, AllPiecesOf, ArePieces}
use Rattle.page_dir.specs.Sorted.{Rises, rank, last_at_most}
use Rattle.page_dir.specs.Splices.{spliced}
use Rattle.piece_book.specs.declared.part.Part.{Part}
use Rattle.piece_book.specs.Exchange.{begun_below, start_of, place_of, exchanged}
use Rattle.piece_book.specs.Pairs.{piece_of_pair, pieces_of_pairs, pair_of_piece, AreOfRanges}
use Rattle.piece_book.specs.SpaceBook.{last_begun}
use Rattle.piece_book.proofs.Exchanging.{spaces_of, pieces_behind}

lt_is : (a b : ℕ) → is_lt (nat_cmp a b) ≡ nat_lt a b
lt_is a b = grind (arith, nat_tests)

le_is : (a b : ℕ) → is_le (nat_cmp a b) ≡ nat_le a b
le_is a b = grind (arith, nat_tests)

-- ---- places

pub rank_is : (space : Space) (x : ℕ) (pairs : List (ℕ × Part)) → rank nat_cmp x pairs ≡ begun_below x (pieces_of_pairs space pairs)
rank_is space x [] = refl
rank_is space x (p ∷ pairs) =
    ap (λ (b : Bool). cond b (1 + rank nat_cmp x pairs) 0) (lt_is p.0 x)
    ∙ ap (λ (n : ℕ). cond (nat_lt p.0 x) (1 + n) 0) (rank_is space x pairs)

pub last_is : (space : Space) (x : ℕ) (pairs : List (ℕ × Part))
    → option_map (piece_of_pair space) (last_at_most nat_cmp x pairs) ≡ last_begun x (pieces_of_pairs space pairs)
last_is space x [] = refl
last_is space x (p ∷ pairs) =
    mapped (last_at_most nat_cmp x pairs) (is_le (nat_cmp p.0 x))
    ∙ ap (λ (b : Bool). option_or (option_map (piece_of_pair space) (last_at_most nat_cmp x pairs)) (cond b (Some (piece_of_pair space p)) None)) (le_is p.0 x)
    ∙ ap (λ (o : Option Piece). option_or o (cond (nat_le p.0 x) (Some (piece_of_pair space p)) None)) (last_is space x pairs)
  where
    mapped : (o : Option (ℕ × Part)) (b : Bool)
        → option_map (piece_of_pair space) (option_or o (cond b (Some p) None)) ≡ option_or (option_map (piece_of_pair space) o) (cond b (Some (piece_of_pair space p)) None)
    mapped (Some q) b = refl
    mapped None true = refl
    mapped None false = refl

pub next_is : (space : Space) (x : ℕ) (pairs : List (ℕ × Part))
    → option_map (piece_of_pair space) (slice_get pairs (rank nat_cmp x pairs)) ≡ slice_get (pieces_of_pairs space pairs) (begun_below x (pieces_of_pairs space pairs))
next_is space x pairs =
    sym (slice_get-map (piece_of_pair space) pairs (rank nat_cmp x pairs))
    ∙ ap (λ (n : ℕ). slice_get (pieces_of_pairs space pairs) n) (rank_is space x pairs)

pub rest_is : (space : Space) (x : ℕ) (pairs : List (ℕ × Part))
    → pieces_of_pairs space (drop (rank nat_cmp x pairs) pairs) ≡ drop (begun_below x (pieces_of_pairs space pairs)) (pieces_of_pairs space pairs)
rest_is space x pairs =
    sym (drop-map (piece_of_pair space) (rank nat_cmp x pairs) pairs)
    ∙ ap (λ (n : ℕ). drop n (pieces_of_pairs space pairs)) (rank_is space x pairs)

-- ---- ranges

pub ranges_of : (space : Space) (pairs : List (ℕ × Part)) → ArePieces space (pieces_of_pairs space pairs) → AreOfRanges space pairs
ranges_of space pairs h = go 0 pairs h.rises h.each
  where
    go : (low : ℕ) (pairs : List (ℕ × Part)) → RisesFrom low (pieces_of_pairs space pairs) → AllPiecesOf space (pieces_of_pairs space pairs) → AreOfRanges space pairs
    go low [] h k = tt
    go low (p ∷ pairs) h k = ((h.1, k.0.within), go (p.1.last + 1) pairs h.2 k.1)

pub ranges_drop : (space : Space) (n : ℕ) (pairs : List (ℕ × Part)) → AreOfRanges space pairs → AreOfRanges space (drop n pairs)
ranges_drop space zero pairs h = h
ranges_drop space (suc n) [] h = tt
ranges_drop space (suc n) (p ∷ pairs) h = ranges_drop space n pairs h.1

pub range_last : (space : Space) (x : ℕ) (pairs : List (ℕ × Part)) (p : ℕ × Part) → AreOfRanges space pairs → last_at_most nat_cmp x pairs ≡ Some p
    → (p.0 ≤ p.1.last) × (p.1.last ≤ top_of space)
range_last space x [] p h e = absurd (cc e)
range_last space x (q ∷ pairs) p h e = elim (either (last_at_most nat_cmp x pairs) (is_le (nat_cmp q.0 x)) q e) [
  | inl later ↦ range_last space x pairs p h.1 later
  | inr here ↦ subst (λ (y : ℕ × Part). (y.0 ≤ y.1.last) × (y.1.last ≤ top_of space)) here h.0
]
  where
    either : (o : Option (ℕ × Part)) (b : Bool) (q : ℕ × Part) → option_or o (cond b (Some q) None) ≡ Some p → (o ≡ Some p) ⊎ (q ≡ p)
    either (Some y) b q e = inl e
    either None true q e = inr (cc e)
    either None false q e = absurd (cc e)

pub range_at : (space : Space) (i : ℕ) (pairs : List (ℕ × Part)) (p : ℕ × Part) → AreOfRanges space pairs → slice_get pairs i ≡ Some p
    → (p.0 ≤ p.1.last) × (p.1.last ≤ top_of space)
range_at space i [] p h e = absurd (cc e)
range_at space zero (q ∷ pairs) p h e = let same : q ≡ p = cc e in subst (λ (y : ℕ × Part). (y.0 ≤ y.1.last) × (y.1.last ≤ top_of space)) same h.0
range_at space (suc i) (q ∷ pairs) p h e = range_at space i pairs p h.1 e

-- ---- the order

less_than_all : (space : Space) (low x : ℕ) (pairs : List (ℕ × Part)) → RisesFrom low (pieces_of_pairs space pairs) → x < low
    → AllByRecursion (λ q. nat_cmp x q.0 ≡ Less) pairs
less_than_all space low x [] h l = tt
less_than_all space low x (q ∷ pairs) h l = (
  cond-true (nat_lt x q.0) Less (cond (x == q.0) Equal Greater) (lt-ltb x q.0 (omega (arith, h.0))),
  less_than_all space (q.1.last + 1) x pairs h.2 (omega (arith, h.0, h.1)),
)

pub rises_of : (space : Space) (low : ℕ) (pairs : List (ℕ × Part)) → RisesFrom low (pieces_of_pairs space pairs) → Rises nat_cmp pairs
rises_of space low [] h = tt
rises_of space low (p ∷ pairs) h = (less_than_all space (p.1.last + 1) p.0 pairs h.2 (omega (arith, h.1)), rises_of space (p.1.last + 1) pairs h.2)

-- ---- splices

pieces_again : (space : Space) (ps : List Piece) → AllByRecursion (λ p. p.range.space ≡ space) ps → pieces_of_pairs space (map pair_of_piece ps) ≡ ps
pieces_again space [] h = refl
pieces_again space (p ∷ ps) h =
    ap (λ (s : Space). piece_of_pair s (pair_of_piece p) ∷ pieces_of_pairs space (map pair_of_piece ps)) (sym h.0)
    ∙ ap (λ (xs : List Piece). p ∷ xs) (pieces_again space ps h.1)

pub splice_is : (space : Space) (at n : ℕ) (come : List Piece) (pairs : List (ℕ × Part)) → AllByRecursion (λ p. p.range.space ≡ space) come
    → pieces_of_pairs space (spliced at n (map pair_of_piece come) pairs) ≡ spliced at n come (pieces_of_pairs space pairs)
splice_is space at n come pairs h =
    let f : ℕ × Part → Piece = piece_of_pair space in
    map-append f (take at pairs) (map pair_of_piece come ++ drop (at + n) pairs)
    ∙ ap (λ (xs : List Piece). xs ++ map f (map pair_of_piece come ++ drop (at + n) pairs)) (sym (take-map f at pairs))
    ∙ ap (λ (xs : List Piece). take at (map f pairs) ++ xs)
    (map-append f (map pair_of_piece come) (drop (at + n) pairs)
    ∙ ap (λ (xs : List Piece). xs ++ map f (drop (at + n) pairs)) (pieces_again space come h)
    ∙ ap (λ (xs : List Piece). come ++ xs) (sym (drop-map f (at + n) pairs)))

-- ---- said of the pieces

pub found_none : (space : Space) (x : ℕ) (pairs : List (ℕ × Part)) (ps : List Piece) → pieces_of_pairs space pairs ≡ ps → last_at_most nat_cmp x pairs ≡ None
    → None ≡ last_begun x ps
found_none space x pairs ps is e =
    ap (λ (o : Option (ℕ × Part)). option_map (piece_of_pair space) o) (sym e) ∙ last_is space x pairs ∙ ap (λ (xs : List Piece). last_begun x xs) is

pub found_some : (space : Space) (x : ℕ) (pairs : List (ℕ × Part)) (ps : List Piece) (p : ℕ × Part) → pieces_of_pairs space pairs ≡ ps
    → last_at_most nat_cmp x pairs ≡ Some p → Some (piece_of_pair space p) ≡ last_begun x ps
found_some space x pairs ps p is e =
    ap (λ (o : Option (ℕ × Part)). option_map (piece_of_pair space) o) (sym e) ∙ last_is space x pairs ∙ ap (λ (xs : List Piece). last_begun x xs) is

pub next_none : (space : Space) (x : ℕ) (pairs : List (ℕ × Part)) (ps : List Piece) → pieces_of_pairs space pairs ≡ ps
    → slice_get pairs (rank nat_cmp x pairs) ≡ None → None ≡ slice_get ps (begun_below x ps)
next_none space x pairs ps is e =
    ap (λ (o : Option (ℕ × Part)). option_map (piece_of_pair space) o) (sym e) ∙ next_is space x pairs
    ∙ ap (λ (xs : List Piece). slice_get xs (begun_below x xs)) is

pub next_some : (space : Space) (x : ℕ) (pairs : List (ℕ × Part)) (ps : List Piece) (p : ℕ × Part) → pieces_of_pairs space pairs ≡ ps
    → slice_get pairs (rank nat_cmp x pairs) ≡ Some p → Some (piece_of_pair space p) ≡ slice_get ps (begun_below x ps)
next_some space x pairs ps p is e =
    ap (λ (o : Option (ℕ × Part)). option_map (piece_of_pair space) o) (sym e) ∙ next_is space x pairs
    ∙ ap (λ (xs : List Piece). slice_get xs (begun_below x xs)) is

-- the splice of the pairs is the exchange of the pieces
pub exchange_is : (space : Space) (pairs new : List (ℕ × Part)) (gone come : List Piece) (start n : ℕ)
    → start ≡ start_of come → n ≡ length gone → new ≡ map pair_of_piece come → AllPiecesOf space (exchanged gone come (pieces_of_pairs space pairs))
    → pieces_of_pairs space (spliced (rank nat_cmp start pairs) n new pairs) ≡ exchanged gone come (pieces_of_pairs space pairs)
exchange_is space pairs new gone come start n e f g h =
    let ps : List Piece = pieces_of_pairs space pairs in
    let at : ℕ = place_of come ps in
    let place : rank nat_cmp start pairs ≡ at = rank_is space start pairs ∙ ap (λ (x : ℕ). begun_below x ps) e in
    let spaces = spaces_of space come (drop (at + length gone) ps) (pieces_behind space (take at ps) (come ++ drop (at + length gone) ps) h) in
    ap (λ (k : ℕ). pieces_of_pairs space (spliced k n new pairs)) place
    ∙ ap (λ (k : ℕ). pieces_of_pairs space (spliced at k new pairs)) f
    ∙ ap (λ (xs : List (ℕ × Part)). pieces_of_pairs space (spliced at (length gone) xs pairs)) g
    ∙ splice_is space at (length gone) come pairs spaces

pub exchange_there : (space : Space) (pairs : List (ℕ × Part)) (gone come : List Piece) (start n : ℕ) → start ≡ start_of come → n ≡ length gone
    → place_of come (pieces_of_pairs space pairs) + length gone ≤ length (pieces_of_pairs space pairs) → rank nat_cmp start pairs + n ≤ length pairs
exchange_there space pairs gone come start n e f h =
    let place : rank nat_cmp start pairs ≡ place_of come (pieces_of_pairs space pairs) =
    rank_is space start pairs ∙ ap (λ (x : ℕ). begun_below x (pieces_of_pairs space pairs)) e in
    let long = length-map pairs (piece_of_pair space) in
    omega arith
