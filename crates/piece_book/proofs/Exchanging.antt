-- What an exchange of a run of pieces leaves as it was.
use Rattle.std.proofs.Common.{◌≡◌, ℕ, ◌+◌, ◌<◌, suc, zero, true, false, nat_lt, List, [], ◌∷◌, ◌++◌, length, get_or, take, drop, ◌⊎◌, inl, inr, refl, sym, ◌∙◌, ap, subst, arith, append_assoc, length-append, length-take, length-drop, Contains}
use Rattle.std.proofs.lemmas.Bool.{lt-ltb, le-ltb}
use Rattle.std.proofs.lemmas.List.{take_at, drop_at, append-nil}
use Rattle.std.specs.List.{AllByRecursion}
use Rattle.num_range.specs.declared.space.Space.{Space}
use Rattle.reg_entry.specs.declared.piece.Piece.{Piece}
use Rattle.reg_entry.specs.Pieces.{AllPiecesOf, RisesFrom}
use Rattle.reg_entry.proofs.Joining.{rises_from_lower}
use Rattle.piece_book.specs.Exchange.{begun_below, place_of, IsExchange}
use Rattle.piece_book.specs.Touched.{IsTouched}

-- ---- parts of a list that rises

pub rises_behind : (low : ℕ) (ps qs : List Piece) → RisesFrom low (ps ++ qs) → RisesFrom low qs
rises_behind low [] qs h = h
rises_behind low (p ∷ ps) qs h = rises_from_lower low (p.range.last + 1) qs (omega (arith, h.0, h.1)) (rises_behind (p.range.last + 1) ps qs h.2)

pub rises_before : (low : ℕ) (ps qs : List Piece) → RisesFrom low (ps ++ qs) → RisesFrom low ps
rises_before low [] qs h = tt
rises_before low (p ∷ ps) qs h = (h.0, h.1, rises_before (p.range.last + 1) ps qs h.2)

pub rises_between : (ps front run back : List Piece) → RisesFrom 0 ps → ps ≡ front ++ (run ++ back) → RisesFrom 0 run
rises_between ps front run back h e =
    rises_before 0 run back (rises_behind 0 front (run ++ back) (subst (λ (xs : List Piece). RisesFrom 0 xs) e h))

pub spaces_of : (space : Space) (front rest : List Piece) → AllPiecesOf space (front ++ rest) → AllByRecursion (λ p. p.range.space ≡ space) front
spaces_of space [] rest h = tt
spaces_of space (p ∷ front) rest h = (h.0.of_space, spaces_of space front rest h.1)

pub pieces_behind : (space : Space) (front rest : List Piece) → AllPiecesOf space (front ++ rest) → AllPiecesOf space rest
pieces_behind space [] rest h = h
pieces_behind space (p ∷ front) rest h = pieces_behind space front rest h.1

-- ---- the place of a run

begins_above : (value : ℕ) (ps : List Piece) → RisesFrom value ps → begun_below value ps ≡ 0
begins_above value [] h = refl
begins_above value (p ∷ ps) h = let t : nat_lt p.range.first value ≡ false = le-ltb p.range.first value h.0 in rw t refl

begun_front : (low : ℕ) (front rest qs : List Piece) (p : Piece) → RisesFrom low (front ++ p ∷ qs) → RisesFrom p.range.first rest
    → begun_below p.range.first (front ++ rest) ≡ length front
begun_front low [] rest qs p h k = begins_above p.range.first rest k
begun_front low (q ∷ front) rest qs p h k =
    let above = rises_behind (q.range.last + 1) front (p ∷ qs) h.2 in
    let t : nat_lt q.range.first p.range.first ≡ true = lt-ltb q.range.first p.range.first (omega (arith, h.1, above.0)) in
    let rest_count = begun_front (q.range.last + 1) front rest qs p h.2 k in
    rw t (omega arith)

pub exchange_of : (ps new front gone come back : List Piece) (p : Piece) → ps ≡ front ++ (gone ++ back) → new ≡ front ++ ((p ∷ come) ++ back)
    → RisesFrom 0 new → RisesFrom p.range.first (gone ++ back) → IsExchange gone (p ∷ come) ps new
exchange_of ps new front gone come back p was stands h k =
    let at : place_of (p ∷ come) ps ≡ length front =
    ap (λ (xs : List Piece). place_of (p ∷ come) xs) was
    ∙ begun_front 0 front (gone ++ back) (come ++ back) p (subst (λ (xs : List Piece). RisesFrom 0 xs) stands h) k in
    let front_long = length-append front (gone ++ back) in
    let gone_long = length-append gone back in
    let long = ap (λ (xs : List Piece). length xs) was in
    let past : length front + length gone ≡ length (front ++ gone) = sym (length-append front gone) in
    let behind : drop (length front + length gone) ps ≡ back =
    ap (λ (n : ℕ). drop n ps) past
    ∙ ap (λ (xs : List Piece). drop (length (front ++ gone)) xs) (was ∙ sym (append_assoc front gone back))
    ∙ drop_at (front ++ gone) back (length (front ++ gone)) refl in
    record {
      place = omega arith;
      pieces = ap (λ (n : ℕ). take n ps ++ ((p ∷ come) ++ drop (n + length gone) ps)) at
          ∙ ap (λ (xs : List Piece). take (length front) xs ++ ((p ∷ come) ++ drop (length front + length gone) ps)) was
          ∙ ap (λ (xs : List Piece). xs ++ ((p ∷ come) ++ drop (length front + length gone) ps)) (take_at front (gone ++ back) (length front) refl)
          ∙ ap (λ (xs : List Piece). front ++ ((p ∷ come) ++ xs)) behind
          ∙ sym stands;
    }

-- nothing goes and nothing comes
pub exchange_of_none : (ps : List Piece) → IsExchange [] [] ps ps
exchange_of_none ps =
    let at : place_of [] ps ≡ 0 = none_below ps in
    record {
      place = omega arith;
      pieces = ap (λ (n : ℕ). take n ps ++ drop (n + 0) ps) at;
    }
  where
    none_below : (ps : List Piece) → begun_below 0 ps ≡ 0
    none_below [] = refl
    none_below (p ∷ ps) = let t : nat_lt p.range.first 0 ≡ false = le-ltb p.range.first 0 (omega arith) in rw t refl

-- ---- what is touched

pub contains_cases : (y : Piece) (ys : List Piece) (x : Piece) → Contains (y ∷ ys) x → (y ≡ x) ⊎ Contains ys x
contains_cases y ys x h = go h.0 h.1 h.2
  where
    go : (k : ℕ) → k < length (y ∷ ys) → get_or (y ∷ ys) k x ≡ x → (y ≡ x) ⊎ Contains ys x
    go zero l e = inl e
    go (suc k) l e = inr (k, omega arith, e)

pub touched_of : (ps new front gone come back : List Piece) → ps ≡ front ++ (gone ++ back) → new ≡ front ++ (come ++ back)
    → RisesFrom 0 ps → RisesFrom 0 new → ((p : Piece) → Contains gone p → Contains come p → ⊥) → IsTouched ps new gone come
touched_of ps new front gone come back was stands h k apart = record {
  front = front;
  back = back;
  was = was;
  stands = stands;
  apart = apart;
  before_rises = rises_between ps front gone back h was;
  after_rises = rises_between new front come back k stands;
}

pub touches_nothing : (ps : List Piece) → IsTouched ps ps [] []
touches_nothing ps = record {
  front = ps;
  back = [];
  was = sym (append-nil ps);
  stands = sym (append-nil ps);
  apart = λ x h k. omega (arith, h.1);
  before_rises = tt;
  after_rises = tt;
}

-- ---- how many there are

pub exchange_count : (gone come ps new : List Piece) → IsExchange gone come ps new → length new + length gone ≡ length ps + length come
exchange_count gone come ps new h =
    let at : ℕ = place_of come ps in
    let same = ap (λ (xs : List Piece). length xs) h.pieces in
    let e1 = length-append (take at ps) (come ++ drop (at + length gone) ps) in
    let e2 = length-append come (drop (at + length gone) ps) in
    let e3 = length-take at ps in
    let e4 = length-drop (at + length gone) ps in
    omega (arith, h.place)
