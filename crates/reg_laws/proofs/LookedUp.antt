-- In a whole register the narrowest registration is found by two look-ups, as one sub at most is round a range, and one
-- piece.
use Rattle.std.proofs.Common.{◌≡◌, ℕ, ◌+◌, ◌<◌, ◌≤◌, Bool, true, false, cond, ◌&&◌, nat_le, inl, inr, List, [], ◌∷◌, ◌++◌, Option, None, Some, find, filter, map, option_to_list, refl, sym, ◌∙◌, ap, arith}
use Rattle.std.specs.List.{flat_map}
use Rattle.std.proofs.lemmas.Bool.{cases_Bool, cond-true, cond-false, and_parts, le-leb, leb-true, false≢true, false_from_ne_true}
use Rattle.std.proofs.lemmas.Option.{none-some, same_Some}
use Rattle.num_range.specs.Range.{PlainRange, IsRange, size_of}
use Rattle.reg_entry.specs.declared.card.Status.TheVariants.{Allocated}
use Rattle.reg_entry.specs.declared.piece.Piece.{Piece}
use Rattle.reg_entry.specs.declared.sub_card.SubCard.{SubCard}
use Rattle.reg_entry.specs.declared.found.Found.{Found}
use Rattle.reg_entry.specs.declared.found.Found.TheVariants.{Piece as ThePiece, Sub}
use Rattle.reg_entry.specs.Card.{is_delegated}
use Rattle.reg_entry.specs.Covers.{first_number}
use Rattle.reg_entry.specs.Pieces.{piece_holds, piece_at, RisesFrom}
use Rattle.reg_entry.specs.Partition.{pieces_in}
use Rattle.reg_entry.specs.Ranges.{same_space, lies_inside}
use Rattle.reg_entry.specs.Register.{Register, register_pieces, piece_of}
use Rattle.reg_entry.specs.Sums.{found_sub, least_found, narrowest}
use Rattle.reg_entry.specs.Whole.{piece_round, HasRange, IsSubIn, IsWholeRegister}
use Rattle.reg_entry.proofs.Holding.{holds_true, holds_from, not_held_below, not_held_above, piece_at-first, piece_at-rest}
use Rattle.reg_laws.proofs.Sameness.{same_space-true}
use Rattle.reg_laws.proofs.PieceCounts.{above_low}
use Rattle.reg_laws.proofs.RangeLists.{AllOf, all_and, ranges_of_apart}
use Rattle.reg_laws.proofs.WholeLists.{some_and, subs_of_each}
use Rattle.reg_laws.proofs.Enclosing.{found_of, one_encloses}
use Rattle.reg_laws.specs.Narrowest.{looked_up}

-- ---- one piece

-- the piece, where it passes the test
abbrev kept : (Piece → Bool) → Option Piece → List Piece
kept test None = []
kept test (Some p) = cond (test p) (p ∷ []) []

-- pieces above the number pass no test that asks for it
none_above : (low : ℕ) (test : Piece → Bool) (x : ℕ) (ps : List Piece) → ((p : Piece) → test p ≡ true → piece_holds p x ≡ true)
    → RisesFrom low ps → x < low → filter test ps ≡ []
none_above low test x [] asks rises h = refl
none_above low test x (p ∷ ps) asks rises h =
    cond-false (test p) (p ∷ filter test ps) (filter test ps)
    (false_from_ne_true (test p) (λ t. false≢true (sym (not_held_below p x (omega arith)) ∙ asks p t)))
    ∙ none_above (p.range.last + 1) test x ps asks rises.2 (omega arith)

-- of pieces one alone passes a test that asks for a number, or none does
one_kept : (low : ℕ) (test : Piece → Bool) (x : ℕ) (ps : List Piece) → ((p : Piece) → test p ≡ true → piece_holds p x ≡ true)
    → RisesFrom low ps → filter test ps ≡ kept test (piece_at ps x)
one_kept low test x [] asks rises = refl
one_kept low test x (p ∷ ps) asks rises =
    elim (cases_Bool (piece_holds p x)) [
      | inl t ↦
          let inside = holds_true p x t in
          ap (λ qs. cond (test p) (p ∷ qs) qs) (none_above (p.range.last + 1) test x ps asks rises.2 (omega arith))
          ∙ sym (ap (kept test) (piece_at-first p ps x t))
      | inr f ↦
          cond-false (test p) (p ∷ filter test ps) (filter test ps) (false_from_ne_true (test p) (λ t. false≢true (sym f ∙ asks p t)))
          ∙ one_kept (p.range.last + 1) test x ps asks rises.2
          ∙ sym (ap (kept test) (piece_at-rest p ps x f))
    ]

-- the piece that holds one number is found of each number that it holds
found_again : (low : ℕ) (ps : List Piece) (x y : ℕ) (p : Piece) → RisesFrom low ps → piece_at ps x ≡ Some p → piece_holds p y ≡ true
    → piece_at ps y ≡ Some p
found_again low [] x y p rises e h = absurd (none-some p e)
found_again low (q ∷ qs) x y p rises e h =
    elim (cases_Bool (piece_holds q x)) [
      | inl t ↦
          let same : q ≡ p = same_Some q p (sym (piece_at-first q qs x t) ∙ e) in
          piece_at-first q qs y (ap (λ z. piece_holds z y) same ∙ h) ∙ ap (λ z. Some z) same
      | inr f ↦
          let rest : piece_at qs x ≡ Some p = sym (piece_at-rest q qs x f) ∙ e in
          let above : q.range.last + 1 ≤ p.range.first = above_low (q.range.last + 1) qs x p rises.2 rest in
          let inside = holds_true p y h in
          piece_at-rest q qs y (not_held_above q y (omega arith)) ∙ found_again (q.range.last + 1) qs x y p rises.2 rest h
    ]

-- ---- the tests ask for the range's first number

record AreInside (r s : PlainRange) : Type 0 where
  space : r.space ≡ s.space
  first : s.first ≤ r.first
  last : r.last ≤ s.last

inside_parts : (r s : PlainRange) → lies_inside r s ≡ true → AreInside r s
inside_parts r s e =
    let a = and_parts (same_space r.space s.space && nat_le s.first r.first) (nat_le r.last s.last) e in
    let b = and_parts (same_space r.space s.space) (nat_le s.first r.first) a.0 in
    record { space = same_space-true r.space s.space b.0; first = leb-true s.first r.first b.1; last = leb-true r.last s.last a.1 }

inside_holds : (r : PlainRange) (p : Piece) → r.first ≤ r.last → lies_inside r p.range ≡ true → piece_holds p r.first ≡ true
inside_holds r p order e =
    let i = inside_parts r p.range e in
    let last : r.last ≤ p.range.last = i.last in
    holds_from p r.first i.first (omega arith)

abbrev is_round : PlainRange → Piece → Bool
is_round range p = is_delegated p.card.status && lies_inside range p.range

abbrev has_all : PlainRange → Piece → Bool
has_all range p = lies_inside range p.range

pieces_round : (r : Register) (range : PlainRange) → IsWholeRegister r → IsRange range
    → filter (is_round range) (register_pieces r range.space) ≡ kept (is_round range) (piece_of r.pool (first_number range))
pieces_round r range h valid =
    one_kept 0 (is_round range) range.first (register_pieces r range.space)
    (λ p t. inside_holds range p valid.0 (and_parts (is_delegated p.card.status) (lies_inside range p.range) t).1)
    (h.pieces.each range.space).rises

parents : (r : Register) (s : PlainRange) → IsWholeRegister r → IsRange s
    → filter (has_all s) (register_pieces r s.space) ≡ kept (has_all s) (piece_of r.pool (first_number s))
parents r s h valid =
    one_kept 0 (has_all s) s.first (register_pieces r s.space) (λ p t. inside_holds s p valid.0 t) (h.pieces.each s.space).rises

-- ---- a piece alone

piece_alone : (range : PlainRange) (o : Option Piece) → least_found (map (λ p. ThePiece p) (kept (is_round range) o)) ≡ looked_up range None o
piece_alone range None = refl
piece_alone range (Some p) = of_test (is_round range p) p
  where
    of_test : (b : Bool) (p : Piece) → least_found (map (λ q. ThePiece q) (cond b (p ∷ []) [])) ≡ cond b (Some (ThePiece p)) None
    of_test true p = refl
    of_test false p = refl

-- ---- a sub in its piece

-- the sub comes first, and is no larger than the piece that it lies in
sub_first : (s : PlainRange) (card : SubCard) (p : Piece) (b : Bool) → size_of s ≤ size_of p.range
    → least_found (Sub s card p.range ∷ map (λ q. ThePiece q) (cond b (p ∷ []) [])) ≡ Some (Sub s card p.range)
sub_first s card p true h =
    cond-true (nat_le (size_of s) (size_of p.range)) (Some (Sub s card p.range)) (Some (ThePiece p)) (le-leb (size_of s) (size_of p.range) h)
sub_first s card p false h = refl

no_larger : (s t : PlainRange) → lies_inside s t ≡ true → size_of s ≤ size_of t
no_larger s t e =
    let i = inside_parts s t e in
    let first : t.first ≤ s.first = i.first in
    let last : s.last ≤ t.last = i.last in
    omega arith

-- the piece that holds a sub's first number holds that of a range inside the sub
piece_of_both : (r : Register) (range s : PlainRange) (p : Piece) → IsWholeRegister r → IsRange range → lies_inside range s ≡ true
    → piece_of r.pool (first_number s) ≡ Some p → lies_inside s p.range ≡ true → piece_of r.pool (first_number range) ≡ Some p
piece_of_both r range s p h valid inner found outer =
    let i = inside_parts range s inner in
    let j = inside_parts s p.range outer in
    let a : s.first ≤ range.first = i.first in
    let b : range.last ≤ s.last = i.last in
    let c : p.range.first ≤ s.first = j.first in
    let d : s.last ≤ p.range.last = j.last in
    let order : range.first ≤ range.last = valid.0 in
    ap (λ space. piece_at (pieces_in r.pool space) range.first) i.space
    ∙ found_again 0 (pieces_in r.pool s.space) s.first range.first p (h.pieces.each s.space).rises found
    (holds_from p range.first (omega arith) (omega arith))

-- ---- both look-ups

abbrev found_pieces : Register → PlainRange → List Found
found_pieces r range = map (λ p. ThePiece p) (filter (is_round range) (register_pieces r range.space))

by_sub : (r : Register) (range : PlainRange) (o : Option (PlainRange × SubCard)) → IsWholeRegister r → IsRange range
    → find (λ s. lies_inside range s.0) r.subs ≡ o → narrowest r range ≡ looked_up range o (piece_of r.pool (first_number range))
by_sub r range None h valid e =
    ap (λ (ss : List (PlainRange × SubCard)). least_found (flat_map (found_sub r) ss ++ found_pieces r range))
    (one_encloses range r.subs valid h.subs_apart ∙ ap (λ (o : Option (PlainRange × SubCard)). option_to_list o) e)
    ∙ ap (λ ps. least_found (map (λ p. ThePiece p) ps)) (pieces_round r range h valid)
    ∙ piece_alone range (piece_of r.pool (first_number range))
by_sub r range (Some s) h valid e =
    let all : AllOf (λ t. IsRange t.0 × IsSubIn r t) r.subs =
    all_and (λ t. IsRange t.0) (IsSubIn r) r.subs (ranges_of_apart r.subs h.subs_apart) (subs_of_each r r.subs h.subs) in
    let found = found_of (λ t. IsRange t.0 × IsSubIn r t) (λ t. lies_inside range t.0) r.subs s all e in
    let around = some_and (piece_round r s.0) (λ p. HasRange s.0 p × (p.card.status ≡ Allocated)) found.1.1.inside in
    let p : Piece = around.0 in
    let outer : lies_inside s.0 p.range ≡ true = around.2.0 in
    let holds : piece_of r.pool (first_number range) ≡ Some p = piece_of_both r range s.0 p h valid found.0 around.1 outer in
    let parent : filter (has_all s.0) (register_pieces r s.0.space) ≡ p ∷ [] =
    parents r s.0 h found.1.0 ∙ ap (kept (has_all s.0)) around.1 ∙ cond-true (lies_inside s.0 p.range) (p ∷ []) [] outer in
    ap (λ (ss : List (PlainRange × SubCard)). least_found (flat_map (found_sub r) ss ++ found_pieces r range))
    (one_encloses range r.subs valid h.subs_apart ∙ ap (λ (o : Option (PlainRange × SubCard)). option_to_list o) e)
    ∙ ap (λ ps. least_found ((map (λ q. Sub s.0 s.1 q.range) ps ++ []) ++ found_pieces r range)) parent
    ∙ ap (λ ps. least_found (Sub s.0 s.1 p.range ∷ map (λ q. ThePiece q) ps)) (pieces_round r range h valid ∙ ap (kept (is_round range)) holds)
    ∙ sub_first s.0 s.1 p (is_round range p) (no_larger s.0 p.range outer)
    ∙ sym (ap (looked_up range (Some s)) holds)

pub narrowest_looked_up : (r : Register) (range : PlainRange) → IsWholeRegister r → IsRange range
    → narrowest r range ≡ looked_up range (find (λ s. lies_inside range s.0) r.subs) (piece_of r.pool (first_number range))
narrowest_looked_up r range h valid = by_sub r range (find (λ s. lies_inside range s.0) r.subs) h valid refl
