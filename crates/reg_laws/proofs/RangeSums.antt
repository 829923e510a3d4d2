-- How many numbers those ranges of a list have that pass a test, and how a change of the list or of the test changes that.
use Rattle.std.proofs.Common.{◌≡◌, ℕ, ◌+◌, ◌-◌, ◌<◌, ◌≤◌, Bool, true, false, cond, not, ◌&&◌, ◌||◌, nat_le, inl, inr, List, [], ◌∷◌, Option, None, Some, filter, find, refl, sym, ◌∙◌, ap, subst, arith}
use Rattle.std.specs.Option.{is_some}
use Rattle.std.proofs.lemmas.Bool.{cond_both, cond-true, cond-false, cases_Bool, both_ways, and_parts, leb-true, not_from_true, not_from_false}
use Rattle.num_range.specs.Range.{PlainRange, size_of}
use Rattle.reg_entry.specs.declared.piece.Piece.{Piece}
use Rattle.reg_entry.specs.Pieces.{size_sum}
use Rattle.reg_entry.specs.Ranges.{space_rank, same_space, same_range, range_before, lies_inside, IsBelow, value_of_range, with_range, without_range, AreApart}
use Rattle.reg_entry.specs.Sums.{ranges_size, lies_in_one}
use Rattle.reg_laws.proofs.Sameness.{same_space-true, same_range-true}
use Rattle.reg_laws.proofs.Accepting.{map_none}
use Rattle.reg_laws.proofs.RangeLists.{AllOf, NoneIs, none_found, below_cases, RisesAfter, apart_parts, apart_rest, rises_from_before, has_value_rest, below_found}
use Rattle.reg_laws.proofs.Shares.{share}

-- how many numbers the ranges have that pass
abbrev pub range_sum : {T : Type 0} → (PlainRange → Bool) → List (PlainRange × T) → ℕ
range_sum test [] = 0
range_sum test (s ∷ ss) = share (test s.0) (size_of s.0) + range_sum test ss

first_kept : {T : Type 0} (b : Bool) (s : PlainRange × T) (ss : List (PlainRange × T)) → ranges_size (cond b (s ∷ ss) ss) ≡ share b (size_of s.0) + ranges_size ss
first_kept true s ss = refl
first_kept false s ss = omega arith

pub range_sum-filter : {T : Type 0} (test : PlainRange → Bool) (ss : List (PlainRange × T)) → ranges_size (filter (λ s. test s.0) ss) ≡ range_sum test ss
range_sum-filter test [] = refl
range_sum-filter test (s ∷ ss) =
    first_kept (test s.0) s (filter (λ x. test x.0) ss) ∙ ap (λ n. share (test s.0) (size_of s.0) + n) (range_sum-filter test ss)

-- ---- another test

pub range_sum-same : {T : Type 0} (one two : PlainRange → Bool) (ss : List (PlainRange × T)) → AllOf (λ s. one s.0 ≡ two s.0) ss
    → range_sum one ss ≡ range_sum two ss
range_sum-same one two [] h = refl
range_sum-same one two (s ∷ ss) h =
    ap (λ b. share b (size_of s.0) + range_sum one ss) h.0 ∙ ap (λ n. share (two s.0) (size_of s.0) + n) (range_sum-same one two ss h.1)

-- outside the tests agree, and inside the first is a where the second is b
pub record IsMoved (inside one two a b : Bool) : Type 0 where
  pub outside : inside ≡ false → one ≡ two
  pub new : inside ≡ true → one ≡ a
  pub old : inside ≡ true → two ≡ b

moved_inside : (a b : Bool) (n o t k : ℕ) → o + share b k ≡ t + share a k → share a n + o + share b (n + k) ≡ share b n + t + share a (n + k)
moved_inside true true n o t k e = omega arith
moved_inside true false n o t k e = omega arith
moved_inside false true n o t k e = omega arith
moved_inside false false n o t k e = omega arith

moved_outside : (x a b : Bool) (n o t k : ℕ) → o + share b k ≡ t + share a k → share x n + o + share b (0 + k) ≡ share x n + t + share a (0 + k)
moved_outside x true true n o t k e = omega arith
moved_outside x true false n o t k e = omega arith
moved_outside x false true n o t k e = omega arith
moved_outside x false false n o t k e = omega arith

one_moved : (i x y a b : Bool) (n o t k : ℕ) → IsMoved i x y a b → o + share b k ≡ t + share a k
    → share x n + o + share b (share i n + k) ≡ share y n + t + share a (share i n + k)
one_moved true x y a b n o t k h e =
    subst (λ u. share u n + o + share b (n + k) ≡ share y n + t + share a (n + k)) (sym (h.new refl))
    (subst (λ u. share a n + o + share b (n + k) ≡ share u n + t + share a (n + k)) (sym (h.old refl)) (moved_inside a b n o t k e))
one_moved false x y a b n o t k h e =
    subst (λ u. share x n + o + share b (0 + k) ≡ share u n + t + share a (0 + k)) (h.outside refl) (moved_outside x a b n o t k e)

-- the numbers inside go from those that the second test gives to those that the first gives
pub range_sum-moved : {T : Type 0} (inside one two : PlainRange → Bool) (a b : Bool) (ss : List (PlainRange × T))
    → AllOf (λ s. IsMoved (inside s.0) (one s.0) (two s.0) a b) ss
    → range_sum one ss + share b (range_sum inside ss) ≡ range_sum two ss + share a (range_sum inside ss)
range_sum-moved inside one two a b [] h = nothing a b
  where
    nothing : (a b : Bool) → 0 + share b 0 ≡ 0 + share a 0
    nothing true true = refl
    nothing true false = refl
    nothing false true = refl
    nothing false false = refl
range_sum-moved inside one two a b (s ∷ ss) h =
    one_moved (inside s.0) (one s.0) (two s.0) a b (size_of s.0) (range_sum one ss) (range_sum two ss) (range_sum inside ss) h.0
    (range_sum-moved inside one two a b ss h.1)

one_part : (i x y a b : Bool) (n t k : ℕ) → IsMoved i x y a b → share b k ≤ t → share b (share i n + k) ≤ share y n + t
one_part true x y a b n t k h e = subst (λ u. share b (n + k) ≤ share u n + t) (sym (h.old refl)) (inside b n t k e)
  where
    inside : (b : Bool) (n t k : ℕ) → share b k ≤ t → share b (n + k) ≤ share b n + t
    inside true n t k e = omega arith
    inside false n t k e = omega arith
one_part false x y a b n t k h e = outside b (share y n) t k e
  where
    outside : (b : Bool) (m t k : ℕ) → share b k ≤ t → share b (0 + k) ≤ m + t
    outside true m t k e = omega arith
    outside false m t k e = omega arith

-- what is taken is there
pub range_sum-part : {T : Type 0} (inside one two : PlainRange → Bool) (a b : Bool) (ss : List (PlainRange × T))
    → AllOf (λ s. IsMoved (inside s.0) (one s.0) (two s.0) a b) ss → share b (range_sum inside ss) ≤ range_sum two ss
range_sum-part inside one two a b [] h = nothing b
  where
    nothing : (b : Bool) → share b 0 ≤ 0
    nothing true = omega arith
    nothing false = omega arith
range_sum-part inside one two a b (s ∷ ss) h =
    one_part (inside s.0) (one s.0) (two s.0) a b (size_of s.0) (range_sum two ss) (range_sum inside ss) h.0 (range_sum-part inside one two a b ss h.1)

-- ---- one range more, and one less

pub range_sum-with : {T : Type 0} (test : PlainRange → Bool) (ss : List (PlainRange × T)) (r : PlainRange) (x : T) → NoneIs (λ s. same_range s.0 r) ss
    → range_sum test (with_range ss r x) ≡ range_sum test ss + share (test r) (size_of r)
range_sum-with test [] r x none = omega arith
range_sum-with test (s ∷ ss) r x none =
    let new : ℕ = share (test r) (size_of r) in
    let old : ℕ = share (test s.0) (size_of s.0) in
    let rest : range_sum test (with_range ss r x) ≡ range_sum test ss + new = range_sum-with test ss r x none.1 in
    cond_both (same_range s.0 r) ((r, x) ∷ ss) (cond (range_before r s.0) ((r, x) ∷ s ∷ ss) (s ∷ with_range ss r x))
    (λ xs. range_sum test xs ≡ old + range_sum test ss + new)
    (λ e. absurd (both_ways (same_range s.0 r) none.0 e))
    (λ e.
    cond_both (range_before r s.0) ((r, x) ∷ s ∷ ss) (s ∷ with_range ss r x) (λ xs. range_sum test xs ≡ old + range_sum test ss + new)
    (λ b. before new old (range_sum test ss))
    (λ b. behind (range_sum test (with_range ss r x)) new old (range_sum test ss) rest))
  where
    before : (new old n : ℕ) → new + (old + n) ≡ old + n + new
    before new old n = omega arith

    behind : (m new old n : ℕ) → m ≡ n + new → old + m ≡ old + n + new
    behind m new old n e = omega arith

range_sum-kept : {T : Type 0} (test : PlainRange → Bool) (drop : PlainRange × T → Bool) (ss : List (PlainRange × T)) → NoneIs drop ss
    → range_sum test (filter (λ s. not (drop s)) ss) ≡ range_sum test ss
range_sum-kept test drop [] none = refl
range_sum-kept test drop (s ∷ ss) none =
    let rest = filter (λ x. not (drop x)) ss in
    ap (range_sum test) (cond-true (not (drop s)) (s ∷ rest) rest (not_from_false (drop s) none.0))
    ∙ ap (λ n. share (test s.0) (size_of s.0) + n) (range_sum-kept test drop ss none.1)

none_if_not_some : {A : Type 0} (o : Option A) → (is_some o ≡ true → ⊥) → o ≡ None
none_if_not_some None h = refl
none_if_not_some (Some a) h = absurd (h refl)

not_below_itself : (r : PlainRange) → r.first ≤ r.last → IsBelow r r → ⊥
not_below_itself r order h = elim (below_cases r r h) [ inl lt ↦ omega arith | inr eq ↦ let lt = eq.1 in omega arith ]

-- no range behind this one is this one
none_again : {T : Type 0} (ss : List (PlainRange × T)) (r : PlainRange) → r.first ≤ r.last → RisesAfter r ss → NoneIs (λ s. same_range s.0 r) ss
none_again ss r order h =
    none_found (λ s. same_range s.0 r) ss
    (map_none (λ p. p.1) (find (λ s. same_range s.0 r) ss) (none_if_not_some (value_of_range ss r) (λ e. not_below_itself r order (below_found r ss r h e))))

pub range_sum-without : {T : Type 0} (test : PlainRange → Bool) (ss : List (PlainRange × T)) (r : PlainRange) → AreApart ss
    → is_some (value_of_range ss r) ≡ true → range_sum test (without_range ss r) + share (test r) (size_of r) ≡ range_sum test ss
range_sum-without test [] r h e = absurd (both_ways false refl e)
range_sum-without test (s ∷ ss) r h e =
    let parts = apart_parts s ss h in
    let rest = without_range ss r in
    let new : ℕ = share (test r) (size_of r) in
    let old : ℕ = share (test s.0) (size_of s.0) in
    elim (cases_Bool (same_range s.0 r)) [
      | inl t ↦
          let same : s.0 ≡ r = same_range-true s.0 r t in
          let order : r.first ≤ r.last = subst (λ q. q.first ≤ q.last) same parts.0.0 in
          let kept : range_sum test rest ≡ range_sum test ss =
          range_sum-kept test (λ x. same_range x.0 r) ss (none_again ss r order (subst (λ q. RisesAfter q ss) same parts.1)) in
          ap (λ xs. range_sum test xs + new) (cond-false (not (same_range s.0 r)) (s ∷ rest) rest (not_from_true (same_range s.0 r) t))
          ∙ this_one (range_sum test rest) (range_sum test ss) new old kept (ap (λ q. share (test q) (size_of q)) same)
      | inr f ↦
          ap (λ xs. range_sum test xs + new) (cond-true (not (same_range s.0 r)) (s ∷ rest) rest (not_from_false (same_range s.0 r) f))
          ∙ later (range_sum test rest) (range_sum test ss) new old (range_sum-without test ss r (apart_rest s ss h) (has_value_rest s ss r f e))
    ]
  where
    this_one : (m n new old : ℕ) → m ≡ n → old ≡ new → m + new ≡ old + n
    this_one m n new old e f = omega arith

    later : (m n new old : ℕ) → m + new ≡ n → old + m + new ≡ old + n
    later m n new old e = omega arith

-- ---- ranges inside others

pub record IsWithin (s t : PlainRange) : Type 0 where
  pub one_space : s.space ≡ t.space
  pub begins : t.first ≤ s.first
  pub ends : s.last ≤ t.last

pub within_of : (s t : PlainRange) → lies_inside s t ≡ true → IsWithin s t
within_of s t e =
    let outer = and_parts (same_space s.space t.space && nat_le t.first s.first) (nat_le s.last t.last) e in
    let inner = and_parts (same_space s.space t.space) (nat_le t.first s.first) outer.0 in
    record { one_space = same_space-true s.space t.space inner.0; begins = leb-true t.first s.first inner.1; ends = leb-true s.last t.last outer.1 }

-- those behind one that lies inside have no more numbers than there are behind it
inside_behind : {T : Type 0} (q t : PlainRange) (ss : List (PlainRange × T)) → lies_inside q t ≡ true → RisesAfter q ss
    → range_sum (λ s. lies_inside s t) ss + q.last ≤ t.last
inside_behind q t [] e h = let l = (within_of q t e).ends in omega arith
inside_behind q t (s ∷ ss) e h =
    let inside : Bool = lies_inside s.0 t in
    let sum : ℕ = range_sum (λ x. lies_inside x t) ss in
    elim (cases_Bool inside) [
      | inl u ↦
          let rest : sum + s.0.last ≤ t.last = inside_behind s.0 t ss u h.2 in
          let above : q.last < s.0.first = elim (below_cases q s.0 h.0) [
            | inl lt ↦ absurd (let same : space_rank q.space ≡ space_rank s.0.space = ap space_rank ((within_of q t e).one_space ∙ sym (within_of s.0 t u).one_space) in omega arith)
            | inr eq ↦ eq.1
          ] in
          let order : s.0.first ≤ s.0.last = h.1.0 in
          subst (λ b. share b (size_of s.0) + sum + q.last ≤ t.last) (sym u) (counted s.0.first s.0.last q.last t.last sum rest above order)
      | inr f ↦
          let rest : sum + q.last ≤ t.last = inside_behind q t ss e (rises_from_before q s.0 ss h.0 h.1 h.2) in
          subst (λ b. share b (size_of s.0) + sum + q.last ≤ t.last) (sym f) (left_out sum q.last t.last rest)
    ]
  where
    counted : (first last low top n : ℕ) → n + last ≤ top → low < first → first ≤ last → last - first + 1 + n + low ≤ top
    counted first last low top n e f g = omega arith

    left_out : (n low top : ℕ) → n + low ≤ top → 0 + n + low ≤ top
    left_out n low top e = omega arith

-- ranges apart that lie inside one have no more numbers than it
inside_one_range : {T : Type 0} (t : PlainRange) (ss : List (PlainRange × T)) → AreApart ss → range_sum (λ s. lies_inside s t) ss ≤ size_of t
inside_one_range t [] h = omega arith
inside_one_range t (s ∷ ss) h =
    let parts = apart_parts s ss h in
    let inside : Bool = lies_inside s.0 t in
    let sum : ℕ = range_sum (λ x. lies_inside x t) ss in
    elim (cases_Bool inside) [
      | inl u ↦
          let rest : sum + s.0.last ≤ t.last = inside_behind s.0 t ss u parts.1 in
          let begins : t.first ≤ s.0.first = (within_of s.0 t u).begins in
          let order : s.0.first ≤ s.0.last = parts.0.0 in
          subst (λ b. share b (size_of s.0) + sum ≤ size_of t) (sym u) (counted s.0.first s.0.last t.first t.last sum rest begins order)
      | inr f ↦
          subst (λ b. share b (size_of s.0) + sum ≤ size_of t) (sym f) (left_out sum (size_of t) (inside_one_range t ss (apart_rest s ss h)))
    ]
  where
    counted : (first last low top n : ℕ) → n + last ≤ top → low ≤ first → first ≤ last → last - first + 1 + n ≤ top - low + 1
    counted first last low top n e f g = omega arith

    left_out : (n k : ℕ) → n ≤ k → 0 + n ≤ k
    left_out n k e = omega arith

sum_of_none : {T : Type 0} (ss : List (PlainRange × T)) → range_sum (λ s. false) ss ≤ 0
sum_of_none [] = omega arith
sum_of_none (s ∷ ss) = let rest = sum_of_none ss in omega arith

sum_of_either : {T : Type 0} (one two : PlainRange → Bool) (ss : List (PlainRange × T))
    → range_sum (λ s. one s || two s) ss ≤ range_sum one ss + range_sum two ss
sum_of_either one two [] = omega arith
sum_of_either one two (s ∷ ss) =
    each (one s.0) (two s.0) (size_of s.0) (range_sum (λ x. one x || two x) ss) (range_sum one ss) (range_sum two ss) (sum_of_either one two ss)
  where
    each : (a b : Bool) (n e o t : ℕ) → e ≤ o + t → share (a || b) n + e ≤ (share a n + o) + (share b n + t)
    each true true n e o t h = omega arith
    each true false n e o t h = omega arith
    each false true n e o t h = omega arith
    each false false n e o t h = omega arith

-- ranges apart that lie in some of the pieces have no more numbers than the pieces
pub sum_in_pieces : {T : Type 0} (ps : List Piece) (ss : List (PlainRange × T)) → AreApart ss → range_sum (lies_in_one ps) ss ≤ size_sum ps
sum_in_pieces [] ss h = sum_of_none ss
sum_in_pieces (p ∷ ps) ss h =
    added (range_sum (lies_in_one (p ∷ ps)) ss) (range_sum (λ s. lies_inside s p.range) ss) (range_sum (lies_in_one ps) ss) (size_of p.range) (size_sum ps)
    (sum_of_either (λ s. lies_inside s p.range) (lies_in_one ps) ss) (inside_one_range p.range ss h) (sum_in_pieces ps ss h)
  where
    added : (a b c m n : ℕ) → a ≤ b + c → b ≤ m → c ≤ n → a ≤ m + n
    added a b c m n e f g = omega arith
