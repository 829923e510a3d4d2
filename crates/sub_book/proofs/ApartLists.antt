-- Ranges apart: each lies below all that come after it.
use Rattle.std.proofs.Common.{◌≡◌, ℕ, ◌≤◌, Bool, true, ◌&&◌, ◌||◌, ◌==◌, nat_lt, List, [], ◌∷◌, filter, arith}
use Rattle.std.proofs.lemmas.Bool.{cond_both}
use Rattle.std.proofs.lemmas.Bool.Decides.{nat_tests}
use Rattle.std.specs.List.{AllByRecursion}
use Rattle.num_range.specs.Range.{PlainRange, IsRange}
use Rattle.num_range.specs.Space.{space_rank}
use Rattle.reg_entry.specs.Ranges.{IsBelow, AreApart}

-- the range lies below each of these
abbrev pub AllAbove : {V : Type 0} → PlainRange → List (PlainRange × V) → Type 0
AllAbove r ps = AllByRecursion (λ p. IsBelow r p.0) ps

abbrev pub Apart : {V : Type 0} → List (PlainRange × V) → Type 0
Apart [] = Unit {0}
Apart (p ∷ ps) = IsRange p.0 × AllAbove p.0 ps × Apart ps

through_numbers : (a b c pl qf ql sf : ℕ) → qf ≤ ql → (nat_lt a b || ((a == b) && nat_lt pl qf)) ≡ true → (nat_lt b c || ((b == c) && nat_lt ql sf)) ≡ true
    → (nat_lt a c || ((a == c) && nat_lt pl sf)) ≡ true
through_numbers a b c pl qf ql sf o h k = grind (arith, nat_tests)

pub below_through : (p q s : PlainRange) → IsRange q → IsBelow p q → IsBelow q s → IsBelow p s
below_through p q s range h k = through_numbers (space_rank p.space) (space_rank q.space) (space_rank s.space) p.last q.first q.last s.first range.0 h k

pub all_above : {V : Type 0} (p q : PlainRange) (ps : List (PlainRange × V)) → IsRange q → IsBelow p q → AllAbove q ps → AllAbove p ps
all_above p q [] range h k = tt
all_above p q (s ∷ ps) range h k = (below_through p q s.0 range h k.0, all_above p q ps range h k.1)

pub apart_of : {V : Type 0} (ps : List (PlainRange × V)) → AreApart ps → Apart ps
apart_of [] h = tt
apart_of (p ∷ []) h = (h, tt, tt)
apart_of (p ∷ q ∷ ps) h =
    let rest : Apart (q ∷ ps) = apart_of (q ∷ ps) h.2 in
    (h.0, (h.1, all_above p.0 q.0 ps rest.0 h.1 rest.1), rest)

pub are_apart : {V : Type 0} (ps : List (PlainRange × V)) → Apart ps → AreApart ps
are_apart [] h = tt
are_apart (p ∷ []) h = h.0
are_apart (p ∷ q ∷ ps) h = (h.0, h.1.0, are_apart (q ∷ ps) h.2)

all_kept : {X : Type 0} (P : X → Type 0) (test : X → Bool) (xs : List X) → AllByRecursion P xs → AllByRecursion P (filter test xs)
all_kept P test [] h = tt
all_kept P test (x ∷ xs) h =
    cond_both (test x) (x ∷ filter test xs) (filter test xs) (AllByRecursion P) (λ e. (h.0, all_kept P test xs h.1)) (λ e. all_kept P test xs h.1)

apart_kept : {V : Type 0} (test : PlainRange × V → Bool) (ps : List (PlainRange × V)) → Apart ps → Apart (filter test ps)
apart_kept test [] h = tt
apart_kept test (p ∷ ps) h =
    cond_both (test p) (p ∷ filter test ps) (filter test ps) Apart
    (λ e. (h.0, all_kept (λ q. IsBelow p.0 q.0) test ps h.1, apart_kept test ps h.2))
    (λ e. apart_kept test ps h.2)

pub are_apart_kept : {V : Type 0} (test : PlainRange × V → Bool) (ps : List (PlainRange × V)) → AreApart ps → AreApart (filter test ps)
are_apart_kept test ps h = are_apart (filter test ps) (apart_kept test ps (apart_of ps h))
