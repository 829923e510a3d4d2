-- How many numbers the ranges inside one have.
use Rattle.std.proofs.Common.{◌≡◌, ℕ, ◌+◌, ◌-◌, ◌^◌, ◌<◌, ◌≤◌, true, false, ◌&&◌, ◌||◌, ◌==◌, cond, nat_lt, nat_le, List, [], ◌∷◌, inl, inr, refl, sym, ◌∙◌, ap, arith}
use Rattle.std.proofs.lemmas.Bool.{and_parts, cases_Bool, cond-true, cond-false, eqb-true, leb-true, false_from_ne_true, false≢true}
use Rattle.std.proofs.lemmas.Bool.Decides.{nat_tests}
use Rattle.std.specs.List.{AllByRecursion}
use Rattle.num_range.specs.declared.space.Space.{Space}
use Rattle.num_range.specs.declared.space.Space.TheVariants.{Asn, Ipv4, Ipv6}
use Rattle.num_range.specs.Range.{PlainRange, IsRange, size_of}
use Rattle.num_range.specs.Space.{space_rank, top_of}
use Rattle.reg_entry.specs.Pieces.{IsPoolRange}
use Rattle.reg_entry.specs.Ranges.{AreApart, ranges_inside}
use Rattle.reg_entry.specs.Sums.{ranges_size}
use Rattle.sub_book.specs.Book.{ranges_meeting}
use Rattle.sub_book.proofs.ApartLists.{AllAbove, Apart, apart_of}
use Rattle.sub_book.proofs.Sought.{meets}
use Rattle.sub_book.proofs.Changed.{inside, inside_meets, one_inside, one_outside}

-- ---- of those that meet, those inside are all inside

inside_met : {V : Type 0} (r : PlainRange) (ps : List (PlainRange × V)) → Apart ps → ranges_inside (ranges_meeting ps r) r ≡ ranges_inside ps r
inside_met r [] apart = refl
inside_met {V} r (p ∷ ps) apart = elim (cases_Bool (meets r p.0)) [
  | inl t ↦
      ap (λ (xs : List (PlainRange × V)). ranges_inside xs r) (cond-true (meets r p.0) (p ∷ ranges_meeting ps r) (ranges_meeting ps r) t)
      ∙ ap (λ (xs : List (PlainRange × V)). cond (inside r p.0) (p ∷ xs) xs) (inside_met r ps apart.2)
  | inr f ↦
      ap (λ (xs : List (PlainRange × V)). ranges_inside xs r) (cond-false (meets r p.0) (p ∷ ranges_meeting ps r) (ranges_meeting ps r) f)
      ∙ inside_met r ps apart.2
      ∙ sym (one_outside r p ps (false_from_ne_true (inside r p.0) (λ t. false≢true (sym f ∙ inside_meets r p.0 apart.0 t))))
]

pub inside_met_of : {V : Type 0} (r : PlainRange) (ps met : List (PlainRange × V)) → AreApart ps → met ≡ ranges_meeting ps r → ranges_inside met r ≡ ranges_inside ps r
inside_met_of {V} r ps met h e = ap (λ (xs : List (PlainRange × V)). ranges_inside xs r) e ∙ inside_met r ps (apart_of ps h)

-- ---- numbers

behind_numbers : (a b s pl qf ql rf rl : ℕ) → a ≡ s → (nat_lt a b || ((a == b) && nat_lt pl qf)) ≡ true → ((b == s) && nat_le rf qf && nat_le ql rl) ≡ true → pl + 1 ≤ qf
behind_numbers a b s pl qf ql rf rl o h e = grind (arith, nat_tests)

-- those inside begin no lower than this
abbrev BeginFrom : {V : Type 0} → PlainRange → ℕ → List (PlainRange × V) → Type 0
BeginFrom r low ps = AllByRecursion (λ q. inside r q.0 ≡ true → low ≤ q.0.first) ps

bounds_numbers : (a s pf pl rf rl : ℕ) → ((a == s) && nat_le rf pf && nat_le pl rl) ≡ true → (a ≡ s) × (rf ≤ pf) × (pl ≤ rl)
bounds_numbers a s pf pl rf rl e =
    let parts = and_parts ((a == s) && nat_le rf pf) (nat_le pl rl) e in
    let front = and_parts (a == s) (nat_le rf pf) parts.0 in
    (eqb-true a s front.0, leb-true rf pf front.1, leb-true pl rl parts.1)

bounds : (r p : PlainRange) → inside r p ≡ true → (space_rank p.space ≡ space_rank r.space) × (r.first ≤ p.first) × (p.last ≤ r.last)
bounds r p e = bounds_numbers (space_rank p.space) (space_rank r.space) p.first p.last r.first r.last e

begin_behind : {V : Type 0} (r p : PlainRange) (ps : List (PlainRange × V)) → inside r p ≡ true → AllAbove p ps → BeginFrom r (p.last + 1) ps
begin_behind r p [] t above = tt
begin_behind r p (q ∷ ps) t above = (
  λ u. behind_numbers (space_rank p.space) (space_rank q.0.space) (space_rank r.space) p.last q.0.first q.0.last r.first r.last (bounds r p t).0 above.0 u,
  begin_behind r p ps t above.1,
)

begin_from : {V : Type 0} (r : PlainRange) (ps : List (PlainRange × V)) → BeginFrom r r.first ps
begin_from r [] = tt
begin_from r (p ∷ ps) = (λ t. (bounds r p.0 t).1, begin_from r ps)

sizes : {V : Type 0} (r : PlainRange) (low : ℕ) (ps : List (PlainRange × V)) → Apart ps → BeginFrom r low ps → ranges_size (ranges_inside ps r) ≤ (r.last + 1) - low
sizes r low [] apart from = omega arith
sizes {V} r low (p ∷ ps) apart from = elim (cases_Bool (inside r p.0)) [
  | inl t ↦
      let rest = sizes r (p.0.last + 1) ps apart.2 (begin_behind r p.0 ps t apart.1) in
      let within = bounds r p.0 t in
      let same = ap (λ (xs : List (PlainRange × V)). ranges_size xs) (one_inside r p ps t) in
      let begins = from.0 t in
      let ordered = apart.0.0 in
      let ends = within.2 in
      omega arith
  | inr f ↦
      let rest = sizes r low ps apart.2 from.1 in
      let same = ap (λ (xs : List (PlainRange × V)). ranges_size xs) (one_outside r p ps f) in
      omega arith
]

-- a range of the pool has fewer numbers than can be counted
small : (s : Space) (first last : ℕ) → last ≤ top_of s → (s ≡ Ipv6 → (2 ^ 125 ≤ first) × (last < 2 ^ 126)) → (last + 1) - first < 2 ^ 128
small Asn first last top pool = omega arith
small Ipv4 first last top pool = omega arith
small Ipv6 first last top pool = let bound = (pool refl).1 in omega arith

pub numbers_bound : {V : Type 0} (r : PlainRange) (ps : List (PlainRange × V)) → IsRange r → IsPoolRange r → AreApart ps → ranges_size (ranges_inside ps r) < 2 ^ 128
numbers_bound r ps range pool h =
    let most = sizes r r.first ps (apart_of ps h) (begin_from r ps) in
    let fits = small r.space r.first r.last range.1 pool in
    omega arith

pub record IsSummed {V : Type 0} (r : PlainRange) (ps left : List (PlainRange × V)) (numbers : ℕ) : Type 0 where
  pub all : numbers + ranges_size (ranges_inside left r) ≡ ranges_size (ranges_inside ps r)
  pub bound : ranges_size (ranges_inside ps r) < 2 ^ 128

pub none_summed : {V : Type 0} (r : PlainRange) (ps left : List (PlainRange × V)) → IsRange r → IsPoolRange r → AreApart ps → left ≡ ranges_meeting ps r → IsSummed r ps left 0
none_summed {V} r ps left range pool h e = record {
  all = let same = ap (λ (xs : List (PlainRange × V)). ranges_size xs) (inside_met_of r ps left h e) in omega arith;
  bound = numbers_bound r ps range pool h;
}

size_left : {V : Type 0} (r : PlainRange) (left rest : List (PlainRange × V)) (p : PlainRange × V) → left ≡ p ∷ rest → inside r p.0 ≡ true
    → ranges_size (ranges_inside left r) ≡ size_of p.0 + ranges_size (ranges_inside rest r)
size_left {V} r left rest p e t = ap (λ (xs : List (PlainRange × V)). ranges_size xs) (ap (λ (xs : List (PlainRange × V)). ranges_inside xs r) e ∙ one_inside r p rest t)

pub one_summed : {V : Type 0} (r : PlainRange) (ps left rest : List (PlainRange × V)) (p : PlainRange × V) (numbers : ℕ) → left ≡ p ∷ rest → inside r p.0 ≡ true
    → IsSummed r ps left numbers → IsSummed r ps rest (numbers + size_of p.0)
one_summed r ps left rest p numbers e t h =
    let one = size_left r left rest p e t in
    record { all = let was = h.all in omega arith; bound = h.bound }

pub one_skipped : {V : Type 0} (r : PlainRange) (ps left rest : List (PlainRange × V)) (p : PlainRange × V) (numbers : ℕ) → left ≡ p ∷ rest → inside r p.0 ≡ false
    → IsSummed r ps left numbers → IsSummed r ps rest numbers
one_skipped {V} r ps left rest p numbers e f h =
    let same = ap (λ (xs : List (PlainRange × V)). ranges_size xs) (ap (λ (xs : List (PlainRange × V)). ranges_inside xs r) e ∙ one_outside r p rest f) in
    record { all = let was = h.all in omega arith; bound = h.bound }

pub room_for_size : {V : Type 0} (r : PlainRange) (ps left rest : List (PlainRange × V)) (p : PlainRange × V) (numbers : ℕ) → left ≡ p ∷ rest → inside r p.0 ≡ true
    → IsSummed r ps left numbers → numbers + size_of p.0 < 2 ^ 128
room_for_size r ps left rest p numbers e t h =
    let one = size_left r left rest p e t in
    let was = h.all in
    let most = h.bound in
    omega arith

pub all_summed : {V : Type 0} (r : PlainRange) (ps left : List (PlainRange × V)) (numbers : ℕ) → left ≡ [] → IsSummed r ps left numbers
    → numbers ≡ ranges_size (ranges_inside ps r)
all_summed {V} r ps left numbers e h =
    let none = ap (λ (xs : List (PlainRange × V)). ranges_size xs) (ap (λ (xs : List (PlainRange × V)). ranges_inside xs r) e) in
    let was = h.all in
    omega arith
