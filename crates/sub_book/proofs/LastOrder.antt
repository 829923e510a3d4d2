-- The order of the directory's keys is that of the last numbers, and ranges apart rise in it.
use denote.Enum.Bare.{sameb}
use Rattle.std.proofs.Common.{◌≡◌, ℕ, ◌+◌, ◌≤◌, Bool, true, false, ◌&&◌, ◌||◌, ◌==◌, cond, nat_lt, List, [], ◌∷◌, refl, sym, ◌∙◌, ap, subst, arith}
use Rattle.std.proofs.lemmas.Bool.Decides.{nat_tests}
use Rattle.std.specs.declared.cmp.Ordering.{Ordering}
use Rattle.std.specs.declared.cmp.Ordering.TheVariants.{Less}
use Rattle.std.specs.List.{AllByRecursion}
use Rattle.std.specs.Ordering.{is_lt, nat_cmp, ordering_then}
use Rattle.num_range.specs.declared.space.Space.{Space}
use Rattle.num_range.specs.declared.space.Space.TheVariants.{Asn, Ipv4, Ipv6}
use Rattle.num_range.specs.Number.{PlainNumber}
use Rattle.num_range.specs.Range.{PlainRange, same_range}
use Rattle.num_range.specs.Space.{space_rank, same_space}
use Rattle.num_range.specs.contracts.space.Space.{the_type}
use Rattle.reg_entry.specs.Ranges.{AreApart}
use Rattle.page_dir.specs.Sorted.{Rises, rank}
use Rattle.sub_book.specs.Order.{last_cmp, ends_below, ended_below}
use Rattle.sub_book.specs.contracts.by_last.ByLastOrd.TheImpl.{cmp-value}
use Rattle.sub_book.proofs.ApartLists.{AllAbove, Apart, apart_of}

abbrev key : Space → ℕ → ℕ → PlainRange
key s l f = record { space = s; first = f; last = l }

derived_at : (s t : Space) (l m f g : ℕ) → (cmp-value).it (key s l f) (key t m g) ≡ last_cmp (key s l f) (key t m g)
derived_at Asn Asn l m f g = refl
derived_at Asn Ipv4 l m f g = refl
derived_at Asn Ipv6 l m f g = refl
derived_at Ipv4 Asn l m f g = refl
derived_at Ipv4 Ipv4 l m f g = refl
derived_at Ipv4 Ipv6 l m f g = refl
derived_at Ipv6 Asn l m f g = refl
derived_at Ipv6 Ipv4 l m f g = refl
derived_at Ipv6 Ipv6 l m f g = refl

pub derived_order : (cmp-value).it ≡ last_cmp
derived_order = λ i a b. derived_at a.space b.space a.last b.last a.first b.first i

-- ---- places

-- the least key that ends at the number
abbrev pub ending_at : PlainNumber → PlainRange
ending_at n = record { space = n.space; first = 0; last = n.value }

ends_numbers : (a b l x f : ℕ) → is_lt (ordering_then (nat_cmp a b) (ordering_then (nat_cmp l x) (nat_cmp f 0))) ≡ (nat_lt a b || ((a == b) && nat_lt l x))
ends_numbers a b l x f = grind (arith, nat_tests)

pub rank_is : {V : Type 0} (n : PlainNumber) (ps : List (PlainRange × V)) → rank last_cmp (ending_at n) ps ≡ ended_below n ps
rank_is n [] = refl
rank_is n (p ∷ ps) =
    ap (λ (b : Bool). cond b (1 + rank last_cmp (ending_at n) ps) 0) (ends_numbers (space_rank p.0.space) (space_rank n.space) p.0.last n.value p.0.first)
    ∙ ap (λ (m : ℕ). cond (ends_below n p.0) (1 + m) 0) (rank_is n ps)

-- ---- ranges apart rise

less_numbers : (a b pf pl qf ql : ℕ) → qf ≤ ql → (nat_lt a b || ((a == b) && nat_lt pl qf)) ≡ true
    → ordering_then (nat_cmp a b) (ordering_then (nat_cmp pl ql) (nat_cmp pf qf)) ≡ Less
less_numbers a b pf pl qf ql o h = grind (arith, nat_tests)

all_less : {V : Type 0} (p : PlainRange) (ps : List (PlainRange × V)) → Apart ps → AllAbove p ps → AllByRecursion (λ q. last_cmp p q.0 ≡ Less) ps
all_less p [] apart h = tt
all_less p (q ∷ ps) apart h =
    (less_numbers (space_rank p.space) (space_rank q.0.space) p.first p.last q.0.first q.0.last apart.0.0 h.0, all_less p ps apart.2 h.1)

rises : {V : Type 0} (ps : List (PlainRange × V)) → Apart ps → Rises last_cmp ps
rises [] h = tt
rises (p ∷ ps) h = (all_less p.0 ps h.2 h.1, rises ps h.2)

pub rises_of : {V : Type 0} (ps : List (PlainRange × V)) → AreApart ps → Rises last_cmp ps
rises_of ps h = rises ps (apart_of ps h)

pub rises_in_order : {V : Type 0} (ps : List (PlainRange × V)) → AreApart ps → Rises (cmp-value).it ps
rises_in_order ps h = subst (λ (R : PlainRange → PlainRange → Ordering). Rises R ps) (sym derived_order) (rises_of ps h)

-- the place of the least key that ends at a number, by the order that the contracts name
pub place_is : {V : Type 0} (n : PlainNumber) (from : PlainRange) (ps : List (PlainRange × V)) → from ≡ ending_at n → rank (cmp-value).it from ps ≡ ended_below n ps
place_is n from ps e =
    ap (λ (R : PlainRange → PlainRange → Ordering). rank R from ps) derived_order
    ∙ ap (λ (k : PlainRange). rank last_cmp k ps) e
    ∙ rank_is n ps

-- ---- ranges compared

same_spaces : (a b : Space) → sameb the_type a b ≡ same_space a b
same_spaces Asn Asn = refl
same_spaces Asn Ipv4 = refl
same_spaces Asn Ipv6 = refl
same_spaces Ipv4 Asn = refl
same_spaces Ipv4 Ipv4 = refl
same_spaces Ipv4 Ipv6 = refl
same_spaces Ipv6 Asn = refl
same_spaces Ipv6 Ipv4 = refl
same_spaces Ipv6 Ipv6 = refl

and_again : (x y z : Bool) → (x && (y && z)) ≡ ((x && y) && z)
and_again true y z = refl
and_again false y z = refl

-- the derived test of equal ranges
pub same_is : (r s : PlainRange) → (sameb the_type r.space s.space && ((r.first == s.first) && (r.last == s.last))) ≡ same_range r s
same_is r s =
    ap (λ (b : Bool). b && ((r.first == s.first) && (r.last == s.last))) (same_spaces r.space s.space)
    ∙ and_again (same_space r.space s.space) (r.first == s.first) (r.last == s.last)
