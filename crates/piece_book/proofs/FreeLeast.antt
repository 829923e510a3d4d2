-- The least first number among keys, found class by class.
use Rattle.std.proofs.Common.{◌≡◌, ℕ, ◌+◌, ◌<◌, ◌≤◌, min, Bool, true, false, cond, ◌&&◌, ◌||◌, ◌==◌, nat_lt, nat_le, List, [], ◌∷◌, Option, None, Some, unwrap_or, refl, sym, ◌∙◌, ap, subst, inl, inr, arith}
use Rattle.std.specs.declared.cmp.Ordering.TheVariants.{Less, Equal, Greater}
use Rattle.std.specs.Ordering.{is_lt, ordering_then, nat_cmp}
use Rattle.std.specs.List.{AllByRecursion, slice_get}
use Rattle.std.proofs.lemmas.Bool.{cases_lt, and_parts, and_from, and_cases, or_parts, or_from, and_right, ltb-true, ltb-false, lt-ltb, le-ltb, leb-true, le-leb, eqb-true, eq-eqb, false≢true, false_from_ne_true}
use Rattle.num_range.specs.declared.space.Space.{Space}
use Rattle.num_range.specs.Space.{space_rank, same_space}
use Rattle.reg_entry.proofs.Orders.{first_decides}
use Rattle.page_dir.specs.Sorted.{Rises, rank}
use Rattle.piece_book.specs.declared.free.key.FreeKey.{FreeKey}
use Rattle.piece_book.specs.Free.{key_cmp, serves, HasFirst, IsLeastFirst}
use Rattle.piece_book.proofs.FreePairs.{all_weaker, none_from, next_from}
use Rattle.piece_book.proofs.FreeChange.{key_order, same_rank}

abbrev Pairs : Type 0
Pairs = List (FreeKey × Unit {0})

-- ---- what the order says of keys

only_first : (less same : Bool) → is_lt (cond less Less (cond same Equal Greater)) ≡ less
only_first true same = refl
only_first false true = refl
only_first false false = refl

abbrev goes_first : ℕ → ℕ → ℕ → ℕ → ℕ → ℕ → Bool
goes_first x y c d f g = nat_lt x y || ((x == y) && (nat_lt c d || ((c == d) && nat_lt f g)))

key_before : (a b : FreeKey) → is_lt (key_cmp a b) ≡ goes_first (space_rank a.space) (space_rank b.space) a.class b.class a.first b.first
key_before a b =
    first_decides (nat_lt (space_rank a.space) (space_rank b.space)) (space_rank a.space == space_rank b.space) (ordering_then (nat_cmp a.class b.class) (nat_cmp a.first b.first))
    ∙ ap (λ t. nat_lt (space_rank a.space) (space_rank b.space) || ((space_rank a.space == space_rank b.space) && t))
    (first_decides (nat_lt a.class b.class) (a.class == b.class) (nat_cmp a.first b.first)
    ∙ ap (λ t. nat_lt a.class b.class || ((a.class == b.class) && t)) (only_first (nat_lt a.first b.first) (a.first == b.first)))

record IsBehind (x y c d f g : ℕ) : Type 0 where
  spaces : y ≤ x
  classes : x ≡ y → d ≤ c
  firsts : x ≡ y → c ≡ d → g ≤ f

behind_numbers : (x y c d f g : ℕ) → goes_first x y c d f g ≡ false → IsBehind x y c d f g
behind_numbers x y c d f g h =
    let outer = or_parts (nat_lt x y) ((x == y) && (nat_lt c d || ((c == d) && nat_lt f g))) h in
    let rest : x ≡ y → (nat_lt c d || ((c == d) && nat_lt f g)) ≡ false = λ e.
    elim (and_cases (x == y) (nat_lt c d || ((c == d) && nat_lt f g)) outer.1) [
      | inl wrong ↦ absurd (false≢true (sym wrong ∙ eq-eqb x y e))
      | inr t ↦ t
    ] in
    record {
      spaces = ltb-false x y outer.0;
      classes = λ e. ltb-false c d (or_parts (nat_lt c d) ((c == d) && nat_lt f g) (rest e)).0;
      firsts = λ e k. elim (and_cases (c == d) (nat_lt f g) (or_parts (nat_lt c d) ((c == d) && nat_lt f g) (rest e)).1) [
        | inl wrong ↦ absurd (false≢true (sym wrong ∙ eq-eqb c d k))
        | inr t ↦ ltb-false f g t
      ];
    }

-- a key that isn't less than another
behind_key : (a b : FreeKey) → is_lt (key_cmp a b) ≡ false → IsBehind (space_rank a.space) (space_rank b.space) a.class b.class a.first b.first
behind_key a b h = behind_numbers (space_rank a.space) (space_rank b.space) a.class b.class a.first b.first (sym (key_before a b) ∙ h)

abbrev pub least_of_class : Space → ℕ → FreeKey
least_of_class space class = record { space = space; class = class; first = 0 }

-- a key of the space and of the class or above isn't less than the least one there could be
from_class : (key : FreeKey) (space : Space) (class : ℕ) → space_rank key.space ≡ space_rank space → class ≤ key.class → is_lt (key_cmp key (least_of_class space class)) ≡ false
from_class key space class e h =
    key_before key (least_of_class space class)
    ∙ or_from (nat_lt (space_rank key.space) (space_rank space)) ((space_rank key.space == space_rank space) && (nat_lt key.class class || ((key.class == class) && nat_lt key.first 0)))
    (le-ltb (space_rank key.space) (space_rank space) (omega arith))
    (and_right (space_rank key.space == space_rank space) (nat_lt key.class class || ((key.class == class) && nat_lt key.first 0))
    (or_from (nat_lt key.class class) ((key.class == class) && nat_lt key.first 0) (le-ltb key.class class h)
    (and_right (key.class == class) (nat_lt key.first 0) (le-ltb key.first 0 (omega arith)))))

-- ---- keys that serve

pub record Serves (space : Space) (from : ℕ) (key : FreeKey) : Type 0 where
  pub spaces : space_rank key.space ≡ space_rank space
  pub classes : from ≤ key.class

pub serves_is : (space : Space) (from : ℕ) (key : FreeKey) → serves space from key ≡ true → Serves space from key
serves_is space from key h =
    let both = and_parts (same_space key.space space) (nat_le from key.class) h in
    record { spaces = eqb-true (space_rank key.space) (space_rank space) both.0; classes = leb-true from key.class both.1 }

pub serves_from : (space : Space) (from : ℕ) (key : FreeKey) → Serves space from key → serves space from key ≡ true
serves_from space from key h =
    and_from (same_space key.space space) (nat_le from key.class) (eq-eqb (space_rank key.space) (space_rank space) h.spaces) (le-leb from key.class h.classes)

-- those that serve and are of a class below another
abbrev pub seen : Space → ℕ → ℕ → FreeKey → Bool
seen space from upto key = serves space from key && nat_lt key.class upto

seen_from : (space : Space) (from upto : ℕ) (key : FreeKey) → serves space from key ≡ true → key.class < upto → seen space from upto key ≡ true
seen_from space from upto key h l = and_from (serves space from key) (nat_lt key.class upto) h (lt-ltb key.class upto l)

all_both : {T : Type 0} (P Q R : T → Type 0) → ((x : T) → P x → Q x → R x) → (xs : List T) → AllByRecursion P xs → AllByRecursion Q xs → AllByRecursion R xs
all_both P Q R f [] h k = tt
all_both P Q R f (x ∷ xs) h k = (f x h.0 k.0, all_both P Q R f xs h.1 k.1)

first_among_more : (some more : FreeKey → Bool) (ps : Pairs) (first : ℕ) → ((key : FreeKey) → some key ≡ true → more key ≡ true) → HasFirst some ps first → HasFirst more ps first
first_among_more some more ps first f h = record { place = h.place; pair = h.pair; stands = h.stands; passed = f h.pair.0 h.passed; begins = h.begins }

-- ---- before the first look-up

pub none_seen : (space : Space) (from : ℕ) (ps : Pairs) → IsLeastFirst (seen space from from) ps None
none_seen space from [] = tt
none_seen space from (p ∷ ps) = (
  false_from_ne_true (seen space from from p.0) (λ t.
      let both = and_parts (serves space from p.0) (nat_lt p.0.class from) t in
      let above = (serves_is space from p.0 both.0).classes in
      let below = ltb-true p.0.class from both.1 in
      absurd (omega arith)),
  none_seen space from ps,
)

-- ---- one look-up more

module _ (space : Space) (from class : ℕ) (ps : Pairs) (p : FreeKey × Unit {0}) (le : from ≤ class) (rises : Rises key_cmp ps)
    (found : slice_get ps (rank key_cmp (least_of_class space class) ps) ≡ Some p) (here : p.0.space ≡ space) where
  pub class_no_less : class ≤ p.0.class
  class_no_less = (behind_key p.0 (least_of_class space class) (next_from key_order (least_of_class space class) ps p rises found).from).classes (ap space_rank here)

  -- no key that serves and wasn't seen before has a lesser class, nor in the same class a lesser first number
  no_less : (q : FreeKey × Unit {0}) → (is_lt (key_cmp q.0 (least_of_class space class)) ≡ false → is_lt (key_cmp q.0 p.0) ≡ false)
      → seen space from (p.0.class + 1) q.0 ≡ true → class ≤ q.0.class → p.0.first ≤ q.0.first
  no_less q next t above =
      let both = and_parts (serves space from q.0) (nat_lt q.0.class (p.0.class + 1)) t in
      let same : space_rank q.0.space ≡ space_rank space = (serves_is space from q.0 both.0).spaces in
      let below : q.0.class < p.0.class + 1 = ltb-true q.0.class (p.0.class + 1) both.1 in
      let behind = behind_key q.0 p.0 (next (from_class q.0 space class same above)) in
      let one : space_rank q.0.space ≡ space_rank p.0.space = same ∙ sym (ap space_rank here) in
      let up : p.0.class ≤ q.0.class = behind.classes one in
      behind.firsts one (omega arith)

  more_seen : (key : FreeKey) → seen space from class key ≡ true → seen space from (p.0.class + 1) key ≡ true
  more_seen key t =
      let both = and_parts (serves space from key) (nat_lt key.class class) t in
      let below = ltb-true key.class class both.1 in
      let more = class_no_less in
      seen_from space from (p.0.class + 1) key both.0 (omega arith)

  p_seen : seen space from (p.0.class + 1) p.0 ≡ true
  p_seen =
      let more = class_no_less in
      seen_from space from (p.0.class + 1) p.0 (serves_from space from p.0 (record { spaces = ap space_rank here; classes = omega arith })) (omega arith)

  pub p_first : (first : ℕ) → p.0.first ≡ first → HasFirst (seen space from (p.0.class + 1)) ps first
  p_first first e = record { place = rank key_cmp (least_of_class space class) ps; pair = p; stands = found; passed = p_seen; begins = e }

  pub least_more : (least : Option ℕ) → IsLeastFirst (seen space from class) ps least
      → IsLeastFirst (seen space from (p.0.class + 1)) ps (Some (min p.0.first (unwrap_or least p.0.first)))
  least_more None h = (
    p_first (min p.0.first p.0.first) (omega arith),
    all_both (λ q. seen space from class q.0 ≡ false) (λ q. is_lt (key_cmp q.0 (least_of_class space class)) ≡ false → is_lt (key_cmp q.0 p.0) ≡ false)
        (λ q. seen space from (p.0.class + 1) q.0 ≡ true → min p.0.first p.0.first ≤ q.0.first)
        (λ q old next t. elim (cases_lt q.0.class class) [
          | inl below ↦
              absurd (false≢true (sym old ∙ seen_from space from class q.0 (and_parts (serves space from q.0) (nat_lt q.0.class (p.0.class + 1)) t).0 below))
          | inr above ↦ let up : p.0.first ≤ q.0.first = no_less q next t above in omega arith
        ])
        ps h (next_from key_order (least_of_class space class) ps p rises found).least,
  )
  least_more (Some least) h = (
    elim (cases_lt least p.0.first) [
      | inl less ↦
          let same : least ≡ min p.0.first least = omega arith in
          subst (HasFirst (seen space from (p.0.class + 1)) ps) same (first_among_more (seen space from class) (seen space from (p.0.class + 1)) ps least more_seen h.0)
      | inr more ↦ p_first (min p.0.first least) (omega arith)
    ],
    all_both (λ q. seen space from class q.0 ≡ true → least ≤ q.0.first) (λ q. is_lt (key_cmp q.0 (least_of_class space class)) ≡ false → is_lt (key_cmp q.0 p.0) ≡ false)
        (λ q. seen space from (p.0.class + 1) q.0 ≡ true → min p.0.first least ≤ q.0.first)
        (λ q old next t. elim (cases_lt q.0.class class) [
          | inl below ↦
              let up : least ≤ q.0.first = old (seen_from space from class q.0 (and_parts (serves space from q.0) (nat_lt q.0.class (p.0.class + 1)) t).0 below) in
              omega arith
          | inr above ↦ let up : p.0.first ≤ q.0.first = no_less q next t above in omega arith
        ])
        ps h.1 (next_from key_order (least_of_class space class) ps p rises found).least,
  )

-- ---- after the last look-up

least_of_all : (space : Space) (from class : ℕ) (ps : Pairs) (least : Option ℕ) → AllByRecursion (λ q. serves space from q.0 ≡ true → q.0.class < class) ps
    → IsLeastFirst (seen space from class) ps least → IsLeastFirst (serves space from) ps least
least_of_all space from class ps None below h =
    all_both (λ q. serves space from q.0 ≡ true → q.0.class < class) (λ q. seen space from class q.0 ≡ false) (λ q. serves space from q.0 ≡ false)
    (λ q b old. false_from_ne_true (serves space from q.0) (λ t. false≢true (sym old ∙ seen_from space from class q.0 t (b t))))
    ps below h
least_of_all space from class ps (Some least) below h = (
  first_among_more (seen space from class) (serves space from) ps least (λ key t. (and_parts (serves space from key) (nat_lt key.class class) t).0) h.0,
  all_both (λ q. serves space from q.0 ≡ true → q.0.class < class) (λ q. seen space from class q.0 ≡ true → least ≤ q.0.first) (λ q. serves space from q.0 ≡ true → least ≤ q.0.first)
      (λ q b old t. old (seen_from space from class q.0 t (b t)))
      ps below h.1,
)

pub least_where_none : (space : Space) (from class : ℕ) (ps : Pairs) (least : Option ℕ) → slice_get ps (rank key_cmp (least_of_class space class) ps) ≡ None
    → IsLeastFirst (seen space from class) ps least → IsLeastFirst (serves space from) ps least
least_where_none space from class ps least e h =
    least_of_all space from class ps least
    (all_weaker (λ q. is_lt (key_cmp q.0 (least_of_class space class)) ≡ true) (λ q. serves space from q.0 ≡ true → q.0.class < class)
    (λ q less t. elim (cases_lt q.0.class class) [
      | inl below ↦ below
      | inr above ↦ absurd (false≢true (sym (from_class q.0 space class (serves_is space from q.0 t).spaces above) ∙ less))
    ])
    ps (none_from key_order (least_of_class space class) ps e))
    h

pub least_where_other : (space : Space) (from class : ℕ) (ps : Pairs) (p : FreeKey × Unit {0}) (least : Option ℕ) → Rises key_cmp ps
    → slice_get ps (rank key_cmp (least_of_class space class) ps) ≡ Some p → (p.0.space ≡ space → ⊥)
    → IsLeastFirst (seen space from class) ps least → IsLeastFirst (serves space from) ps least
least_where_other space from class ps p least rises e other h =
    let next = next_from key_order (least_of_class space class) ps p rises e in
    least_of_all space from class ps least
    (all_weaker (λ q. is_lt (key_cmp q.0 (least_of_class space class)) ≡ false → is_lt (key_cmp q.0 p.0) ≡ false) (λ q. serves space from q.0 ≡ true → q.0.class < class)
    (λ q least t. elim (cases_lt q.0.class class) [
      | inl below ↦ below
      | inr above ↦
          let same : space_rank q.0.space ≡ space_rank space = (serves_is space from q.0 t).spaces in
          let p_up : space_rank space ≤ space_rank p.0.space = (behind_key p.0 (least_of_class space class) next.from).spaces in
          let q_up : space_rank p.0.space ≤ space_rank q.0.space = (behind_key q.0 p.0 (least (from_class q.0 space class same above))).spaces in
          absurd (other (same_rank p.0.space space (omega arith)))
    ])
    ps next.least)
    h
