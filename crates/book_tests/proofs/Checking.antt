-- What the tests' own checks show of the pairs that they look at.
use Rattle.std.proofs.Common.{◌≡◌, true, refl, ℕ, ◌+◌, ◌-◌, ◌<◌, List, [], ◌∷◌, length, get_or, take, drop, ap, sym, ◌∙◌, subst, inl, inr, arith, length-take-le}
use Rattle.std.specs.declared.cmp.Ordering.{Ordering}
use Rattle.std.specs.declared.cmp.Ordering.TheVariants.{Less, Equal, Greater}
use Rattle.std.specs.Cmp.{IsTotalOrder}
use Rattle.std.specs.List.{slice_get}
use Rattle.std.specs.Ordering.{is_lt}
use Rattle.std.proofs.lemmas.Bool.{cases_lt}
use Rattle.std.proofs.lemmas.List.{drop-drop, drop_all, get_or-take, take_more}
use Rattle.std.proofs.lemmas.Option.{get_or_from_slice_get, same_Some}
use Rattle.page_dir.specs.Sorted.{MeetsBelow, Rises}
use Rattle.page_dir.proofs.Rising.{rises_both}

pub less_from : (r : Ordering) → is_lt r ≡ true → r ≡ Less
less_from Less h = refl
less_from Equal h = cc
less_from Greater h = cc

pub next_rises : {K V : Type 0} (cmp : K → K → Ordering) → IsTotalOrder cmp → (ps : List (K × V)) (i : ℕ) (d d' : K × V) → 0 < i → i < length ps
    → Rises cmp (take i ps) → cmp (get_or ps (i - 1) d).0 (get_or ps i d').0 ≡ Less → Rises cmp (take (i + 1) ps)
next_rises cmp o ps i d d' more h rises lt =
    let x = get_or ps i d' in
    let len = length-take-le i ps (omega arith) in
    subst (Rises cmp) (sym (take_more ps i d' h)) (rises_both cmp o (take i ps) (x ∷ []) rises (tt, tt) (λ p q last first.
    let is_p : get_or ps (i - 1) d ≡ p =
    sym (get_or-take i ps (i - 1) d (omega arith)) ∙ ap (λ k. get_or (take i ps) (k - 1) d) (sym len)
    ∙ get_or_from_slice_get (take i ps) (length (take i ps) - 1) p d last in
    let is_q : x ≡ q = same_Some x q first in
    ap (λ y. cmp y.0 q.0) (sym is_p) ∙ ap (λ y. cmp (get_or ps (i - 1) d).0 y.0) (sym is_q) ∙ lt))

pub walked : {T : Type 0} (ts walk rest : List T) (k : ℕ) (t : T) → walk ≡ drop k ts → walk ≡ t ∷ rest → (rest ≡ drop (k + 1) ts) × (k < length ts)
walked ts walk rest k t was is = (
  ap (drop 1) (sym is ∙ was) ∙ drop-drop 1 k ts,
  elim (cases_lt k (length ts)) [ inl h ↦ h | inr h ↦ (let none : [] ≡ t ∷ rest = sym (drop_all k ts h) ∙ sym was ∙ is in let no' : ⊥ = cc in absurd no') ],
)

pub meets_next : {K V : Type 0} (cmp : K → K → Ordering) (new ps rest : List (K × V)) (x d : K × V) → ps ≡ x ∷ rest
    → cmp (get_or new (length new - 1) d).0 x.0 ≡ Less → MeetsBelow cmp new ps
meets_next cmp new ps rest x d is lt p q last first =
    let is_p = get_or_from_slice_get new (length new - 1) p d last in
    let is_q = same_Some x q (ap (λ xs. slice_get xs 0) (sym is) ∙ first) in
    ap (λ y. cmp y.0 q.0) (sym is_p) ∙ ap (λ y. cmp (get_or new (length new - 1) d).0 y.0) (sym is_q) ∙ lt
