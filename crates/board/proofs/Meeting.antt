-- A range that meets another begins no later than it ends.
use Rattle.std.proofs.Common.{◌≡◌, ℕ, ◌≤◌, ◌&&◌, true, nat_le, max, List, [], ◌∷◌, Option, Some, inl, inr, sym, ◌∙◌, ap, subst, arith}
use Rattle.std.proofs.lemmas.Bool.{cases_Bool, cond-true, cond-false, and_parts, leb-true}
use Rattle.std.proofs.lemmas.Option.{none-some, same_Some}
use Rattle.num_range.specs.declared.space.Space.{Space}
use Rattle.num_range.specs.Number.{PlainNumber}
use Rattle.num_range.specs.Range.{PlainRange, ranges_meet}
use Rattle.num_range.specs.Space.{same_space}
use Rattle.reg_entry.specs.declared.refusal.Refusal.{Refusal}
use Rattle.reg_entry.specs.declared.refusal.Refusal.TheVariants.{Overlap}
use Rattle.reg_entry.specs.Ranges.{first_meeting}

begins_within : (s r : PlainRange) → ranges_meet s r ≡ true → s.first ≤ r.last
begins_within s r meets =
    let parts = and_parts (same_space s.space r.space && nat_le s.first r.last) (nat_le r.first s.last) meets in
    leb-true s.first r.last (and_parts (same_space s.space r.space) (nat_le s.first r.last) parts.0).1

pub met_within : {T : Type 0} (rs : List (PlainRange × T)) (r : PlainRange) (p : PlainRange × T) → first_meeting rs r ≡ Some p → p.0.first ≤ r.last
met_within [] r p e = absurd (none-some p e)
met_within (q ∷ qs) r p e =
    elim (cases_Bool (ranges_meet q.0 r)) [
      | inl t ↦
          subst (λ u. u.0.first ≤ r.last) (same_Some q p (sym (cond-true (ranges_meet q.0 r) (Some q) (first_meeting qs r) t) ∙ e)) (begins_within q.0 r t)
      | inr f ↦ met_within qs r p (sym (cond-false (ranges_meet q.0 r) (Some q) (first_meeting qs r) f) ∙ e)
    ]

pub common_within : (a b last top n : ℕ) → n ≡ max a b → a ≤ last → b ≤ last → last ≤ top → n ≤ top
common_within a b last top n e f g h = omega arith

abbrev number : Space → ℕ → PlainNumber
number space n = record { space = space; value = n }

-- the refusal that gives the least number that two ranges have in common
pub common_number : (space s : Space) (a b x y n : ℕ) (m : PlainNumber) → m ≡ number s n → s ≡ space → n ≡ max x y → x ≡ a → y ≡ b
    → ◌≡◌ {A = Option Refusal} (Some (Overlap m)) (Some (Overlap (number space (max a b))))
common_number space s a b x y n m e f g h k =
    ap (λ (u : PlainNumber). Some (Overlap u))
    (e ∙ ap (λ (t : Space). number t n) f ∙ ap (number space) (g ∙ ap (λ (u : ℕ). max u y) h ∙ ap (λ (u : ℕ). max a u) k))
