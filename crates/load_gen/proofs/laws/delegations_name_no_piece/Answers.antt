use Rattle.std.proofs.Common.{◌≡◌, ℕ, ◌==◌, false, nat_le, nat_lt, refl, inl, inr, arith}
use Rattle.std.proofs.lemmas.Bool.{cases_Bool}
use Rattle.std.proofs.lemmas.Bool.Decides.{nat_tests}
use Rattle.num_range.specs.Range.{PlainRange}
use Rattle.load_gen.specs.Draw.{PlainDraw, kind}
use Rattle.load_gen.specs.Drawn.{drawn_request}
use Rattle.load_gen.proofs.laws.delegations_name_no_piece.Goals as goal

none_left : (k : ℕ) → nat_le 5 k ≡ false → nat_lt k 3 ≡ false → (k == 3) ≡ false → (k == 4) ≡ false → ⊥
none_left k few a b c = grind (arith, nat_tests)

same : (d : PlainDraw) (piece other : PlainRange) → nat_le 5 (kind d) ≡ false → drawn_request d piece ≡ drawn_request d other
same d piece other few = elim (cases_Bool (nat_lt (kind d) 3)) [
  | inl a ↦ rw a refl
  | inr a ↦ elim (cases_Bool (kind d == 3)) [
    | inl b ↦ rw (a, b) refl
    | inr b ↦ elim (cases_Bool (kind d == 4)) [
      | inl c ↦ rw (a, b, c) refl
      | inr c ↦ absurd (none_left (kind d) few a b c)
    ]
  ]
]

pub returns : goal.returns
returns c = same
