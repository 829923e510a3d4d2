-- The operations that a board keeps, by their serials.
use Rattle.std.proofs.Common.{◌≡◌, ◌≢◌, ℕ, ◌+◌, ◌<◌, ◌≤◌, ◌==◌, Bool, true, false, ◌&&◌, nat_le, List, [], ◌∷◌, Some, None, find, filter, cond, refl, sym, ap, ap₂, ◌∙◌, subst, inl, inr, arith, eq-eqb, ne_eqb}
use Rattle.std.proofs.lemmas.Bool.{cases_Bool, cases_eq, cases_lt, cond-true, cond-false}
use Rattle.std.proofs.lemmas.Bool.Decides.{nat_tests}
use Rattle.std.proofs.lemmas.Option.{none-some, same_Some}
use Rattle.reg_entry.specs.declared.object.Object.{Object}
use Rattle.reg_entry.specs.declared.object.Object.TheVariants.{Org, Block, Sub, Cut}
use Rattle.reg_entry.specs.Days.{last_date}
use Rattle.reg_entry.specs.Op.{PlainOp}
use Rattle.reg_entry.specs.Register.{Register}
use Rattle.reg_entry.specs.Whole.{HasDaysOf, AreOpsIn}
use Rattle.rpsl_text.specs.Object.{HasDates}
use Rattle.op_feed.specs.ReachedBoard.{HaveSerialsFrom}
use Rattle.nrtm_stream.specs.Answer.{is_between}

-- ---- their days

has_dates : (r : Register) (o : Object) → r.last_day ≤ last_date → HasDaysOf r o → HasDates o
has_dates r (Org holder day) h d = omega (arith, h, d)
has_dates r (Block range status handle day until) h d = (omega (arith, h, d.0), d.1)
has_dates r (Sub range handle day) h d = omega (arith, h, d)
has_dates r (Cut block servers) h d = tt

pub found_dates : (r : Register) (test : PlainOp → Bool) (ops : List PlainOp) (op : PlainOp) → r.last_day ≤ last_date → AreOpsIn r ops
    → find test ops ≡ Some op → HasDates op.object
found_dates r test [] op h all e = absurd (none-some op e)
found_dates r test (o ∷ ops) op h all e =
    elim (cases_Bool (test o)) [
      | inl here ↦
          subst (λ (x : PlainOp). HasDates x.object) (same_Some o op (sym (cond-true (test o) (Some o) (find test ops) here) ∙ e))
          (has_dates r o.object h all.0)
      | inr there ↦ found_dates r test ops op h all.2 (sym (cond-false (test o) (Some o) (find test ops) there) ∙ e)
    ]

-- ---- which are left from a serial on

abbrev has_serial : ℕ → PlainOp → Bool
has_serial s op = op.serial == s

tests : (s last n : ℕ) → n ≢ s → (nat_le s n && nat_le n last) ≡ (nat_le (s + 1) n && nat_le n last)
tests s last n h = grind (arith, nat_tests)

pub inside : (s last n : ℕ) → n ≡ s → s ≤ last → (nat_le s n && nat_le n last) ≡ true
inside s last n e l = grind (arith, nat_tests)

pub below : (s last n : ℕ) → n < s → (nat_le s n && nat_le n last) ≡ false
below s last n l = grind (arith, nat_tests)

above : (s last n : ℕ) → last < s → (nat_le s n && nat_le n last) ≡ false
above s last n l = grind (arith, nat_tests)

same_step : (p q : PlainOp → Bool) (op : PlainOp) (ops : List PlainOp) → p op ≡ q op → filter p ops ≡ filter q ops
    → filter p (op ∷ ops) ≡ filter q (op ∷ ops)
same_step p q op ops e h = ap₂ (λ b xs. cond b (op ∷ xs) xs) e h

-- no operation has the serial
pub missing : (s last : ℕ) (ops : List PlainOp) → find (λ op. op.serial == s) ops ≡ None
    → filter (is_between s last) ops ≡ filter (is_between (s + 1) last) ops
missing s last [] e = refl
missing s last (o ∷ ops) e =
    elim (cases_eq o.serial s) [
      | inl same ↦ absurd (none-some o (sym e ∙ cond-true (o.serial == s) (Some o) (find (has_serial s) ops) (eq-eqb o.serial s same)))
      | inr other ↦
          same_step (is_between s last) (is_between (s + 1) last) o ops (tests s last o.serial other)
          (missing s last ops (sym (cond-false (o.serial == s) (Some o) (find (has_serial s) ops) (ne_eqb o.serial s other)) ∙ e))
    ]

-- all operations come later
pub none_above : (s k : ℕ) (ops : List PlainOp) → s < k → HaveSerialsFrom k ops → find (has_serial s) ops ≡ None
none_above s k [] l h = refl
none_above s k (o ∷ ops) l h =
    cond-false (o.serial == s) (Some o) (find (has_serial s) ops) (ne_eqb o.serial s (omega (arith, h.0, l)))
    ∙ none_above s (k + 1) ops (omega (arith, l)) h.1

-- this operation has the serial, and comes first
pub found : (s last k : ℕ) (ops : List PlainOp) (op : PlainOp) → s ≤ last → HaveSerialsFrom k ops → find (λ op. op.serial == s) ops ≡ Some op
    → filter (is_between s last) ops ≡ op ∷ filter (is_between (s + 1) last) ops
found s last k [] op l h e = absurd (none-some op e)
found s last k (o ∷ ops) op l h e =
    elim (cases_eq o.serial s) [
      | inl same ↦
          let is : o ≡ op = same_Some o op (sym (cond-true (o.serial == s) (Some o) (find (has_serial s) ops) (eq-eqb o.serial s same)) ∙ e) in
          let rest : filter (is_between s last) ops ≡ filter (is_between (s + 1) last) ops =
          missing s last ops (none_above s (k + 1) ops (omega (arith, h.0, same)) h.1) in
          cond-true (is_between s last o) (o ∷ filter (is_between s last) ops) (filter (is_between s last) ops) (inside s last o.serial same l)
          ∙ ap₂ (λ x xs. x ∷ xs) is rest
          ∙ ap (λ xs. op ∷ xs) (sym (cond-false (is_between (s + 1) last o) (o ∷ filter (is_between (s + 1) last) ops) (filter (is_between (s + 1) last) ops) (below (s + 1) last o.serial (omega (arith, same)))))
      | inr other ↦
          let later : find (has_serial s) ops ≡ Some op = sym (cond-false (o.serial == s) (Some o) (find (has_serial s) ops) (ne_eqb o.serial s other)) ∙ e in
          elim (cases_lt o.serial s) [
            | inl less ↦
                cond-false (is_between s last o) (o ∷ filter (is_between s last) ops) (filter (is_between s last) ops) (below s last o.serial less)
                ∙ found s last (k + 1) ops op l h.1 later
                ∙ ap (λ xs. op ∷ xs) (sym (cond-false (is_between (s + 1) last o) (o ∷ filter (is_between (s + 1) last) ops) (filter (is_between (s + 1) last) ops) (below (s + 1) last o.serial (omega (arith, less)))))
            | inr more ↦ absurd (none-some op (sym (none_above s (k + 1) ops (omega (arith, h.0, more)) h.1) ∙ later))
          ]
    ]

-- none are left behind the last
pub none_left : (s last : ℕ) (ops : List PlainOp) → last < s → filter (is_between s last) ops ≡ []
none_left s last [] l = refl
none_left s last (o ∷ ops) l =
    cond-false (is_between s last o) (o ∷ filter (is_between s last) ops) (filter (is_between s last) ops) (above s last o.serial l)
    ∙ none_left s last ops l
