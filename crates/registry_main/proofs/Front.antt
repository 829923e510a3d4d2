-- The front that is read of a policy says what all of its bytes say.
use Rattle.std.proofs.Common.{◌≡◌, ℕ, ◌<◌, ◌≤◌, false, List, [], ◌++◌, length, take, Option, None, Some, Result, Ok, Err, refl, sym, ◌∙◌, ap, arith, inl, inr, append-nil, take_all, length-take}
use Rattle.std.specs.Prelude.{nat_le}
use Rattle.std.specs.Result.{IfOk}
use Rattle.std.specs.Io.KnownBytes.{Consumes, IsAtEnd}
use Rattle.std.proofs.lemmas.Bool.{cases_lt}
use Rattle.std.proofs.lemmas.Bool.Decides.{nat_tests}
use Rattle.std.proofs.Math.Seq.{take-append_seam}
use Rattle.reg_entry.specs.Policy.{PlainPolicy}
use Rattle.policy_table.specs.declared.fault.PolicyFault.{PolicyFault}
use Rattle.policy_table.specs.declared.fault.PolicyFault.TheVariants.{TooLong}
use Rattle.policy_table.specs.Policy.{policy_of}
use Rattle.registry_main.specs.PolicyBytes.{IsFrontOf, IsSaid, IfSaid}

-- ---- how far was read

front_at_end : (a b : Option (List ℕ)) (bytes : List ℕ) → Consumes a b bytes → IsAtEnd b → length bytes ≤ 65537 → IsFrontOf a bytes
front_at_end None b bytes c e h = tt
front_at_end (Some xs) None bytes c e h = absurd c
front_at_end (Some xs) (Some ys) bytes c e h =
    let all : xs ≡ bytes = c ∙ ap (λ l. bytes ++ l) e ∙ append-nil bytes in
    sym (ap (take 65537) all ∙ take_all 65537 bytes h)

pub front_full : (a b : Option (List ℕ)) (bytes : List ℕ) → Consumes a b bytes → length bytes ≡ 65537 → IsFrontOf a bytes
front_full None b bytes c h = tt
front_full (Some xs) None bytes c h = absurd c
front_full (Some xs) (Some ys) bytes c h =
    sym (ap (take 65537) c ∙ ap (λ n. take n (bytes ++ ys)) (sym h) ∙ take-append_seam bytes ys)

-- a read that gave nothing told the end
pub front_ended : (a b c : Option (List ℕ)) (bytes : List ℕ) → Consumes a b bytes → Consumes b c [] → IsAtEnd c → length bytes ≤ 65537
    → IsFrontOf a bytes
front_ended None b c bytes p q e h = tt
front_ended (Some xs) None c bytes p q e h = absurd p
front_ended (Some xs) (Some ys) None bytes p q e h = absurd q
front_ended (Some xs) (Some ys) (Some zs) bytes p q e h = front_at_end (Some xs) (Some ys) bytes p (q ∙ e) h

-- ---- what the front says

too_long : (bytes : List ℕ) → 65536 < length bytes → policy_of bytes ≡ Err TooLong
unfolding policy_of
too_long bytes h =
    let e : nat_le (length bytes) 65536 ≡ false = grind (arith, nat_tests) in
    rw e refl

front_of_all : (all : List ℕ) → policy_of (take 65537 all) ≡ policy_of all
front_of_all all = elim (cases_lt 65536 (length all)) [
  | inl long ↦
      too_long (take 65537 all) (omega (arith, length-take 65537 all)) ∙ sym (too_long all long)
  | inr short ↦ ap policy_of (take_all 65537 all (omega arith))
]

pub front_says : (known : Option (List ℕ)) (bytes : List ℕ) (said : Result PlainPolicy PolicyFault) → IsFrontOf known bytes
    → policy_of bytes ≡ said → IsSaid known said
front_says None bytes said front e = tt
front_says (Some all) bytes said front e = sym (front_of_all all) ∙ ap policy_of (sym front) ∙ e

-- ---- what is said

pub said_ok : {E : Type 0} (known : Option (List ℕ)) (bytes : List ℕ) (r : Result PlainPolicy E) → IsFrontOf known bytes
    → IfOk r (λ p. policy_of bytes ≡ Ok p) → IfOk r (λ p. IsSaid known (Ok p))
said_ok known bytes (Ok p) front e = front_says known bytes (Ok p) front e
said_ok known bytes (Err x) front e = tt

-- known bytes say one thing alone
pub if_said : (known : Option (List ℕ)) (said other : Result PlainPolicy PolicyFault) (P : Type 0) → IsSaid known said
    → (said ≡ other → P) → IfSaid known other P
if_said None said other P h f = tt
if_said (Some bytes) said other P h f = λ e. f (sym h ∙ e)

pub if_said_maps : (known : Option (List ℕ)) (said : Result PlainPolicy PolicyFault) (P Q : Type 0) → (P → Q) → IfSaid known said P → IfSaid known said Q
if_said_maps None said P Q f h = tt
if_said_maps (Some bytes) said P Q f h = λ e. f (h e)
