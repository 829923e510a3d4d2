-- What the bytes of a policy say, where they are known.
use Rattle.std.specs.Prelude.{◌≡◌, ℕ, List, ⊤, Option, None, Some, Result, take}
use Rattle.reg_entry.specs.Policy.{PlainPolicy}
use Rattle.policy_table.specs.declared.fault.PolicyFault.{PolicyFault}
use Rattle.policy_table.specs.Policy.{policy_of}

-- how many bytes of a policy are read: one more than it may have
abbrev pub policy_front : ℕ
policy_front = 65537

-- the bytes that are read of all that there are
abbrev pub IsFrontOf : Option (List ℕ) → List ℕ → Type 0
IsFrontOf None bytes = ⊤
IsFrontOf (Some all) bytes = bytes ≡ take policy_front all

-- known bytes say this policy, or this fault
abbrev pub IsSaid : Option (List ℕ) → Result PlainPolicy PolicyFault → Type 0
IsSaid None policy = ⊤
IsSaid (Some bytes) policy = policy_of bytes ≡ policy

-- the fact, where known bytes say this
abbrev pub IfSaid : Option (List ℕ) → Result PlainPolicy PolicyFault → Type 0 → Type 0
IfSaid None policy fact = ⊤
IfSaid (Some bytes) policy fact = policy_of bytes ≡ policy → fact
