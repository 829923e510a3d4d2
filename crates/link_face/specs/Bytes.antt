-- What reads and writes do to the bytes that a source or a sink tells, beside std's words for readers and writers.
use Rattle.std.specs.Prelude.{◌≡◌, ℕ, ◌+◌, ◌<◌, List, ◌++◌, take, ⊤, Option, None, Some, Result, MatchResult}
use Rattle.std.specs.Io.KnownBytes.{Keeps, Appends}

-- a read added the bytes that it gave to those taken before, and none at `Err`
abbrev pub ReadAppends : {E : Type 0} → Option (List ℕ) → Option (List ℕ) → Result ℕ E → List ℕ → Type 0
ReadAppends old new r buf = MatchResult r (λ n. Appends old new (take n buf)) (λ _. Keeps old new)

-- a read needs some budget and lowers it by the bytes that it gave, and by none at `Err`
abbrev pub Spends : {E : Type 0} → ℕ → ℕ → Result ℕ E → Type 0
Spends old new r = MatchResult r (λ n. (0 < old) × (new + n ≡ old)) (λ _. new ≡ old)

-- known bytes grow by some front of bs, which may be empty
abbrev pub AppendsPrefix : Option (List ℕ) → Option (List ℕ) → List ℕ → Type 0
AppendsPrefix None new bs = ⊤
AppendsPrefix (Some xs) None bs = ⊥
AppendsPrefix (Some xs) (Some ys) bs = (n : ℕ) × (ys ≡ xs ++ take n bs)
