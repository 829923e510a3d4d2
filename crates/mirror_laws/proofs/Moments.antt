-- What holds at each moment while bytes are fed, and where they lead.
use Rattle.std.proofs.Common.{◌≡◌, ℕ, List, [], ◌∷◌, ◌++◌, refl, sym, ap, ◌∙◌, subst, append_assoc}
use Rattle.mirror_core.specs.Mirror.{PlainMirror}
use Rattle.mirror_core.specs.Feed.{after_byte, fed}

-- from this mirror on, at each moment
abbrev pub Along : (PlainMirror → Type 0) → PlainMirror → List ℕ → Type 0
Along P m [] = P m
Along P m (b ∷ bytes) = P m × Along P (after_byte m b) bytes

-- the bytes lead from one mirror to another, and it holds at each moment
pub record Leads (P : PlainMirror → Type 0) (m : PlainMirror) (bytes : List ℕ) (n : PlainMirror) : Type 0 where
  pub along : Along P m bytes
  pub ends : fed m bytes ≡ n

pub fed_append : (m : PlainMirror) (xs ys : List ℕ) → fed m (xs ++ ys) ≡ fed (fed m xs) ys
fed_append m [] ys = refl
fed_append m (x ∷ xs) ys = fed_append (after_byte m x) xs ys

along_append : (P : PlainMirror → Type 0) (m : PlainMirror) (xs ys : List ℕ) → Along P m xs → Along P (fed m xs) ys → Along P m (xs ++ ys)
along_append P m [] ys h k = k
along_append P m (x ∷ xs) ys h k = (h.0, along_append P (after_byte m x) xs ys h.1 k)

pub at_front : (P : PlainMirror → Type 0) (m : PlainMirror) (xs ys : List ℕ) → Along P m (xs ++ ys) → P (fed m xs)
at_front P m [] [] h = h
at_front P m [] (y ∷ ys) h = h.0
at_front P m (x ∷ xs) ys h = at_front P (after_byte m x) xs ys h.1

pub nothing_leads : (P : PlainMirror → Type 0) (m : PlainMirror) → P m → Leads P m [] m
nothing_leads P m h = record { along = h; ends = refl }

pub byte_leads : (P : PlainMirror → Type 0) (m k n : PlainMirror) (b : ℕ) (bytes : List ℕ) → P m → after_byte m b ≡ k → Leads P k bytes n
    → Leads P m (b ∷ bytes) n
byte_leads P m k n b bytes here next h = record {
  along = (here, subst (λ (k : PlainMirror). Along P k bytes) (sym next) h.along);
  ends = ap (λ (k : PlainMirror). fed k bytes) next ∙ h.ends;
}

pub both_lead : (P : PlainMirror → Type 0) (m k n : PlainMirror) (xs ys : List ℕ) → Leads P m xs k → Leads P k ys n → Leads P m (xs ++ ys) n
both_lead P m k n xs ys h g = record {
  along = along_append P m xs ys h.along (subst (λ (k : PlainMirror). Along P k ys) (sym h.ends) g.along);
  ends = fed_append m xs ys ∙ ap (λ (k : PlainMirror). fed k ys) h.ends ∙ g.ends;
}

-- a line, its end, and what comes behind it
pub line_and_more : (P : PlainMirror → Type 0) (m k n : PlainMirror) (line more : List ℕ) → Leads P m (line ++ 10 ∷ []) k → Leads P k more n
    → Leads P m (line ++ 10 ∷ more) n
line_and_more P m k n line more h g =
    subst (λ (bytes : List ℕ). Leads P m bytes n) (append_assoc line (10 ∷ []) more) (both_lead P m k n (line ++ 10 ∷ []) more h g)

pub same_bytes : (P : PlainMirror → Type 0) (m n : PlainMirror) (xs ys : List ℕ) → xs ≡ ys → Leads P m ys n → Leads P m xs n
same_bytes P m n xs ys e h = subst (λ (bytes : List ℕ). Leads P m bytes n) (sym e) h
