-- A line that grows: it is held, or it is too long from its first byte on that makes it so.
use Rattle.std.proofs.Common.{◌≡◌, ◌≢◌, ℕ, ◌+◌, ◌-◌, ◌≤◌, Bool, true, false, if◌then◌else◌, ◌==◌, List, [], ◌∷◌, ◌++◌, length, take, slice_index, All, None, Some, Result, Err, inl, inr, refl, sym, ap, ap₂, ◌∙◌, subst, arith, append_assoc, append-nil, length-append, ne_eqb, true≢false}
use Rattle.std.proofs.lemmas.Bool.{cases_Bool, cond-true, cond-false}
use Rattle.std.proofs.lemmas.Bool.Decides.{nat_tests}
use Rattle.std.proofs.lemmas.List.{length-take-le}
use Rattle.std.proofs.lemmas.List.Elements.{All-head, All-tail}
use Rattle.std.specs.Str.Lines.{strip_carriage_return}
use Rattle.mirror_core.specs.declared.fault.FeedFault.{FeedFault}
use Rattle.mirror_core.specs.declared.fault.FeedFault.TheVariants.{Spelling}
use Rattle.mirror_core.specs.Mirror.{PlainMirror, broken}
use Rattle.mirror_core.specs.Draft.{attribute_fault}
use Rattle.mirror_core.specs.Line.{is_too_long, goes_on_with_value, draft_of, fault_or, long_fault}
use Rattle.mirror_core.specs.Feed.{at_line, with_line_end, with_line_byte, after_byte, fed}
use Rattle.mirror_core.specs.Fed.{IsFed, holding}
use Rattle.mirror_core.proofs.Feeding.{sound_byte, fed_stopped, broken_more, told, behind}

-- ---- too long

abbrev cut : Bool → List ℕ → List ℕ
cut b xs = if b then take (length xs - 1) xs else xs

cut_high : (b : Bool) (xs : List ℕ) → length (cut b xs) ≤ length xs
cut_high true xs = omega (arith, length-take-le (length xs - 1) xs (omega arith))
cut_high false xs = omega arith

cut_low : (b : Bool) (xs : List ℕ) → length xs ≤ length (cut b xs) + 1
cut_low true xs = omega (arith, length-take-le (length xs - 1) xs (omega arith))
cut_low false xs = omega arith

-- what isn't too long wasn't before
front_short : (line more : List ℕ) → is_too_long (line ++ more) ≡ false → is_too_long line ≡ false
front_short line [] h = ap is_too_long (sym (append-nil line)) ∙ h
front_short line (b ∷ more) h =
    let all : List ℕ = line ++ b ∷ more in
    let low = cut_low (slice_index all (length all - 1) == 13) all in
    let high = cut_high (slice_index line (length line - 1) == 13) line in
    let bound : length (strip_carriage_return all) ≤ 1024 = grind (arith, nat_tests) in
    let short : length (strip_carriage_return line) ≤ 1024 = omega (arith, low, high, length-append line (b ∷ more), bound) in
    grind (arith, nat_tests)

-- ---- bytes of a line

line_byte : (m : PlainMirror) (b : ℕ) → m.fault ≡ None → b ≢ 10 → after_byte m b ≡ with_line_byte m b
line_byte m b h other = sound_byte m b h ∙ cond-false (b == 10) (with_line_end m) (with_line_byte m b) (ne_eqb b 10 other)

held_byte : (m : PlainMirror) (b : ℕ) → m.fault ≡ None → b ≢ 10 → is_too_long (m.line ++ b ∷ []) ≡ false → after_byte m b ≡ holding m (b ∷ [])
held_byte m b h other short =
    line_byte m b h other
    ∙ cond-false (is_too_long (m.line ++ b ∷ [])) (broken m (length (m.line ++ b ∷ [])) (long_fault m (m.line ++ b ∷ []))) (holding m (b ∷ [])) short

long_byte : (m : PlainMirror) (b : ℕ) → m.fault ≡ None → b ≢ 10 → is_too_long (m.line ++ b ∷ []) ≡ true
    → after_byte m b ≡ broken m (length (m.line ++ b ∷ [])) (long_fault m (m.line ++ b ∷ []))
long_byte m b h other long =
    line_byte m b h other
    ∙ cond-true (is_too_long (m.line ++ b ∷ [])) (broken m (length (m.line ++ b ∷ [])) (long_fault m (m.line ++ b ∷ []))) (holding m (b ∷ [])) long

abbrev NoEnd : ℕ → Type 0
NoEnd b = b ≢ 10

longer : (line more : List ℕ) (b : ℕ) → (line ++ b ∷ []) ++ more ≡ line ++ b ∷ more
longer line more b = append_assoc line (b ∷ []) more

pub held : (m : PlainMirror) (piece : List ℕ) → m.fault ≡ None → All NoEnd piece → is_too_long (m.line ++ piece) ≡ false → fed m piece ≡ holding m piece
held m [] h none short = ap (λ (l : List ℕ). at_line m l m.place) (sym (append-nil m.line))
held m (b ∷ piece) h none short =
    let first : is_too_long (m.line ++ b ∷ []) ≡ false = front_short (m.line ++ b ∷ []) piece (ap is_too_long (longer m.line piece b) ∙ short) in
    ap (λ (n : PlainMirror). fed n piece) (held_byte m b h (All-head NoEnd b piece none) first)
    ∙ held (holding m (b ∷ [])) piece h (All-tail NoEnd b piece none) (ap is_too_long (longer m.line piece b) ∙ short)
    ∙ ap (λ (l : List ℕ). at_line m l m.place) (longer m.line piece b)

-- ---- a line that is too long

broken_fed : (m : PlainMirror) (count : ℕ) (f : FeedFault) (bytes : List ℕ) → fed (broken m count f) bytes ≡ broken m (count + length bytes) f
broken_fed m count f [] = ap (λ (n : ℕ). broken m n f) (omega arith)
broken_fed m count f (b ∷ bytes) = fed_stopped (broken m count f) f refl b bytes ∙ broken_more m count (length (b ∷ bytes)) f

abbrev by_start : PlainMirror → Bool → FeedFault
by_start m goes = elim (draft_of m) [
  | None ↦ Spelling m.place
  | Some d ↦ if goes then Spelling m.place else fault_or (attribute_fault m.source d) (Spelling m.place)
]

-- the first byte says how the line begins
same_start : (line more : List ℕ) (b : ℕ) → goes_on_with_value (line ++ b ∷ []) ≡ goes_on_with_value (line ++ b ∷ more)
same_start [] more b = refl
same_start (x ∷ line) more b = refl

same_fault : (m : PlainMirror) (line more : List ℕ) (b : ℕ) → long_fault m (line ++ b ∷ []) ≡ long_fault m (line ++ b ∷ more)
same_fault m line more b = ap (by_start m) (same_start line more b)

pub too_long : (m : PlainMirror) (piece rest : List ℕ) → m.fault ≡ None → All NoEnd piece → is_too_long m.line ≡ false → is_too_long (m.line ++ piece) ≡ true
    → fed m (piece ++ rest) ≡ broken m (length m.line + length (piece ++ rest)) (long_fault m (m.line ++ piece))
too_long m [] rest h none short long = absurd (true≢false (sym long ∙ ap is_too_long (append-nil m.line) ∙ short))
too_long m (b ∷ piece) rest h none short long =
    let other = All-head NoEnd b piece none in
    let others = All-tail NoEnd b piece none in
    elim (cases_Bool (is_too_long (m.line ++ b ∷ []))) [
      | inl here ↦
          ap (λ (n : PlainMirror). fed n (piece ++ rest)) (long_byte m b h other here)
          ∙ broken_fed m (length (m.line ++ b ∷ [])) (long_fault m (m.line ++ b ∷ [])) (piece ++ rest)
          ∙ ap₂ (λ (n : ℕ) (f : FeedFault). broken m n f) (omega (arith, length-append m.line (b ∷ []))) (same_fault m m.line piece b)
      | inr later ↦
          ap (λ (n : PlainMirror). fed n (piece ++ rest)) (held_byte m b h other later)
          ∙ too_long (holding m (b ∷ [])) piece rest h others later (ap is_too_long (longer m.line piece b) ∙ long)
          ∙ ap₂ (λ (n : ℕ) (f : FeedFault). broken m n f) (omega (arith, length-append m.line (b ∷ []))) (ap (λ (l : List ℕ). long_fault m l) (longer m.line piece b))
    ]

-- ---- what is answered

pub stopped : (old new : PlainMirror) (piece rest : List ℕ) (count : ℕ) (f : FeedFault) → old.fault ≡ None → All NoEnd piece → is_too_long old.line ≡ false
    → is_too_long (old.line ++ piece) ≡ true → count ≡ length old.line + length (piece ++ rest) → f ≡ long_fault old (old.line ++ piece) → new ≡ broken old count f
    → IsFed old (piece ++ rest) new (Err f)
stopped old new piece rest count f h none short long counts is breaks =
    told old (piece ++ rest) new f
    (breaks ∙ ap₂ (λ (n : ℕ) (g : FeedFault). broken old n g) counts is ∙ sym (too_long old piece rest h none short long))
    (ap (λ (n : PlainMirror). n.fault) breaks)

pub ended : (old held_by new : PlainMirror) (piece : List ℕ) (result : Result (Unit {0}) FeedFault) → old.fault ≡ None → All NoEnd piece
    → is_too_long (old.line ++ piece) ≡ false → held_by ≡ holding old piece → IsFed held_by (10 ∷ []) new result → IsFed old (piece ++ 10 ∷ []) new result
ended old held_by new piece result h none short holds feeds =
    behind old piece (10 ∷ []) new result
    (subst (λ (n : PlainMirror). IsFed n (10 ∷ []) new result) (holds ∙ sym (held old piece h none short)) feeds)
