-- The first line of a text and the rest, and lines that are too long to be read.
use Rattle.std.proofs.Common.{◌≡◌, ℕ, ◌+◌, ◌-◌, ◌<◌, ◌≤◌, Bool, List, [], ◌∷◌, ◌++◌, length, take, refl, sym, ◌∙◌, ap, subst, arith, inl, inr, ◌⊎◌, append_assoc, append-nil, length-append, length-take, take_all, min, zero, suc}
use Rattle.std.proofs.lemmas.List.{take_min}
use Rattle.std.proofs.Math.Seq.{take-nil, take-append-add}
use Rattle.std.specs.Prelude.{◌==◌, slice_index}
use Rattle.std.specs.List.{slice_split, onto_first}
use Rattle.std.specs.Str.Lines.{lines, lines_of_parts, strip_carriage_return}
use Rattle.std.proofs.lemmas.Bool.{cases_Bool, cases_lt, lt-ltb, ne_eqb, eqb-true}
use Rattle.std.specs.Prelude.{Err}
use Rattle.desk_lang.specs.Words.{malformed_at}
use Rattle.desk_lang.specs.Grammar.{line_of}
use Rattle.registry_main.specs.Session.{PlainSession, Step, answered, step_of, replies, replies_to, session_after}
use Rattle.registry_main.specs.LineBuffer.{HasNoNewline, IsAnsweredAs, LeadsAs}

abbrev pub is_newline : ℕ → Bool
is_newline b = b == 10

-- ---- the parts of a text between newlines

-- a text has some part
pub record Splits (text : List ℕ) : Type 0 where
  pub first : List ℕ
  pub others : List (List ℕ)
  pub split : slice_split is_newline text ≡ first ∷ others

onto_splits : (b : ℕ) (parts : List (List ℕ)) → (first : List ℕ) × (others : List (List ℕ)) × (onto_first b parts ≡ first ∷ others)
onto_splits b [] = (b ∷ [], [], refl)
onto_splits b (part ∷ parts) = (b ∷ part, parts, refl)

pub splits : (text : List ℕ) → Splits text
splits [] = record { first = []; others = []; split = refl }
splits (b ∷ bs) = elim (cases_Bool (b == 10)) [
  | inl e ↦ record { first = []; others = slice_split is_newline bs; split = rw e refl }
  | inr e ↦ let found = onto_splits b (slice_split is_newline bs) in
      record { first = found.0; others = found.1; split = rw e found.2 }
]

split_line : (line : List ℕ) (rest : List ℕ) → HasNoNewline line
    → slice_split is_newline (line ++ 10 ∷ rest) ≡ line ∷ slice_split is_newline rest
split_line [] rest h = refl
split_line (b ∷ bs) rest h = rw h.0 (ap (onto_first b) (split_line bs rest h.1))

pub split_last : (line : List ℕ) → HasNoNewline line → slice_split is_newline line ≡ line ∷ []
split_last [] h = refl
split_last (b ∷ bs) h = rw h.0 (ap (onto_first b) (split_last bs h.1))

-- ---- the lines of a text

pub lines-line : (line rest : List ℕ) → HasNoNewline line → lines (line ++ 10 ∷ rest) ≡ strip_carriage_return line ∷ lines rest
lines-line line rest h =
    let s = splits rest in
    ap lines_of_parts (split_line line rest h ∙ ap (λ parts. line ∷ parts) s.split)
    ∙ ap (λ parts. strip_carriage_return line ∷ lines_of_parts parts) (sym s.split)

pub lines-last : (line : List ℕ) → HasNoNewline line → 0 < length line → lines line ≡ line ∷ []
lines-last [] h some = absurd (omega arith)
lines-last (b ∷ bs) h some = ap lines_of_parts (split_last (b ∷ bs) h) ∙ rw (ne_eqb (length (b ∷ bs)) 0 (omega arith)) refl

pub replies_to-line : (r : PlainSession) (line rest : List ℕ) → HasNoNewline line
    → replies_to r (line ++ 10 ∷ rest)
    ≡ (answered r (strip_carriage_return line)).text ++ replies_to (answered r (strip_carriage_return line)).session rest
replies_to-line r line rest h = ap (replies r) (lines-line line rest h)

pub replies_to-last : (r : PlainSession) (line : List ℕ) → HasNoNewline line → 0 < length line
    → replies_to r line ≡ (answered r line).text
replies_to-last r line h some = ap (replies r) (lines-last line h some) ∙ append-nil _

-- ---- lines that are too long

-- such a line goes wrong behind its 1,024th byte
abbrev pub too_long : PlainSession → Step
too_long r = step_of r (Err (malformed_at 1025))

overlong_is_malformed : (line : List ℕ) → 1024 < length line → line_of line ≡ Err (malformed_at 1025)
overlong_is_malformed line long = rw (lt-ltb 1024 (length line) long) refl

-- what stands before the first newline, and behind it where there is one
record FirstLine (text : List ℕ) : Type 0 where
  line : List ℕ
  clear : HasNoNewline line
  rest : (text ≡ line) ⊎ ((behind : List ℕ) × (text ≡ line ++ 10 ∷ behind))

first_line : (text : List ℕ) → FirstLine text
first_line [] = record { line = []; clear = tt; rest = inl refl }
first_line (b ∷ bs) =
    let more = first_line bs in
    elim (cases_Bool (b == 10)) [
      | inl e ↦ record { line = []; clear = tt; rest = inr (bs, ap (λ n. n ∷ bs) (eqb-true b 10 e)) }
      | inr e ↦ record { line = b ∷ more.line; clear = (e, more.clear); rest = onto more.rest }
    ]
  where
    onto : {line : List ℕ} → (bs ≡ line) ⊎ ((behind : List ℕ) × (bs ≡ line ++ 10 ∷ behind))
        → (b ∷ bs ≡ b ∷ line) ⊎ ((behind : List ℕ) × (b ∷ bs ≡ b ∷ (line ++ 10 ∷ behind)))
    onto (inl e) = inl (ap (λ l. b ∷ l) e)
    onto (inr w) = inr (w.0, ap (λ l. b ∷ l) w.1)

pub no_newline-append : (xs ys : List ℕ) → HasNoNewline xs → HasNoNewline ys → HasNoNewline (xs ++ ys)
no_newline-append [] ys h k = k
no_newline-append (x ∷ xs) ys h k = (h.0, no_newline-append xs ys h.1 k)

strip_loses_one : (line : List ℕ) → length line ≤ length (strip_carriage_return line) + 1
strip_loses_one line = elim (cases_Bool (slice_index line (length line - 1) == 13)) [
  | inl e ↦ rw e (omega (arith, length-take (length line - 1) line))
  | inr e ↦ rw e (omega arith)
]

-- what a line that is too long is answered doesn't depend on it
pub answer_overlong : (r : PlainSession) (line : List ℕ) → 1024 < length line → answered r line ≡ too_long r
answer_overlong r line long = ap (step_of r) (overlong_is_malformed line long)

pub overlong-last : (r : PlainSession) (line : List ℕ) → HasNoNewline line → 1025 < length line
    → replies_to r line ≡ (too_long r).text
overlong-last r line h long =
    replies_to-last r line h (omega arith) ∙ ap (λ a. a.text) (answer_overlong r line (omega arith))

no_newline-take : (n : ℕ) (xs : List ℕ) → HasNoNewline xs → HasNoNewline (take n xs)
no_newline-take n [] h = subst HasNoNewline (sym (take-nil n)) tt
no_newline-take zero (x ∷ xs) h = tt
no_newline-take (suc n) (x ∷ xs) h = (h.0, no_newline-take n xs h.1)

pub kept_line : (old bytes new : List ℕ) → HasNoNewline old → HasNoNewline bytes → new ≡ take 1026 (old ++ bytes) → HasNoNewline new
kept_line old bytes new h k e = subst HasNoNewline (sym e) (no_newline-take 1026 (old ++ bytes) (no_newline-append old bytes h k))

-- what is made of lines one after the other, by what each is answered
module _ {A : Type 0} (walk : PlainSession → List (List ℕ) → A) (step : Step → List (List ℕ) → A)
    (each : (s : PlainSession) (line : List ℕ) (more : List (List ℕ)) → walk s (line ∷ more) ≡ step (answered s line) more) where
  -- a text whose first line is too long, up to its end or up to a newline
  walk-last : (r : PlainSession) (line : List ℕ) → HasNoNewline line → 1025 < length line
      → walk r (lines line) ≡ step (too_long r) []
  walk-last r line h long =
      ap (walk r) (lines-last line h (omega arith)) ∙ each r line [] ∙ ap (λ a. step a []) (answer_overlong r line (omega arith))

  walk-line : (r : PlainSession) (line rest : List ℕ) → HasNoNewline line → 1025 < length line
      → walk r (lines (line ++ 10 ∷ rest)) ≡ step (too_long r) (lines rest)
  walk-line r line rest h long =
      let stripped = strip_carriage_return line in
      let enough : 1024 < length stripped = let s = strip_loses_one line in omega arith in
      ap (walk r) (lines-line line rest h) ∙ each r stripped (lines rest)
      ∙ ap (λ a. step a (lines rest)) (answer_overlong r stripped enough)

  -- every line that is too long is as every other
  overlong_same : (r : PlainSession) (long other : List ℕ) → HasNoNewline long → HasNoNewline other
      → 1025 < length long → 1025 < length other
      → (tail : List ℕ) → walk r (lines (long ++ tail)) ≡ walk r (lines (other ++ tail))
  overlong_same r long other h k m n tail =
      let found = first_line tail in
      let clear : (xs : List ℕ) → HasNoNewline xs → HasNoNewline (xs ++ found.line) = λ xs c. no_newline-append xs found.line c found.clear in
      let longer : (xs : List ℕ) → 1025 < length xs → 1025 < length (xs ++ found.line) = λ xs l. simp length-append (omega arith) in
      elim found.rest [
        | inl e ↦
            let last : (xs : List ℕ) → HasNoNewline xs → 1025 < length xs → walk r (lines (xs ++ tail)) ≡ step (too_long r) [] =
            λ xs c l. ap (λ t. walk r (lines (xs ++ t))) e ∙ walk-last r (xs ++ found.line) (clear xs c) (longer xs l) in
            last long h m ∙ sym (last other k n)
        | inr w ↦
            let line : (xs : List ℕ) → HasNoNewline xs → 1025 < length xs
            → walk r (lines (xs ++ tail)) ≡ step (too_long r) (lines w.0) =
            λ xs c l. ap (λ t. walk r (lines (xs ++ t))) w.1 ∙ ap (λ t. walk r (lines t)) (sym (append_assoc xs found.line (10 ∷ w.0)))
            ∙ walk-line r (xs ++ found.line) w.0 (clear xs c) (longer xs l) in
            line long h m ∙ sym (line other k n)
      ]

  -- the first 1,026 bytes of a line are as the line
  held_is_enough : (line : List ℕ) → HasNoNewline line → (r : PlainSession) (tail : List ℕ)
      → walk r (lines (take 1026 line ++ tail)) ≡ walk r (lines (line ++ tail))
  held_is_enough line h r tail = elim (cases_lt 1026 (length line)) [
    | inl more ↦ overlong_same r (take 1026 line) line (no_newline-take 1026 line h) h (omega (arith, length-take 1026 line)) (omega arith) tail
    | inr all ↦ ap (λ l. walk r (lines (l ++ tail))) (take_all 1026 line all)
  ]

  kept_is_enough : (old bytes new : List ℕ) → HasNoNewline old → HasNoNewline bytes → new ≡ take 1026 (old ++ bytes)
      → (r : PlainSession) (tail : List ℕ) → walk r (lines (new ++ tail)) ≡ walk r (lines ((old ++ bytes) ++ tail))
  kept_is_enough old bytes new h k e r tail =
      ap (λ l. walk r (lines (l ++ tail))) e ∙ held_is_enough (old ++ bytes) (no_newline-append old bytes h k) r tail

-- what is kept of a line is answered as all of it, and leads to the same session
pub kept_is_answered : (old bytes new : List ℕ) → HasNoNewline old → HasNoNewline bytes → new ≡ take 1026 (old ++ bytes)
    → IsAnsweredAs new (old ++ bytes)
kept_is_answered = kept_is_enough replies (λ step more. step.text ++ replies step.session more) (λ s line more. refl)

pub kept_leads : (old bytes new : List ℕ) → HasNoNewline old → HasNoNewline bytes → new ≡ take 1026 (old ++ bytes)
    → LeadsAs new (old ++ bytes)
kept_leads = kept_is_enough session_after (λ step more. session_after step.session more) (λ s line more. refl)

-- as many bytes added as there is room for
pub with_front_of : (old bytes : List ℕ) (free count room : ℕ) → free + length old ≡ room → count ≡ min free (length bytes)
    → old ++ take count bytes ≡ take room (old ++ bytes)
with_front_of old bytes free count room r c =
    let e : room ≡ length old + free = omega arith in
    ap (λ n. old ++ take n bytes) c ∙ ap (λ t. old ++ t) (take_min free bytes)
    ∙ sym (take-append-add old bytes free) ∙ ap (λ n. take n (old ++ bytes)) (sym e)
