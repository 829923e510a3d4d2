-- When no more bytes change what a line asks.
use Rattle.std.proofs.Common.{◌≡◌, ◌≢◌, ℕ, ◌+◌, ◌-◌, ◌<◌, ◌≤◌, ◌==◌, List, [], ◌∷◌, ◌++◌, All, Option, None, Some, length, refl, sym, ap, ◌∙◌, inl, inr, ◌⊎◌, arith, append_assoc, length-append, length-take, ne_eqb}
use Rattle.std.specs.Prelude.{slice_index, Err}
use Rattle.std.specs.Option.{option_map, option_map_or}
use Rattle.std.specs.Str.Lines.{strip_carriage_return}
use Rattle.std.proofs.lemmas.Bool.{cases_Bool, cases_eq, cond-false, lt-ltb}
use Rattle.std.proofs.lemmas.List.Elements.{All-nil, All-cons, All-head, All-tail, All-append}
use Rattle.addr_text.specs.Reading.{parted_at}
use Rattle.nrtm_stream.specs.declared.ask.AskFault.TheVariants.{Malformed}
use Rattle.nrtm_stream.specs.Stream.{capitals}
use Rattle.hall.specs.Stream.{line_in, line_asks, asked_in}

abbrev HasNoFeed : List ℕ → Type 0
HasNoFeed text = All (λ b. b ≢ 10) text

-- ---- the first line feed

abbrev with_byte : ℕ → Option (List ℕ × List ℕ) → Option (List ℕ × List ℕ)
with_byte b parts = option_map (λ parts. (b ∷ parts.0, parts.1)) parts

parted_here : (front back : List ℕ) → HasNoFeed front → parted_at 10 (front ++ 10 ∷ back) ≡ Some (front, back)
parted_here [] back h = refl
parted_here (b ∷ front) back h =
    cond-false (b == 10) (Some ([], front ++ 10 ∷ back)) (with_byte b (parted_at 10 (front ++ 10 ∷ back))) (ne_eqb b 10 (All-head (λ b. b ≢ 10) b front h))
    ∙ ap (with_byte b) (parted_here front back (All-tail (λ b. b ≢ 10) b front h))

parted_nowhere : (text : List ℕ) → HasNoFeed text → parted_at 10 text ≡ None
parted_nowhere [] h = refl
parted_nowhere (b ∷ bs) h =
    cond-false (b == 10) (Some ([], bs)) (with_byte b (parted_at 10 bs)) (ne_eqb b 10 (All-head (λ b. b ≢ 10) b bs h))
    ∙ ap (with_byte b) (parted_nowhere bs (All-tail (λ b. b ≢ 10) b bs h))

-- the line ends at the first line feed
line_at_feed : (front back : List ℕ) → HasNoFeed front → line_in (front ++ 10 ∷ back) ≡ strip_carriage_return front
line_at_feed front back h = ap (λ parts. option_map_or (λ parts. strip_carriage_return parts.0) parts (front ++ 10 ∷ back)) (parted_here front back h)

line_of_all : (text : List ℕ) → HasNoFeed text → line_in text ≡ text
line_of_all text h = ap (λ parts. option_map_or (λ parts. strip_carriage_return parts.0) parts text) (parted_nowhere text h)

-- what stands behind a line feed doesn't matter
pub settled_at_feed : (bytes front back : List ℕ) → bytes ≡ front ++ 10 ∷ back → HasNoFeed front → (registry more : List ℕ)
    → asked_in registry (bytes ++ more) ≡ asked_in registry bytes
settled_at_feed bytes front back is h registry more =
    let longer : bytes ++ more ≡ front ++ 10 ∷ (back ++ more) = ap (λ l. l ++ more) is ∙ append_assoc front (10 ∷ back) more in
    ap (line_asks (capitals registry))
    (ap line_in longer ∙ line_at_feed front (back ++ more) h ∙ sym (ap line_in is ∙ line_at_feed front back h))

-- ---- lines that are too long

strip_loses_one : (line : List ℕ) → length line ≤ length (strip_carriage_return line) + 1
strip_loses_one line = elim (cases_Bool (slice_index line (length line - 1) == 13)) [
  | inl e ↦ rw e (omega (arith, length-take (length line - 1) line))
  | inr e ↦ rw e (omega arith)
]

abbrev FirstFeed : List ℕ → Type 0
FirstFeed text = HasNoFeed text ⊎ ((front : List ℕ) × (back : List ℕ) × HasNoFeed front × (text ≡ front ++ 10 ∷ back))

feed_behind : (b : ℕ) (bs : List ℕ) → b ≢ 10 → FirstFeed bs → FirstFeed (b ∷ bs)
feed_behind b bs other (inl none) = inl (All-cons (λ b. b ≢ 10) b bs other none)
feed_behind b bs other (inr found) =
    inr (b ∷ found.0, found.1, All-cons (λ b. b ≢ 10) b found.0 other found.2, ap (λ l. b ∷ l) found.3)

first_feed : (text : List ℕ) → FirstFeed text
first_feed [] = inl (All-nil (λ b. b ≢ 10))
first_feed (b ∷ bs) = elim (cases_eq b 10) [
  | inl same ↦ inr ([], bs, All-nil (λ b. b ≢ 10), ap (λ n. n ∷ bs) same)
  | inr other ↦ feed_behind b bs other (first_feed bs)
]

-- the line is as long as the bytes without a line feed at the front, but for a carriage return
line_is_long : (text more : List ℕ) → HasNoFeed text → FirstFeed more → length text ≤ length (line_in (text ++ more)) + 1
line_is_long text more h (inl none) =
    let whole : line_in (text ++ more) ≡ text ++ more = line_of_all (text ++ more) (All-append (λ b. b ≢ 10) text more h none) in
    omega (arith, ap length whole, length-append text more)
line_is_long text more h (inr found) =
    let front : List ℕ = text ++ found.0 in
    let same : text ++ more ≡ front ++ 10 ∷ found.1 = ap (λ l. text ++ l) found.3 ∙ sym (append_assoc text found.0 (10 ∷ found.1)) in
    let line : line_in (text ++ more) ≡ strip_carriage_return front =
    ap line_in same ∙ line_at_feed front found.1 (All-append (λ b. b ≢ 10) text found.0 h found.2) in
    omega (arith, ap length line, strip_loses_one front, length-append text found.0)

long_is_malformed : (source line : List ℕ) → 1024 < length line → line_asks source line ≡ Err Malformed
long_is_malformed source line long = rw (lt-ltb 1024 (length line) long) refl

long_asks_nothing : (text more : List ℕ) → 1026 ≤ length text → HasNoFeed text → (registry : List ℕ) → asked_in registry (text ++ more) ≡ Err Malformed
long_asks_nothing text more long h registry =
    let at_least : length text ≤ length (line_in (text ++ more)) + 1 = line_is_long text more h (first_feed more) in
    long_is_malformed (capitals registry) (line_in (text ++ more)) (omega arith)

-- bytes that are too many for a line and its end ask for nothing, whatever comes
pub settled_when_long : (bytes : List ℕ) → 1026 ≤ length bytes → HasNoFeed bytes → (registry more : List ℕ)
    → asked_in registry (bytes ++ more) ≡ asked_in registry bytes
settled_when_long bytes long h registry more =
    let line : line_in bytes ≡ bytes = line_of_all bytes h in
    long_asks_nothing bytes more long h registry
    ∙ sym (long_is_malformed (capitals registry) (line_in bytes) (omega (arith, ap length line)))
