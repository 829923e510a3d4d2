-- The lines round the objects of a stream, each in its place.
use Rattle.std.proofs.Common.{◌≡◌, ◌≢◌, ℕ, ◌+◌, ◌-◌, ◌^◌, ◌<◌, ◌≤◌, min, true, false, ◌==◌, nat_lt, nat_le, List, [], ◌∷◌, ◌++◌, All, decimal, codes, Option, None, Some, Result, Ok, Err, refl, sym, ap, ◌∙◌, arith, ne_eqb, eq-eqb, le-ltb, lt-ltb, le-leb}
use Rattle.std.proofs.lemmas.Bool.{cond-false}
use Rattle.std.proofs.lemmas.Fmt.{decimal_digit}
use Rattle.std.proofs.lemmas.List.Elements.{All-head, All-tail}
use Rattle.std.specs.Option.{option_map}
use Rattle.addr_text.specs.Reading.{◌>>=◌, parted_at}
use Rattle.addr_text.proofs.Computed.{decimal_found}
use Rattle.reg_entry.specs.declared.object.Act.{Act}
use Rattle.reg_entry.specs.declared.object.Act.TheVariants.{Add, Del}
use Rattle.nrtm_stream.specs.Stream.{act_word}
use Rattle.mirror_core.specs.declared.fault.FeedFault.{FeedFault}
use Rattle.mirror_core.specs.declared.fault.FeedFault.TheVariants.{Spelling}
use Rattle.mirror_core.specs.Mirror.{PlainMirror, PlainStream, PlainDraft}
use Rattle.mirror_core.specs.Framing.{Start, serial_of, start_with, started, start_line, no_lines, operation_with, operation_of, begun, operation_line, end_line}
use Rattle.mirror_core.specs.Line.{after_line}
use Rattle.mirror_laws.proofs.Words.{IsWord, word_between, word_first, word_alone, bytes_same, decimal_word, decimal_no_dash}
use Rattle.mirror_laws.proofs.Lines.{Objects, at}

abbrev pub between : ℕ → ℕ → Option PlainDraft → Option PlainStream
between next last draft = Some (record { next = next; last = last; draft = draft })

-- the line that nothing is newer
pub no_newer_passes : (source : List ℕ) (os : Objects) (n place : ℕ) (line : List ℕ) → line ≡ codes "% no newer operations"
    → after_line (at source os n None [] place) line ≡ Ok (at source os n None [] place)
no_newer_passes source os n place line e = ap (λ (l : List ℕ). after_line (at source os n None [] place) l) e

-- ---- the start

abbrev with_dash : ℕ → ℕ → List ℕ
with_dash a b = decimal a ++ 45 ∷ decimal b

abbrev pub start_text : List ℕ → ℕ → ℕ → List ℕ
start_text source a b = codes "%START Version: 3 " ++ (source ++ 32 ∷ with_dash a b)

pub parted : (front back : List ℕ) → All (λ b. b ≢ 45) front → parted_at 45 (front ++ 45 ∷ back) ≡ Some (front, back)
parted [] back h = refl
parted (b ∷ front) back h =
    let P : ℕ → Type 0 = λ b. b ≢ 45 in
    cond-false (b == 45) (Some ([], front ++ 45 ∷ back)) (option_map (λ parts. (b ∷ parts.0, parts.1)) (parted_at 45 (front ++ 45 ∷ back))) (ne_eqb b 45 (All-head P b front h))
    ∙ ap (option_map (λ parts. (b ∷ parts.0, parts.1))) (parted front back (All-tail P b front h))

abbrev start_of_serials : List ℕ → ℕ → ℕ → Start
start_of_serials source a b = record { version = 3; source = source; first = a; last = b }

serial_read : (n : ℕ) → n < 2 ^ 64 → serial_of (decimal n) ≡ Some n
serial_read n fits = decimal_found (2 ^ 64 - 1) n (decimal n) refl (omega arith) (omega arith)

three : serial_of (codes "3") ≡ Some 3
three = ap serial_of (sym (decimal_digit 3 (omega arith))) ∙ serial_read 3 (omega arith)

start_read : (source : List ℕ) (a b : ℕ) → a < 2 ^ 64 → b < 2 ^ 64 → start_with (codes "3") source (with_dash a b) ≡ Some (start_of_serials source a b)
unfolding start_with
start_read source a b low high =
    ap (λ (o : Option ℕ). o >>= λ number. parted_at 45 (with_dash a b) >>= λ parts. serial_of parts.0 >>= λ first. serial_of parts.1 >>= λ last. Some (record { version = number; source = source; first = first; last = last })) three
    ∙ ap (λ (o : Option (List ℕ × List ℕ)). o >>= λ parts. serial_of parts.0 >>= λ first. serial_of parts.1 >>= λ last. Some (start_of_serials source first last))
    (parted (decimal a) (decimal b) (decimal_no_dash a low))
    ∙ ap (λ (o : Option ℕ). o >>= λ first. serial_of (decimal b) >>= λ last. Some (start_of_serials source first last)) (serial_read a low)
    ∙ ap (λ (o : Option ℕ). o >>= λ last. Some (start_of_serials source a last)) (serial_read b high)

abbrev started_of : PlainMirror → Option Start → Result PlainMirror FeedFault
started_of m o = elim o [
  | None ↦ Err (Spelling m.place)
  | Some start ↦ started m start
]

abbrev with_operation : PlainMirror → Option (Act × ℕ) → Result PlainMirror FeedFault
with_operation m o = elim o [
  | None ↦ Err (Spelling m.place)
  | Some operation ↦ begun m operation m.stream
]

operation_read : (act : Act) (k : ℕ) → k < 2 ^ 64 → operation_of (act_word act ∷ decimal k ∷ []) ≡ Some (act, k)
unfolding operation_with
operation_read Add k fits = ap (λ (o : Option ℕ). o >>= λ serial. Some (Add, serial)) (serial_read k fits)
operation_read Del k fits = ap (λ (o : Option ℕ). o >>= λ serial. Some (Del, serial)) (serial_read k fits)

module _ (source : List ℕ) (os : Objects) (n place : ℕ) (line : List ℕ) where
  begins : (a b : ℕ) → a ≤ n + 1 → a < 2 ^ 64 → a ≤ b
      → started (at source os n None [] place) (start_of_serials source a b) ≡ Ok (at source os n (between a b None) [] place)
  begins a b near fits order =
      let no_gap : nat_lt (min (n + 1) (2 ^ 64 - 1)) a ≡ false = le-ltb _ a (omega arith) in
      let rises : nat_lt b a ≡ false = le-ltb b a order in
      rw (bytes_same source, no_gap, rises) refl

  pub start_passes : (a b : ℕ) → line ≡ start_text source a b → IsWord source → a ≤ n + 1 → a < 2 ^ 64 → b < 2 ^ 64 → a ≤ b
      → after_line (at source os n None [] place) line ≡ Ok (at source os n (between a b None) [] place)
  start_passes a b is word near low high order =
      let m : PlainMirror = at source os n None [] place in
      let range : IsWord (with_dash a b) = word_between (decimal a) (decimal b) 45 (omega arith) (decimal_word a low) (decimal_word b high) in
      ap (λ (l : List ℕ). after_line m l) is
      ∙ ap (λ (ws : List (List ℕ)). start_line m (codes "Version:" ∷ codes "3" ∷ ws))
      (word_first source (with_dash a b) word ∙ ap (λ (ws : List (List ℕ)). source ∷ ws) (word_alone (with_dash a b) range))
      ∙ ap (started_of m) (start_read source a b low high)
      ∙ begins a b near low order

  -- ---- an operation

  -- an empty line before it, and between it and its object
  pub empty_passes : (k last : ℕ) → after_line (at source os n (between k last None) [] place) [] ≡ Ok (at source os n (between k last None) [] place)
  empty_passes k last = refl

  pub empty_act_passes : (act : Act) (k last : ℕ)
      → after_line (at source os n (between k last (Some (no_lines act))) [] place) [] ≡ Ok (at source os n (between k last (Some (no_lines act))) [] place)
  empty_act_passes act k last = refl

  act_begins : (act : Act) (k last : ℕ) → k ≤ last
      → begun (at source os n (between k last None) [] place) (act, k) (between k last None) ≡ Ok (at source os n (between k last (Some (no_lines act))) [] place)
  act_begins act k last order =
      let same : (k == k) ≡ true = eq-eqb k k refl in
      let less : nat_le k last ≡ true = le-leb k last order in
      rw (same, less) refl

  act_read : (act : Act) (k last : ℕ) → k < 2 ^ 64 → k ≤ last
      → operation_line (at source os n (between k last None) [] place) (act_word act ∷ decimal k ∷ [])
      ≡ Ok (at source os n (between k last (Some (no_lines act))) [] place)
  act_read act k last fits order =
      ap (with_operation (at source os n (between k last None) [] place)) (operation_read act k fits) ∙ act_begins act k last order

  pub act_passes : (act : Act) (k last : ℕ) → line ≡ act_word act ++ 32 ∷ decimal k → k < 2 ^ 64 → k ≤ last
      → after_line (at source os n (between k last None) [] place) line ≡ Ok (at source os n (between k last (Some (no_lines act))) [] place)
  act_passes Add k last is fits order =
      let m : PlainMirror = at source os n (between k last None) [] place in
      ap (λ (l : List ℕ). after_line m l) is
      ∙ ap (λ (ws : List (List ℕ)). operation_line m (codes "ADD" ∷ ws)) (word_alone (decimal k) (decimal_word k fits))
      ∙ act_read Add k last fits order
  act_passes Del k last is fits order =
      let m : PlainMirror = at source os n (between k last None) [] place in
      ap (λ (l : List ℕ). after_line m l) is
      ∙ ap (λ (ws : List (List ℕ)). operation_line m (codes "DEL" ∷ ws)) (word_alone (decimal k) (decimal_word k fits))
      ∙ act_read Del k last fits order

  -- ---- the end

  pub end_passes : (k last : ℕ) → line ≡ codes "%END " ++ source → IsWord source → last < k
      → after_line (at source os n (between k last None) [] place) line ≡ Ok (at source os n None [] place)
  end_passes k last is word over =
      let m : PlainMirror = at source os n (between k last None) [] place in
      let past : nat_lt last k ≡ true = lt-ltb last k over in
      ap (λ (l : List ℕ). after_line m l) is
      ∙ ap (end_line m) (word_alone source word)
      ∙ rw (bytes_same source, past) refl
