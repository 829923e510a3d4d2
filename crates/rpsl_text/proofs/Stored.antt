-- Attributes that are added to those that are kept, and a last one that goes on.
use Rattle.std.proofs.Common.{◌≡◌, ℕ, ◌+◌, ◌-◌, ◌≤◌, List, [], ◌∷◌, ◌++◌, length, get_or, take, drop, sum_by, Some, refl, sym, ap, ap₂, ◌∙◌, subst, arith, length-append, length-take, length-drop, append_assoc, zero-add}
use Rattle.std.proofs.lemmas.List.{take_all, take_more, length-take-le, drop_all, take-take, take-append-drop, take-append-le, drop-append-le}
use Rattle.std.proofs.lemmas.List.Sums.{sum_by-cons, sum_by-append}
use Rattle.std.specs.Option.{option_map}
use Rattle.rpsl_text.specs.declared.attrs.Span.{Span}
use Rattle.rpsl_text.specs.Attributes.{span_length, attributes_at, AreSpansOf, last_of}
use Rattle.rpsl_text.specs.Lines.{continued}
use Rattle.rpsl_text.specs.Reading.{gone_on}
use Rattle.std.proofs.Math.Seq.{take-append_seam, drop-append_seam}

one : (name value : List ℕ) (s : Span) → s.name ≡ length name → s.value ≡ length value
    → attributes_at (name ++ value) (s ∷ []) ≡ (name, value) ∷ []
one name value s is_name is_value =
    let front : take s.name (name ++ value) ≡ name = ap (λ n. take n (name ++ value)) is_name ∙ take-append_seam name value in
    let back : drop s.name (name ++ value) ≡ value = ap (λ n. drop n (name ++ value)) is_name ∙ drop-append_seam name value in
    let all : take s.value value ≡ value = take_all s.value value (omega (arith, is_value)) in
    ap₂ (λ (a b : List ℕ). (a, b) ∷ []) front (ap (take s.value) back ∙ all)

-- one attribute more behind all others
pub stored : (bytes : List ℕ) (spans : List Span) (name value : List ℕ) (s : Span) → AreSpansOf bytes spans → s.name ≡ length name → s.value ≡ length value
    → attributes_at (bytes ++ (name ++ value)) (spans ++ s ∷ []) ≡ attributes_at bytes spans ++ (name, value) ∷ []
stored [] [] name value s total is_name is_value = one name value s is_name is_value
stored (b ∷ bytes) [] name value s total is_name is_value = absurd (omega (arith, total))
stored bytes (t ∷ spans) name value s total is_name is_value =
    let more = name ++ value in
    let sum : t.name + t.value + sum_by span_length spans ≡ length bytes = sym (sum_by-cons span_length t spans) ∙ total in
    let low : t.name ≤ length bytes = omega (arith, sum) in
    let left : List ℕ = drop t.name bytes in
    let left_length : length left ≡ length bytes - t.name = length-drop t.name bytes in
    let high : t.value ≤ length left = omega (arith, sum) in
    let rest : sum_by span_length spans ≡ length (drop t.value left) = omega (arith, sum, length-drop t.value left) in
    let front : take t.name (bytes ++ more) ≡ take t.name bytes = take-append-le t.name bytes more low in
    let behind : drop t.name (bytes ++ more) ≡ left ++ more = drop-append-le t.name bytes more low in
    let middle : take t.value (drop t.name (bytes ++ more)) ≡ take t.value left = ap (take t.value) behind ∙ take-append-le t.value left more high in
    let end : drop t.value (drop t.name (bytes ++ more)) ≡ drop t.value left ++ more = ap (drop t.value) behind ∙ drop-append-le t.value left more high in
    ap₂ (λ (a : List ℕ × List ℕ) (more : List (List ℕ × List ℕ)). a ∷ more) (ap₂ (λ (a b : List ℕ). (a, b)) front middle)
    (ap (λ (bs : List ℕ). attributes_at bs (spans ++ s ∷ [])) end ∙ stored (drop t.value left) spans name value s rest is_name is_value)

-- the last one goes on
last_goes_on : (attributes : List (List ℕ × List ℕ)) (name value text : List ℕ)
    → gone_on (attributes ++ (name, value) ∷ []) text ≡ Some (attributes ++ (name, continued value text) ∷ [])
last_goes_on [] name value text = refl
last_goes_on (a ∷ []) name value text = refl
last_goes_on (a ∷ b ∷ more) name value text = ap (option_map (λ rest. a ∷ rest)) (last_goes_on (b ∷ more) name value text)

pub begins : (bytes mid new : List ℕ) (spans : List Span) (s : Span) (name text : List ℕ) (start : ℕ) → AreSpansOf bytes spans
    → mid ≡ bytes ++ name → start ≡ length mid → take start new ≡ take start mid → drop start new ≡ continued (drop start mid) text
    → s.name ≡ start - length bytes → s.value ≡ length new - start
    → attributes_at new (spans ++ s ∷ []) ≡ attributes_at bytes spans ++ (name, continued [] text) ∷ []
begins bytes mid new spans s name text start total named starts front value is_name is_value =
    let lengths : length mid ≡ length bytes + length name = ap length named ∙ length-append bytes name in
    let whole : take start mid ≡ mid = take_all start mid (omega (arith, starts)) in
    let none : drop start mid ≡ [] = drop_all start mid (omega (arith, starts)) in
    let back : drop start new ≡ continued [] text = value ∙ ap (λ (v : List ℕ). continued v text) none in
    let all : new ≡ bytes ++ (name ++ continued [] text) =
    sym (take-append-drop start new) ∙ ap₂ (λ (a b : List ℕ). a ++ b) (front ∙ whole ∙ named) back ∙ append_assoc bytes name (continued [] text) in
    let size : length new ≡ length bytes + (length name + length (continued [] text)) =
    ap length all ∙ length-append bytes (name ++ continued [] text) ∙ ap (λ n. length bytes + n) (length-append name (continued [] text)) in
    ap (λ (bs : List ℕ). attributes_at bs (spans ++ s ∷ [])) all
    ∙ stored bytes spans name (continued [] text) s total (omega (arith, lengths, starts, is_name)) (omega (arith, lengths, size, starts, is_value))

-- attributes of which the last goes on
pub goes_on : (bytes new : List ℕ) (spans : List Span) (was is : Span) (text : List ℕ) (start : ℕ) → AreSpansOf bytes (spans ++ was ∷ [])
    → start ≡ length bytes - was.value → take start new ≡ take start bytes → drop start new ≡ continued (drop start bytes) text
    → is.name ≡ was.name → is.value ≡ length new - start
    → gone_on (attributes_at bytes (spans ++ was ∷ [])) text ≡ Some (attributes_at new (spans ++ is ∷ []))
goes_on bytes new spans was is text start total starts front back is_name is_value =
    let sum : sum_by span_length spans + (was.name + was.value) ≡ length bytes =
    ap (λ n. sum_by span_length spans + n) (sym (zero-add (was.name + was.value))) ∙ sym (sum_by-append span_length spans (was ∷ [])) ∙ total in
    let from : ℕ = start - was.name in
    let others : List ℕ = take from bytes in
    let name : List ℕ = drop from (take start bytes) in
    let value : List ℕ = drop start bytes in
    let parts : take start bytes ≡ others ++ name =
    sym (take-append-drop from (take start bytes)) ∙ ap (λ (t : List ℕ). t ++ name) (take-take from start bytes (omega arith)) in
    let was_all : bytes ≡ others ++ (name ++ value) =
    sym (take-append-drop start bytes) ∙ ap (λ (t : List ℕ). t ++ value) parts ∙ append_assoc others name value in
    let is_all : new ≡ others ++ (name ++ continued value text) =
    sym (take-append-drop start new) ∙ ap₂ (λ (a b : List ℕ). a ++ b) (front ∙ parts) back ∙ append_assoc others name (continued value text) in
    let others_length : sum_by span_length spans ≡ length others = omega (arith, sum, starts, length-take from bytes) in
    let name_length : was.name ≡ length name = omega (arith, sum, starts, length-drop from (take start bytes), length-take start bytes) in
    let value_length : was.value ≡ length value = omega (arith, sum, starts, length-drop start bytes) in
    let more_length : is.value ≡ length (continued value text) = is_value ∙ sym (length-drop start new) ∙ ap length back in
    ap (λ (all : List (List ℕ × List ℕ)). gone_on all text)
    (ap (λ (bs : List ℕ). attributes_at bs (spans ++ was ∷ [])) was_all ∙ stored others spans name value was others_length name_length value_length)
    ∙ last_goes_on (attributes_at others spans) name value text
    ∙ ap Some (sym (ap (λ (bs : List ℕ). attributes_at bs (spans ++ is ∷ [])) is_all
    ∙ stored others spans name (continued value text) is others_length (is_name ∙ name_length) more_length))

-- ---- the last one

last_of_more : (attributes : List (List ℕ × List ℕ)) (a : List ℕ × List ℕ) → last_of (attributes ++ a ∷ []) ≡ Some a
last_of_more [] a = refl
last_of_more (b ∷ []) a = refl
last_of_more (b ∷ c ∷ more) a = last_of_more (c ∷ more) a

last_parted : (bytes : List ℕ) (spans : List Span) (s : Span) (front : List ℕ) → AreSpansOf bytes (spans ++ s ∷ []) → front ≡ take (length bytes - s.value) bytes
    → last_of (attributes_at bytes (spans ++ s ∷ [])) ≡ Some (drop (length front - s.name) front, drop (length bytes - s.value) bytes)
last_parted bytes spans s front total is_front =
    let sum : sum_by span_length spans + (s.name + s.value) ≡ length bytes =
    ap (λ n. sum_by span_length spans + n) (sym (zero-add (s.name + s.value))) ∙ sym (sum_by-append span_length spans (s ∷ [])) ∙ total in
    let start : ℕ = length bytes - s.value in
    let from : ℕ = length front - s.name in
    let others : List ℕ = take from front in
    let name : List ℕ = drop from front in
    let value : List ℕ = drop start bytes in
    let lengths : length front ≡ length bytes - s.value = ap length is_front ∙ length-take-le start bytes (omega arith) in
    let all : bytes ≡ others ++ (name ++ value) =
    sym (take-append-drop start bytes) ∙ ap (λ (t : List ℕ). t ++ value) (sym is_front ∙ sym (take-append-drop from front)) ∙ append_assoc others name value in
    let others_length : sum_by span_length spans ≡ length others = omega (arith, sum, lengths, length-take from front) in
    let name_length : s.name ≡ length name = omega (arith, sum, lengths, length-drop from front) in
    let value_length : s.value ≡ length value = omega (arith, sum, length-drop start bytes) in
    ap (λ (bs : List ℕ). last_of (attributes_at bs (spans ++ s ∷ []))) all
    ∙ ap last_of (stored others spans name value s others_length name_length value_length)
    ∙ last_of_more (attributes_at others spans) (name, value)

-- all but the last, and the last
pub ends : (spans : List Span) (d : Span) → 1 ≤ length spans → spans ≡ take (length spans - 1) spans ++ get_or spans (length spans - 1) d ∷ []
ends spans d some =
    sym (take_all (length spans - 1 + 1) spans (omega (arith, some))) ∙ take_more spans (length spans - 1) d (omega (arith, some))

pub last_read : (bytes all front value name : List ℕ) (spans others : List Span) (s : Span) → AreSpansOf bytes spans → spans ≡ others ++ s ∷ [] → all ≡ bytes
    → front ≡ take (length all - s.value) all → value ≡ drop (length all - s.value) all → name ≡ drop (length front - s.name) front
    → Some (name, value) ≡ last_of (attributes_at bytes spans)
last_read bytes all front value name spans others s total is_spans is_all is_front is_value is_name =
    let sum : AreSpansOf bytes (others ++ s ∷ []) = subst (λ (ss : List Span). AreSpansOf bytes ss) is_spans total in
    let start : front ≡ take (length bytes - s.value) bytes = is_front ∙ ap (λ (bs : List ℕ). take (length bs - s.value) bs) is_all in
    let back : value ≡ drop (length bytes - s.value) bytes = is_value ∙ ap (λ (bs : List ℕ). drop (length bs - s.value) bs) is_all in
    ap₂ (λ (n v : List ℕ). Some (n, v)) is_name back ∙ sym (last_parted bytes others s front sum start)
    ∙ ap (λ (ss : List Span). last_of (attributes_at bytes ss)) (sym is_spans)
