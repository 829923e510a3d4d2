-- Heads in the first 8,192 bytes, and in all of them.
use Rattle.std.proofs.Common.{◌≡◌, ℕ, Bool, true, false, ◌==◌, ◌||◌, [], ◌∷◌, refl, inl, inr, ◌+◌, ◌-◌, ◌<◌, ◌≤◌, List, ◌++◌, length, take, drop, sym, ap, ◌∙◌, subst, arith, append_assoc, length-append, length-take, map}
use Rattle.std.proofs.lemmas.Bool.{cases_lt}
use Rattle.std.proofs.lemmas.List.{take-append-drop, take-append-le, drop-append-le, length-map}
use Rattle.std.specs.List.{list_any, flat_map}
use Rattle.std.proofs.Math.Seq.{take-append-add, drop-append_seam}
use Rattle.httparse.specs.declared.spans.HeaderSpan.{HeaderSpan}
use Rattle.httparse.specs.declared.spans.RequestSpans.{RequestSpans}
use Rattle.httparse.specs.Grammar.{Field, LineEnd, crlf, lf, print_end, print_blank, print_version, print_field, RequestHead, print_request, ReadsRequest, HasNoRequest}
use Rattle.httparse.specs.Ascii.{space}
use Rattle.httparse.specs.Spans.{RequestOverflows, IsRequestWithin, IsRequestAt, span_bytes, header_bytes, name_and_value}
use Rattle.httparse.proofs.GrammarLemmas.{ReadsRequest-append}
use Rattle.wire_http.specs.Head.{PlainHead, HasNoHead, NeverHasHead, plain_head, head_at}
use Rattle.wire_http.specs.Front.{BeginsWithHead}

-- what stands behind the first text of two
pub behind : (bytes p r : List ℕ) (n : ℕ) → bytes ≡ p ++ r → n ≡ length p → bytes ≡ p ++ drop n bytes
behind bytes p r n e size =
    e ∙ ap (λ t. p ++ t) (sym (ap (λ k. drop k bytes) size ∙ ap (drop (length p)) e ∙ drop-append_seam p r))

-- so many bytes of two texts have the first, and begin the second
front_of : (n : ℕ) (bytes p r : List ℕ) → bytes ≡ p ++ r → length p ≤ n → take n bytes ≡ p ++ take (n - length p) r
front_of n bytes p r e short =
    let whole : n ≡ length p + (n - length p) = omega arith in
    ap (λ k. take k bytes) whole ∙ ap (take (length p + (n - length p))) e ∙ take-append-add p r (n - length p)

-- a head in the front is a head of all
pub head_in_front : (n : ℕ) (bytes : List ℕ) (h : RequestHead) (rest : List ℕ) → ReadsRequest (take n bytes) h rest
    → ReadsRequest bytes h (rest ++ drop n bytes)
head_in_front n bytes h rest x =
    subst (λ (b : List ℕ). ReadsRequest b h (rest ++ drop n bytes)) (take-append-drop n bytes)
    (ReadsRequest-append (take n bytes) h rest (drop n bytes) x)

-- where the front has no head in its room, however it goes on, all have none
pub overflow_never : (bytes : List ℕ) → RequestOverflows 64 (take 8192 bytes) → NeverHasHead bytes
overflow_never bytes over more h rest x =
    let whole : take 8192 bytes ++ (drop 8192 bytes ++ more) ≡ bytes ++ more =
    sym (append_assoc (take 8192 bytes) (drop 8192 bytes) more) ∙ ap (λ b. b ++ more) (take-append-drop 8192 bytes) in
    let many : 64 < length h.fields =
    over (drop 8192 bytes ++ more) h rest (subst (λ (b : List ℕ). ReadsRequest b h rest) (sym whole) x.reads) in
    let few = x.lines in
    absurd (omega arith)

-- a head of so many bytes is one in the front
pub none_in_front : (bytes : List ℕ) → HasNoRequest (take 8192 bytes) → HasNoHead bytes
none_in_front bytes none h rest x =
    none h (take (8192 - length (print_request h)) rest)
    (x.reads.0, front_of 8192 bytes (print_request h) rest x.reads.1 x.short)

-- what has no head in 8,192 bytes has none however it goes on
pub none_in_longest : (bytes : List ℕ) → HasNoRequest (take 8192 bytes) → 8192 ≤ length bytes → NeverHasHead bytes
none_in_longest bytes none long more h rest x =
    let same : take 8192 (bytes ++ more) ≡ take 8192 bytes = take-append-le 8192 bytes more long in
    none h (take (8192 - length (print_request h)) rest)
    (x.reads.0, sym same ∙ front_of 8192 (bytes ++ more) (print_request h) rest x.reads.1 x.short)

-- how many bytes the head at the front of others has
head_length : (bytes p r : List ℕ) → bytes ≡ p ++ r → length p ≤ length bytes
head_length bytes p r e = omega (arith, ap length e, length-append p r)

-- the name and the value of as many fields
field_count : (room : ℕ) (bytes : List ℕ) (headers : List HeaderSpan) (count : ℕ) (fields : List Field) → length headers ≡ room → count ≤ length headers
    → map (header_bytes bytes) (take count headers) ≡ map name_and_value fields → length fields ≤ room
field_count room bytes headers count fields size within same =
    omega (arith, length-map fields name_and_value, length-map (take count headers) (header_bytes bytes), ap length same, length-take count headers)

-- what stands at the places that the parser found says what the head says
head_says : (bytes : List ℕ) (headers : List HeaderSpan) (spans : RequestSpans) (h : RequestHead) → IsRequestAt bytes headers spans h
    → head_at bytes headers spans ≡ plain_head h
head_says bytes headers spans h x =
    let made : List ℕ → List ℕ → ℕ → List (List ℕ × List ℕ) → PlainHead = λ m t v f. record { method = m; target = t; minor = v; fields = f } in
    ap (λ m. made m (span_bytes bytes spans.path) spans.version (map (header_bytes bytes) (take spans.headers headers))) x.method
    ∙ ap (λ t. made h.method t spans.version (map (header_bytes bytes) (take spans.headers headers))) x.path
    ∙ ap (λ v. made h.method h.target v (map (header_bytes bytes) (take spans.headers headers))) x.version
    ∙ ap (λ f. made h.method h.target h.minor f) x.fields

-- a head that the parser finds in the front is the head at the front of all
pub head_found : (bytes front : List ℕ) (headers : List HeaderSpan) (spans : RequestSpans) (h : RequestHead) → front ≡ take 8192 bytes → length headers ≡ 64
    → IsRequestWithin front headers spans → IsRequestAt front headers spans h → BeginsWithHead bytes (head_at front headers spans) spans.len h
head_found bytes front headers spans h e room within x =
    let found : ReadsRequest (take 8192 bytes) h (drop spans.len front) = subst (λ (b : List ℕ). ReadsRequest b h (drop spans.len front)) e x.reads in
    let whole = head_in_front 8192 bytes h (drop spans.len front) found in
    let size : length (print_request h) ≤ length (take 8192 bytes) = head_length (take 8192 bytes) (print_request h) _ found.1 in
    record {
      reads = record {
        reads = (whole.0, behind bytes (print_request h) _ spans.len whole.1 x.len);
        short = omega (arith, size, length-take 8192 bytes);
        lines = field_count 64 front headers spans.headers h.fields room within.section.count_fits x.fields;
      };
      size_is = x.len;
      head_is = head_says front headers spans h x;
    }

-- ---- a head ends with a line

ends_with_line : (last : LineEnd) → (q : List ℕ) × (print_end last ≡ q ++ 10 ∷ [])
ends_with_line crlf = (13 ∷ [], refl)
ends_with_line lf = ([], refl)

head_ends : (h : RequestHead) → (q : List ℕ) × (print_request h ≡ q ++ 10 ∷ [])
unfolding print_request
head_ends h =
    let end = ends_with_line h.last in
    let front = print_blank h.blank ++ h.method ++ space ∷ h.target ++ space ∷ print_version h.minor ++ print_end h.line_end in
    let fields = flat_map print_field h.fields in (
      front ++ (fields ++ end.0),
      ap (λ t. front ++ (fields ++ t)) end.1 ∙ ap (λ t. front ++ t) (sym (append_assoc fields end.0 (10 ∷ []))) ∙ sym (append_assoc front (fields ++ end.0) (10 ∷ [])),
    )

-- some byte behind others is found
found_behind : (xs rest : List ℕ) → list_any (λ b. b == 10) (xs ++ 10 ∷ rest) ≡ true
found_behind [] rest = refl
found_behind (x ∷ xs) rest = or_true (x == 10) _ (found_behind xs rest)
  where
    or_true : (a b : Bool) → b ≡ true → (a || b) ≡ true
    or_true true b e = refl
    or_true false b e = e

line_end_behind : (bytes p r q : List ℕ) (seen : ℕ) → bytes ≡ p ++ r → p ≡ q ++ 10 ∷ [] → seen < length p → list_any (λ b. b == 10) (drop seen bytes) ≡ true
line_end_behind bytes p r q seen e ends early =
    let short : seen ≤ length q = omega (arith, ap length ends, length-append q (10 ∷ [])) in
    let same : bytes ≡ q ++ 10 ∷ r = e ∙ ap (λ t. t ++ r) ends ∙ append_assoc q (10 ∷ []) r in
    ap (λ t. list_any (λ b. b == 10) (drop seen t)) same ∙ ap (list_any (λ b. b == 10)) (drop-append-le seen q (10 ∷ r) short) ∙ found_behind (drop seen q) r

-- where no line ends behind bytes without a head, there is none
pub none_without_line_end : (bytes : List ℕ) (seen : ℕ) → HasNoHead (take seen bytes) → list_any (λ b. b == 10) (drop seen bytes) ≡ false → HasNoHead bytes
none_without_line_end bytes seen none lines h rest x =
    elim (cases_lt seen (length (print_request h))) [
      | inl long ↦
          let found : list_any (λ b. b == 10) (drop seen bytes) ≡ true = line_end_behind bytes (print_request h) rest (head_ends h).0 seen x.reads.1 (head_ends h).1 long in
          let both : false ≡ true = sym lines ∙ found in absurd (cc)
      | inr short ↦ none h (take (seen - length (print_request h)) rest)
          (record { reads = (x.reads.0, front_of seen bytes (print_request h) rest x.reads.1 short); short = x.short; lines = x.lines })
    ]
