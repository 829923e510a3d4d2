-- The messages of bytes are one list, however the bytes came.
use Rattle.std.proofs.Common.{◌≡◌, ◌≢◌, ℕ, Bool, true, false, List, [], ◌∷◌, ◌++◌, length, take, drop, Ok, Err, Result, IsTrue, inl, inr, refl, sym, ap, ◌∙◌, subst, arith, append_assoc, append-nil, length-append}
use Rattle.std.proofs.Math.Seq.{take-append_seam, drop-append_seam}
use Rattle.httparse.specs.Grammar.{RequestHead, print_request, ReadsRequest}
use Rattle.httparse.proofs.GrammarLemmas.{request_unique, ReadsRequest-append}
use Rattle.wire_http.specs.Head.{ReadsHead, NeverHasHead, plain_head}
use Rattle.wire_http.specs.Body.{body_length}
use Rattle.wire_http.specs.Messages.{PlainMessage, BeginsWith, Behind, Ends, Unfinished, Fault, HasBadHead, IsBadBody, IsShortBody, IsFault, StandsBehind, AreMessagesOf}
use Rattle.wire_http.specs.Pieces.{Event, Came, Gave, Leads, came, given}
use Rattle.wire_http.proofs.Steps.{nothing_has_no_head}

-- the head of a message is the head of the bytes that begin with it
head_of : (bytes : List ℕ) (m : PlainMessage) (rest : List ℕ) → BeginsWith bytes m rest → (h : RequestHead) × ReadsHead bytes h (m.body ++ rest) × (body_length (plain_head h) ≡ Ok (length m.body)) × (m.head ≡ print_request h)
head_of bytes m rest x =
    let h = x.message.0 in
    let alone = x.message.1 in (
      h,
      record {
        reads = subst (λ (b : List ℕ). ReadsRequest b h (m.body ++ rest)) (sym x.whole) (ReadsRequest-append m.head h [] (m.body ++ rest) alone.reads);
        short = alone.short;
        lines = alone.lines;
      },
      x.message.2,
      alone.reads.1 ∙ append-nil (print_request h),
    )

-- two texts that are equal, with first parts of one length, have the same parts
same_parts : (a b r q : List ℕ) → length a ≡ length b → a ++ r ≡ b ++ q → (a ≡ b) × (r ≡ q)
same_parts a b r q size e = (
  sym (take-append_seam a r) ∙ ap (take (length a)) e ∙ ap (λ n. take n (b ++ q)) size ∙ take-append_seam b q,
  sym (drop-append_seam a r) ∙ ap (drop (length a)) e ∙ ap (λ n. drop n (b ++ q)) size ∙ drop-append_seam b q,
)

-- bytes begin with one message at most
begins_once : (bytes : List ℕ) (m n : PlainMessage) (r q : List ℕ) → BeginsWith bytes m r → BeginsWith bytes n q → (m ≡ n) × (r ≡ q)
begins_once bytes m n r q x y =
    let first = head_of bytes m r x in
    let second = head_of bytes n q y in
    let same = request_unique bytes first.0 second.0 (m.body ++ r) (n.body ++ q) first.1.reads second.1.reads in
    let lengths : ◌≡◌ {A = Result ℕ ℕ} (Ok (length m.body)) (Ok (length n.body)) = sym first.2 ∙ ap (λ h. body_length (plain_head h)) same.0 ∙ second.2 in
    let size : length m.body ≡ length n.body = cc in
    let parts = same_parts m.body n.body r q size same.1 in
    let heads : m.head ≡ n.head = first.3 ∙ ap print_request same.0 ∙ sym second.3 in
    let made : List ℕ → List ℕ → PlainMessage = λ head body. record { head = head; body = body } in
    (ap (λ h. made h m.body) heads ∙ ap (made n.head) parts.0, parts.1)

-- what a head says of its body goes against what stands behind it
no_short_body : (r : Result ℕ ℕ) (body rest tail : List ℕ) → r ≡ Ok (length body) → rest ≡ body ++ tail → IsShortBody r rest → ⊥
no_short_body (Ok size) body rest tail e same short =
    let wanted : size ≡ length body = cc in
    omega (arith, ap length same, length-append body tail)
no_short_body (Err code) body rest tail e same short = short

no_bad_body : (r : Result ℕ ℕ) (body rest tail : List ℕ) (ended : Bool) (code : ℕ) → r ≡ Ok (length body) → rest ≡ body ++ tail → IsBadBody r rest ended code → ⊥
no_bad_body (Ok size) body rest tail ended code e same bad =
    let wanted : size ≡ length body = cc in
    omega (arith, bad.0, ap length same, length-append body tail)
no_bad_body (Err refused) body rest tail ended code e same bad = absurd (cc)

-- where a message stands nothing else does
nothing_else : (bytes : List ℕ) (ended : Bool) (m : PlainMessage) (r : List ℕ) (z : Behind) → BeginsWith bytes m r → StandsBehind bytes ended z → ⊥
nothing_else bytes ended m r Ends x z =
    let found = head_of bytes m r x in
    nothing_has_no_head found.0 (m.body ++ r) (subst (λ (b : List ℕ). ReadsHead b found.0 (m.body ++ r)) z.0 found.1)
nothing_else bytes ended m r Unfinished x z =
    let found = head_of bytes m r x in
    elim z.part [
      | inl part ↦ part.0 found.0 (m.body ++ r) found.1
      | inr part ↦
          let same = request_unique bytes found.0 part.0 (m.body ++ r) part.1 found.1.reads part.2.reads in
          no_short_body (body_length (plain_head part.0)) m.body part.1 r (ap (λ h. body_length (plain_head h)) (sym same.0) ∙ found.2) (sym same.1) part.3
    ]
nothing_else bytes ended m r (Fault code) x z =
    let found = head_of bytes m r x in
    elim z [
      | inl bad ↦ bad.0.none found.0 (m.body ++ r) found.1
      | inr bad ↦
          let same = request_unique bytes found.0 bad.0 (m.body ++ r) bad.1 found.1.reads bad.2.reads in
          no_bad_body (body_length (plain_head bad.0)) m.body bad.1 r ended code (ap (λ h. body_length (plain_head h)) (sym same.0) ∙ found.2) (sym same.1) bad.3
    ]

-- a head's body has one fault
bad_body_once : (r : Result ℕ ℕ) (rest : List ℕ) (ended : Bool) (c d : ℕ) → IsBadBody r rest ended c → IsBadBody r rest ended d → c ≡ d
bad_body_once (Ok size) rest ended c d x y = x.2 ∙ sym y.2
bad_body_once (Err refused) rest ended c d x y = x ∙ sym y

fault_once : (bytes : List ℕ) (ended : Bool) (c d : ℕ) → IsFault bytes ended c → IsFault bytes ended d → c ≡ d
fault_once bytes ended c d (inl x) (inl y) = x.1 ∙ sym y.1
fault_once bytes ended c d (inl x) (inr y) = absurd (x.0.none y.0 y.1 y.2)
fault_once bytes ended c d (inr x) (inl y) = absurd (y.0.none x.0 x.1 x.2)
fault_once bytes ended c d (inr x) (inr y) =
    let same = request_unique bytes x.0 y.0 x.1 y.1 x.2.reads y.2.reads in
    bad_body_once (body_length (plain_head y.0)) y.1 ended c d
    (subst (λ (r : List ℕ). IsBadBody (body_length (plain_head y.0)) r ended c) same.1 (subst (λ (h : RequestHead). IsBadBody (body_length (plain_head h)) x.1 ended c) same.0 x.3)) y.3

-- nothing isn't bad
no_fault_in_nothing : (ended : Bool) (c : ℕ) → IsFault [] ended c → ⊥
no_fault_in_nothing ended c (inl x) = x.0.some refl
no_fault_in_nothing ended c (inr x) = nothing_has_no_head x.0 x.1 x.2

-- of bytes that have ended one thing stands behind the messages
behind_once : (bytes : List ℕ) (y z : Behind) → StandsBehind bytes true y → StandsBehind bytes true z → y ≡ z
behind_once bytes Ends Ends x w = refl
behind_once bytes Ends (Fault d) x w = absurd (no_fault_in_nothing true d (subst (λ (b : List ℕ). IsFault b true d) x.0 w))
behind_once bytes (Fault c) Ends x w = absurd (no_fault_in_nothing true c (subst (λ (b : List ℕ). IsFault b true c) w.0 x))
behind_once bytes (Fault c) (Fault d) x w = ap Fault (fault_once bytes true c d x w)
behind_once bytes Unfinished z x w = let open_ended = x.open_ended in absurd (cc)
behind_once bytes Ends Unfinished x w = let open_ended = w.open_ended in absurd (cc)
behind_once bytes (Fault c) Unfinished x w = let open_ended = w.open_ended in absurd (cc)

ended_once : (bytes : List ℕ) (ended : Bool) (y z : Behind) → StandsBehind bytes ended y → StandsBehind bytes ended z → IsTrue ended → y ≡ z
ended_once bytes true y z x w ended = behind_once bytes y z x w
ended_once bytes false y z x w ended = absurd (cc)

code_once : (bytes : List ℕ) (ended : Bool) (y z : Behind) → StandsBehind bytes ended y → StandsBehind bytes ended z → (c d : ℕ) → y ≡ Fault c → z ≡ Fault d → c ≡ d
code_once bytes ended y z x w c d e f =
    fault_once bytes ended c d (subst (StandsBehind bytes ended) e x) (subst (StandsBehind bytes ended) f w)

pub messages_once : (bytes : List ℕ) (ended : Bool) (ms ns : List PlainMessage) (y z : Behind)
    → AreMessagesOf bytes ended ms y → AreMessagesOf bytes ended ns z
    → (ms ≡ ns) × (IsTrue ended → y ≡ z) × ((c d : ℕ) → y ≡ Fault c → z ≡ Fault d → c ≡ d)
messages_once bytes ended [] [] y z x w = (refl, ended_once bytes ended y z x w, code_once bytes ended y z x w)
messages_once bytes ended [] (n ∷ ns) y z x w = absurd (nothing_else bytes ended n w.0 y w.1 x)
messages_once bytes ended (m ∷ ms) [] y z x w = absurd (nothing_else bytes ended m x.0 z x.1 w)
messages_once bytes ended (m ∷ ms) (n ∷ ns) y z x w =
    let first = begins_once bytes m n x.0 w.0 x.1 w.1 in
    let more = messages_once w.0 ended ms ns y z (subst (λ (b : List ℕ). AreMessagesOf b ended ms y) first.1 x.2) w.2 in
    (ap (λ k. k ∷ ms) first.0 ∙ ap (λ ks. n ∷ ks) more.0, more.1, more.2)

-- bytes that come behind a message change nothing of it
begins_longer : (bytes more : List ℕ) (m : PlainMessage) (rest : List ℕ) → BeginsWith bytes m rest → BeginsWith (bytes ++ more) m (rest ++ more)
begins_longer bytes more m rest x = record {
  whole = ap (λ b. b ++ more) x.whole ∙ append_assoc m.head (m.body ++ rest) more ∙ ap (λ t. m.head ++ t) (append_assoc m.body rest more);
  message = x.message;
}

pub pieces_lead : (events : List Event) (before left : List ℕ) (ended : Bool) (messages : List PlainMessage) (behind : Behind)
    → Leads events before left → AreMessagesOf left ended messages behind → AreMessagesOf (before ++ came events) ended (given events ++ messages) behind
pieces_lead [] before left ended messages behind x w =
    subst (λ (b : List ℕ). AreMessagesOf b ended messages behind) (x ∙ sym (append-nil before)) w
pieces_lead (Came piece ∷ events) before left ended messages behind x w =
    subst (λ (b : List ℕ). AreMessagesOf b ended (given events ++ messages) behind) (append_assoc before piece (came events))
    (pieces_lead events (before ++ piece) left ended messages behind x w)
pieces_lead (Gave m ∷ events) before left ended messages behind x w = (
  x.0 ++ came events,
  begins_longer before (came events) m x.0 x.1,
  pieces_lead events x.0 left ended messages behind x.2 w,
)

-- ---- faults while the input is open

longer_is_something : (bytes more : List ℕ) → bytes ≢ [] → bytes ++ more ≢ []
longer_is_something [] more some = absurd (some refl)
longer_is_something (b ∷ bytes) more some = λ e. absurd (cc)

never_longer : (bytes more : List ℕ) → NeverHasHead bytes → NeverHasHead (bytes ++ more)
never_longer bytes more never others h rest x =
    never (more ++ others) h rest (subst (λ (b : List ℕ). ReadsHead b h rest) (append_assoc bytes more others) x)

bad_head_stays : (bytes more : List ℕ) (ended : Bool) → HasBadHead bytes false → HasBadHead (bytes ++ more) ended
bad_head_stays bytes more ended x = elim x.for_good [
  | inl over ↦ let no : false ≡ true = over in absurd (cc)
  | inr never ↦ record { some = longer_is_something bytes more x.some; none = never more; for_good = inr (never_longer bytes more never) }
]

bad_body_stays : (r : Result ℕ ℕ) (rest more : List ℕ) (ended : Bool) (code : ℕ) → IsBadBody r rest false code → IsBadBody r (rest ++ more) ended code
bad_body_stays (Ok size) rest more ended code x = let no : false ≡ true = x.1 in absurd (cc)
bad_body_stays (Err refused) rest more ended code x = x

head_stays : (bytes more : List ℕ) (h : RequestHead) (rest : List ℕ) → ReadsHead bytes h rest → ReadsHead (bytes ++ more) h (rest ++ more)
head_stays bytes more h rest x = record { reads = ReadsRequest-append bytes h rest more x.reads; short = x.short; lines = x.lines }

pub fault_stays : (bytes more : List ℕ) (ended : Bool) (code : ℕ) → IsFault bytes false code → IsFault (bytes ++ more) ended code
fault_stays bytes more ended code (inl x) = inl (bad_head_stays bytes more ended x.0, x.1)
fault_stays bytes more ended code (inr x) =
    inr (x.0, x.1 ++ more, head_stays bytes more x.0 x.1 x.2, bad_body_stays (body_length (plain_head x.0)) x.1 more ended code x.3)
