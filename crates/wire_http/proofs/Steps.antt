-- What a head at the front and its body's length say of the bytes.
use Rattle.std.proofs.Common.{◌≡◌, ℕ, ◌-◌, ◌<◌, ◌≤◌, Bool, List, [], ◌∷◌, ◌++◌, length, take, drop, Ok, IsFalse, inl, sym, ap, ◌∙◌, subst, false, ◌==◌, refl, arith, append-nil, length-append, length-drop, length-take-le}
use Rattle.std.proofs.lemmas.List.{take-append-drop, take-append-le, drop-drop}
use Rattle.std.specs.List.{list_any}
use Rattle.std.proofs.Math.Seq.{take-append_seam, take-length}
use Rattle.httparse.specs.Grammar.{RequestHead, print_request}
use Rattle.httparse.proofs.GrammarLemmas.{request_unique}
use Rattle.wire_http.specs.Head.{PlainHead, ReadsHead, IsHead, HasNoHead, IsSearched}
use Rattle.wire_http.specs.Front.{BeginsWithHead}
use Rattle.wire_http.specs.Messages.{IsUnfinished}
use Rattle.wire_http.proofs.Heads.{none_without_line_end}
use Rattle.wire_http.specs.Step.{IsFirstMessage, HasHead}

-- a head has a byte at least
pub head_nonempty : (h : RequestHead) → 0 < length h.method → 0 < length (print_request h)
unfolding print_request
head_nonempty h some = simp length-append (omega arith)

-- nothing has no head
pub nothing_has_no_head : HasNoHead []
nothing_has_no_head h rest x =
    omega (arith, head_nonempty h x.reads.0.method.0, ap length x.reads.1, length-append (print_request h) rest)

-- the front of the head's length is the head
head_alone : (bytes : List ℕ) (size : ℕ) (h : RequestHead) (rest : List ℕ) → ReadsHead bytes h rest → size ≡ length (print_request h) → IsHead (take size bytes) h
head_alone bytes size h rest x size_is =
    let front : take size bytes ≡ print_request h =
    ap (λ k. take k bytes) size_is ∙ ap (take (length (print_request h))) x.reads.1 ∙ take-append_seam (print_request h) rest in
    record {
      reads = (x.reads.0, front ∙ sym (append-nil (print_request h)));
      short = x.short;
      lines = x.lines;
    }

-- a head isn't longer than the bytes
pub head_within : (bytes : List ℕ) (h : RequestHead) (rest : List ℕ) → ReadsHead bytes h rest → length (print_request h) ≤ length bytes
head_within bytes h rest x = omega (arith, ap length x.reads.1, length-append (print_request h) rest)

-- with the whole body the message stands at the front
pub message_found : (bytes : List ℕ) (size body : ℕ) (h : RequestHead) → HasHead bytes size (Ok body) h → body ≤ length bytes - size
    → IsFirstMessage (record { head = size; body = body }) bytes
message_found bytes size body h x enough =
    let within : size ≤ length bytes = omega (arith, x.size_is, head_within bytes h (drop size bytes) x.reads) in
    let head_size : length (take size bytes) ≡ size = length-take-le size bytes within in
    let body_size : length (take body (drop size bytes)) ≡ body = length-take-le body (drop size bytes) (omega (arith, length-drop size bytes)) in
    record {
      lengths = record { head = sym head_size; body = sym body_size };
      begins = record {
        whole = sym (take-append-drop size bytes)
            ∙ ap (λ t. take size bytes ++ t) (sym (take-append-drop body (drop size bytes)) ∙ ap (λ t. take body (drop size bytes) ++ t) (drop-drop body size bytes));
        message = (h, head_alone bytes size h (drop size bytes) x.reads x.size_is, sym x.body_is ∙ ap Ok (sym body_size));
      };
    }

-- nothing has come yet
pub nothing_yet : (bytes : List ℕ) (ended : Bool) → length bytes ≡ 0 → IsFalse ended → IsUnfinished bytes ended
nothing_yet [] ended empty open_ended = record { open_ended = open_ended; part = inl (nothing_has_no_head, omega arith) }
nothing_yet (b ∷ bytes) ended empty open_ended = absurd (omega arith)

-- a head at the front of a whole head is all of it
pub whole_head : (bytes : List ℕ) (head : PlainHead) (size : ℕ) (h k : RequestHead) → BeginsWithHead bytes head size k → IsHead bytes h → size ≡ length bytes
whole_head bytes head size h k x whole =
    let rest : drop size bytes ≡ [] = (request_unique bytes k h (drop size bytes) [] x.reads.reads whole.reads).1 in
    let within = head_within bytes k (drop size bytes) x.reads in
    omega (arith, x.size_is, within, ap length rest, length-drop size bytes)

-- of no byte it is known that none has a head, and of all where there is none
pub unsearched : (bytes : List ℕ) → IsSearched 0 bytes
unsearched bytes = record { within = omega arith; none = nothing_has_no_head }

pub all_searched : (bytes : List ℕ) → HasNoHead bytes → IsSearched (length bytes) bytes
all_searched bytes none = record { within = omega arith; none = subst (λ (b : List ℕ). HasNoHead b) (sym (take-length bytes)) none }

-- what comes behind them changes nothing of it
pub still_searched : (seen : ℕ) (bytes more : List ℕ) → IsSearched seen bytes → IsSearched seen (bytes ++ more)
still_searched seen bytes more x = record {
  within = omega (arith, x.within, length-append bytes more);
  none = subst (λ (b : List ℕ). HasNoHead b) (sym (take-append-le seen bytes more x.within)) x.none;
}

-- without a line's end behind them no head has come
pub no_line_yet : (bytes : List ℕ) (seen : ℕ) (ended : Bool) → IsSearched seen bytes → length bytes < 8192 → list_any (λ b. b == 10) (drop seen bytes) ≡ false → IsFalse ended
    → IsUnfinished bytes ended × IsSearched (length bytes) bytes
no_line_yet bytes seen ended x short lines open_ended =
    let none = none_without_line_end bytes seen x.none lines in
    (record { open_ended = open_ended; part = inl (none, short) }, all_searched bytes none)

pub empty_bytes : (bytes : List ℕ) → length bytes ≡ 0 → bytes ≡ []
empty_bytes [] empty = refl
empty_bytes (b ∷ bytes) empty = absurd (omega arith)
