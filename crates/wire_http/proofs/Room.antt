-- Where more is wanted there is room for it.
use Rattle.std.proofs.Common.{◌≡◌, ℕ, ◌+◌, ◌<◌, ◌≤◌, Bool, true, false, nat_le, cond, List, length, codes, Option, None, Some, Ok, Err, Result, ◌^◌, ◌-◌, inl, inr, refl, ap, arith, length-append}
use Rattle.std.proofs.lemmas.Bool.{leb-true}
use Rattle.std.specs.Str.{bytes_eq}
use Rattle.addr_text.specs.Reading.{decimal_up_to}
use Rattle.httparse.specs.Grammar.{RequestHead, print_request}
use Rattle.wire_http.specs.Head.{PlainHead, ReadsHead, plain_head}
use Rattle.wire_http.specs.Fields.{Occurs, Never, Once, Repeated, field}
use Rattle.wire_http.specs.Body.{served_length, given_length, uncoded_length, body_length}
use Rattle.wire_http.specs.Messages.{IsShortBody, IsUnfinished}

chosen_bound : (b : Bool) (len n : ℕ) → nat_le len 4096 ≡ b → cond {A = Result ℕ ℕ} b (Ok len) (Err 413) ≡ Ok n → n ≤ 4096
chosen_bound true len n small e = let same : len ≡ n = cc in omega (arith, leb-true len 4096 small)
chosen_bound false len n small e = absurd (cc)

served_bound : (o : Option ℕ) (n : ℕ) → served_length o ≡ Ok n → n ≤ 4096
served_bound None n e = absurd (cc)
served_bound (Some len) n e = chosen_bound (nat_le len 4096) len n refl e

given_bound : (is_post : Bool) (o : Occurs) (n : ℕ) → given_length is_post o ≡ Ok n → n ≤ 4096
given_bound true Never n e = absurd (cc)
given_bound false Never n e = let same : 0 ≡ n = cc in omega arith
given_bound is_post (Once value) n e = served_bound (decimal_up_to (2 ^ 32 - 1) value) n e
given_bound is_post Repeated n e = absurd (cc)

uncoded_bound : (o : Occurs) (r : Result ℕ ℕ) (n : ℕ) → ((m : ℕ) → r ≡ Ok m → m ≤ 4096) → uncoded_length o r ≡ Ok n → n ≤ 4096
uncoded_bound Never r n bound e = bound n e
uncoded_bound (Once coding) r n bound e = absurd (cc)
uncoded_bound Repeated r n bound e = absurd (cc)

body_bound : (head : PlainHead) (n : ℕ) → body_length head ≡ Ok n → n ≤ 4096
body_bound head n e =
    let is_post = bytes_eq head.method (codes "POST") in
    let length = field (codes "Content-Length") head in
    uncoded_bound (field (codes "Transfer-Encoding") head) (given_length is_post length) n (given_bound is_post length) e

short_bound : (r : Result ℕ ℕ) (rest : List ℕ) → ((n : ℕ) → r ≡ Ok n → n ≤ 4096) → IsShortBody r rest → length rest < 4096
short_bound (Ok n) rest bound short = let most : n ≤ 4096 = bound n refl in omega arith
short_bound (Err code) rest bound short = absurd short

pub unfinished_bound : (bytes : List ℕ) (ended : Bool) → IsUnfinished bytes ended → length bytes < 8192 + 4096
unfinished_bound bytes ended x = elim x.part [ inl part ↦ omega (arith, part.1) | inr part ↦ with_head bytes part.0 part.1 part.2 part.3 ]
  where
    with_head : (bytes : List ℕ) (h : RequestHead) (rest : List ℕ) → ReadsHead bytes h rest → IsShortBody (body_length (plain_head h)) rest → length bytes < 8192 + 4096
    with_head bytes h rest reads short =
        omega (arith, short_bound _ rest (body_bound (plain_head h)) short, reads.short, ap length reads.reads.1, length-append (print_request h) rest)
