-- A request's written text is read as the request.
use Rattle.std.proofs.Common.{◌≡◌, ℕ, zero, suc, ◌+◌, ◌*◌, ◌^◌, ◌<◌, ◌≤◌, Bool, true, ◌==◌, ◌&&◌, not, nat_lt, List, [], ◌∷◌, ◌++◌, length, Option, None, Some, Result, Ok, decimal, codes, refl, sym, ap, ◌∙◌, subst, arith, append_assoc, append-nil, length-append}
use Rattle.std.proofs.lemmas.Bool.{le-ltb, cond-false}
use Rattle.std.proofs.lemmas.Fmt.{length-decimal-le, decimal_nonempty}
use Rattle.std.proofs.lemmas.List.Elements.{All-cons, recursion_from_All}
use Rattle.std.specs.List.{AllByRecursion, list_all}
use Rattle.std.proofs.lemmas.Bool.Decides.{nat_tests}
use Rattle.std.proofs.lemmas.Option.{none-some}
use Rattle.std.specs.Option.{IsSome}
use Rattle.std.specs.Net.Reader.{read_ipv4, read_octet, read_number, read_ipv6, read_segments, read_segment}
use Rattle.num_range.specs.declared.space.Space.{Space}
use Rattle.num_range.specs.declared.space.Space.TheVariants.{Asn, Ipv4, Ipv6}
use Rattle.num_range.specs.Number.{PlainNumber, IsNumber}
use Rattle.num_range.specs.Range.{PlainRange, IsRange}
use Rattle.addr_text.specs.Number.{number_text}
use Rattle.addr_text.specs.Reading.{number_of, range_of}
use Rattle.reg_entry.specs.declared.holder.Holder.{Holder}
use Rattle.reg_entry.specs.declared.kind.Kind.{Kind}
use Rattle.reg_entry.specs.declared.kind.Kind.TheVariants.{Lir, EndUser}
use Rattle.reg_entry.specs.declared.request.Delegation.{Delegation}
use Rattle.reg_entry.specs.declared.request.Delegation.TheVariants.{Allocate, Assign}
use Rattle.reg_entry.specs.declared.request.Request.{Request as ARequest}
use Rattle.reg_entry.specs.declared.request.Request.TheVariants.{Receive, AddHolder, EditHolder, Delegate, Reserve, Unreserve, SubAssign, SubReturn, Return, Release, Split, Join, Transfer, SetReverse, ClearReverse}
use Rattle.reg_entry.specs.Cc.{is_cc}
use Rattle.reg_entry.specs.Handle.{is_handle}
use Rattle.reg_entry.specs.Host.{is_host}
use Rattle.reg_entry.specs.Request.{status_of, has_size}
use Rattle.reg_entry.specs.Text.{is_text}
use Rattle.desk_lang.specs.declared.line.Line.TheVariants.{Request}
use Rattle.desk_lang.specs.declared.rest.Form.TheVariants.{Plain, Quoted}
use Rattle.desk_lang.specs.declared.rest.Malformed.{Malformed}
use Rattle.desk_text.specs.RequestText.{range_word, holder_text, hosts_text, request_text}
use Rattle.desk_lang.specs.Values.{label_of, kind_of, space_of, delegation_of, amount_of}
use Rattle.desk_text.specs.Vocabulary.{space_word, kind_word, status_word, amount_text, quoted}
use Rattle.desk_lang.specs.Words.{PlainRest, PlainWord, rest_at, ends_word, first_word, next_value, at_end, ◌>>=◌}
use Rattle.desk_lang.specs.Grammar.{range_line, number_line, range_and_handle, holder_line, delegate_line, transfer_line, more_hosts, reverse_line, requested, line_of_word, line_of}
use Rattle.desk_lang.specs.Writable.{IsWritableHolder, IsWritable}
use Rattle.desk_lang.proofs.Hosts.{hosts_behind}
use Rattle.desk_lang.proofs.ReadWords.{IsWordByte, IsWord, plain_first, plain_read, last_read, quoted_read, last_quoted_read}
use Rattle.desk_lang.proofs.WordForms.{all_from_test, decimal_bytes, number_bytes, length_number, length_range, range_is_word, handle_is_word, length_handle, length_cc, cc_is_word, text_has_no_quote, length_text, length_host, host_is_word}
use Rattle.desk_lang.proofs.ReadValues.{number_back, range_back, label_back, kind_back, space_back, delegation_back, amount_fits, amount_back}

-- ---- words

no_number : number_of [] ≡ None
unfolding read_ipv4 read_octet read_number read_ipv6 read_segments read_segment
no_number = refl

number_is_word : (n : PlainNumber) → IsNumber n → IsWord (number_text n)
number_is_word n h = record { some = some (number_text n) (number_back n h); bytes = number_bytes n.space n.value h }
  where
    some : (word : List ℕ) → number_of word ≡ Some n → 0 < length word
    some [] e = absurd (none-some _ (sym no_number ∙ e))
    some (b ∷ word) e = omega arith

-- a word that is written out, by a test that computes
abbrev is_word_byte : ℕ → Bool
is_word_byte b = not (b == 32) && not (b == 9) && not (b == 34)

word_byte : (b : ℕ) → is_word_byte b ≡ true → IsWordByte b
word_byte b h = (λ e. grind (arith, nat_tests), λ e. grind (arith, nat_tests), λ e. grind (arith, nat_tests))

pub literal_word : (word : List ℕ) → 0 < length word → list_all is_word_byte word ≡ true → IsWord word
literal_word word some h = record { some = some; bytes = all_from_test is_word_byte IsWordByte word_byte word h }

kind_is_word : (kind : Kind) → IsWord (kind_word kind)
kind_is_word Lir = literal_word (codes "lir") (omega arith) refl
kind_is_word EndUser = literal_word (codes "enduser") (omega arith) refl

space_is_word : (space : Space) → IsWord (space_word space)
space_is_word Asn = literal_word (codes "asn") (omega arith) refl
space_is_word Ipv4 = literal_word (codes "ipv4") (omega arith) refl
space_is_word Ipv6 = literal_word (codes "ipv6") (omega arith) refl

status_is_word : (status : Delegation) → IsWord (status_word (status_of status))
status_is_word Allocate = literal_word (codes "allocated") (omega arith) refl
status_is_word Assign = literal_word (codes "assigned") (omega arith) refl

pub decimal_is_word : (n : ℕ) → n < 2 ^ 32 → IsWord (decimal n)
decimal_is_word n h = record { some = decimal_nonempty n (omega arith); bytes = decimal_bytes n (omega arith) }

amount_is_word : (space : Space) (amount : ℕ) → amount < 2 ^ 32 → IsWord (amount_text space amount)
amount_is_word Asn amount h = decimal_is_word amount h
amount_is_word Ipv4 amount h =
    record { some = omega arith; bytes = All-cons IsWordByte 47 (decimal amount) (omega arith, omega arith, omega arith) (decimal_bytes amount (omega arith)) }
amount_is_word Ipv6 amount h =
    record { some = omega arith; bytes = All-cons IsWordByte 47 (decimal amount) (omega arith, omega arith, omega arith) (decimal_bytes amount (omega arith)) }

-- ---- lines

range_reads : (r : PlainRange) → IsRange r → (place : ℕ) → range_line (rest_at place (32 ∷ range_word r)) ≡ Ok r
unfolding range_line
range_reads r h place =
    last_read range_of r (λ range. at_end range.0 range.1) r (range_word r) (range_is_word r h) (range_back r h) (λ _. refl) place

number_reads : (n : PlainNumber) → IsNumber n → (place : ℕ) → number_line (rest_at place (32 ∷ number_text n)) ≡ Ok n
unfolding number_line
number_reads n h place =
    last_read number_of n (λ number. at_end number.0 number.1) n (number_text n) (number_is_word n h) (number_back n h) (λ _. refl) place

-- the last handle of a line
module _ {U : Type 0} (read : List ℕ × PlainRest → Result U Malformed) (y : U) where
  handle_last : (handle : List ℕ) → is_handle handle ≡ true → ((place : ℕ) → read (handle, rest_at place []) ≡ Ok y)
      → (place : ℕ) → (next_value Plain (label_of is_handle) (rest_at place (32 ∷ handle)) >>= read) ≡ Ok y
  handle_last handle h behind place =
      last_read (label_of is_handle) handle read y handle (handle_is_word handle h) (label_back is_handle handle h) behind place

  handle_next : (handle more : List ℕ) → is_handle handle ≡ true → ends_word more ≡ true → ((place : ℕ) → read (handle, rest_at place more) ≡ Ok y)
      → (place : ℕ) → (next_value Plain (label_of is_handle) (rest_at place (32 ∷ handle ++ more)) >>= read) ≡ Ok y
  handle_next handle more h e behind place =
      plain_read (label_of is_handle) handle read y handle more (handle_is_word handle h) (label_back is_handle handle h) e behind place

-- a range, and what is read behind it
module _ {U : Type 0} (read : PlainRange × PlainRest → Result U Malformed) (y : U) where
  range_next : (r : PlainRange) (more : List ℕ) → IsRange r → ends_word more ≡ true → ((place : ℕ) → read (r, rest_at place more) ≡ Ok y)
      → (place : ℕ) → (next_value Plain range_of (rest_at place (32 ∷ range_word r ++ more)) >>= read) ≡ Ok y
  range_next r more h e behind place =
      plain_read range_of r read y (range_word r) more (range_is_word r h) (range_back r h) e behind place

held_reads : (r : PlainRange) (handle : List ℕ) → IsRange r → is_handle handle ≡ true → (place : ℕ) → range_and_handle (rest_at place (32 ∷ range_word r ++ codes " " ++ handle)) ≡ Ok (r, handle)
unfolding range_and_handle
held_reads r handle hr hh place =
    ap (λ t. range_and_handle (rest_at place (32 ∷ t))) (append_assoc (range_word r) (codes " ") handle)
    ∙ range_next (λ range. next_value Plain (label_of is_handle) range.1 >>= λ handle. at_end (range.0, handle.0) handle.1) (r, handle) r (32 ∷ handle) hr refl
    (handle_last (λ h. at_end (r, h.0) h.1) (r, handle) handle hh (λ _. refl)) place

transfer_reads : (r : PlainRange) (from to : List ℕ) → IsRange r → is_handle from ≡ true → is_handle to ≡ true
    → (place : ℕ) → transfer_line (rest_at place (32 ∷ range_word r ++ codes " " ++ from ++ codes " " ++ to)) ≡ Ok (Transfer r from to)
unfolding transfer_line
transfer_reads r from to hr hf ht place =
    let words : range_word r ++ codes " " ++ from ++ codes " " ++ to ≡ range_word r ++ (32 ∷ (from ++ (32 ∷ to))) = simp append_assoc in
    ap (λ t. transfer_line (rest_at place (32 ∷ t))) words
    ∙ range_next (λ range. next_value Plain (label_of is_handle) range.1 >>= λ from. next_value Plain (label_of is_handle) from.1 >>= λ to. at_end (Transfer range.0 from.0 to.0) to.1)
    (Transfer r from to) r (32 ∷ (from ++ (32 ∷ to))) hr refl
    (handle_next (λ f. next_value Plain (label_of is_handle) f.1 >>= λ t. at_end (Transfer r f.0 t.0) t.1) (Transfer r from to) from (32 ∷ to) hf refl
    (handle_last (λ t. at_end (Transfer r from t.0) t.1) (Transfer r from to) to ht (λ _. refl))) place

delegate_reads : (space : Space) (amount : ℕ) (status : Delegation) (handle : List ℕ) → has_size space amount ≡ true → is_handle handle ≡ true
    → (place : ℕ) → delegate_line (rest_at place (32 ∷ space_word space ++ codes " " ++ amount_text space amount ++ codes " " ++ status_word (status_of status) ++ codes " " ++ handle)) ≡ Ok (Delegate space amount status handle)
unfolding delegate_line
delegate_reads space amount status handle hs hh place =
    let words : space_word space ++ codes " " ++ amount_text space amount ++ codes " " ++ status_word (status_of status) ++ codes " " ++ handle
    ≡ space_word space ++ (32 ∷ (amount_text space amount ++ (32 ∷ (status_word (status_of status) ++ (32 ∷ handle))))) = simp append_assoc in
    let request = Delegate space amount status handle in
    ap (λ t. delegate_line (rest_at place (32 ∷ t))) words
    ∙ plain_read space_of space
    (λ s. next_value Plain (amount_of s.0) s.1 >>= λ a. next_value Plain delegation_of a.1 >>= λ d. next_value Plain (label_of is_handle) d.1 >>= λ h. at_end (Delegate s.0 a.0 d.0 h.0) h.1)
    request (space_word space) (32 ∷ (amount_text space amount ++ (32 ∷ (status_word (status_of status) ++ (32 ∷ handle))))) (space_is_word space) (space_back space) refl
    (plain_read (amount_of space) amount
    (λ a. next_value Plain delegation_of a.1 >>= λ d. next_value Plain (label_of is_handle) d.1 >>= λ h. at_end (Delegate space a.0 d.0 h.0) h.1)
    request (amount_text space amount) (32 ∷ (status_word (status_of status) ++ (32 ∷ handle))) (amount_is_word space amount (amount_fits space amount hs)) (amount_back space amount hs) refl
    (plain_read delegation_of status (λ d. next_value Plain (label_of is_handle) d.1 >>= λ h. at_end (Delegate space amount d.0 h.0) h.1)
    request (status_word (status_of status)) (32 ∷ handle) (status_is_word status) (delegation_back status) refl
    (handle_last (λ h. at_end (Delegate space amount status h.0) h.1) request handle hh (λ _. refl)))) place

five_words : (a b c d e : List ℕ) → a ++ codes " " ++ b ++ codes " " ++ c ++ codes " " ++ d ++ codes " " ++ e ≡ a ++ (32 ∷ (b ++ (32 ∷ (c ++ (32 ∷ (d ++ (32 ∷ e)))))))
five_words a b c d e = simp append_assoc

holder_reads : (h : Holder) → IsWritableHolder h → (place : ℕ) → holder_line (rest_at place (32 ∷ holder_text h)) ≡ Ok h
unfolding holder_line
holder_reads h is place =
    let email = quoted h.email in
    let name = quoted h.name ++ (32 ∷ email) in
    let cc = h.cc ++ (32 ∷ name) in
    let kind = kind_word h.kind ++ (32 ∷ cc) in
    ap (λ t. holder_line (rest_at place (32 ∷ t))) (five_words h.handle (kind_word h.kind) h.cc (quoted h.name) email)
    ∙ handle_next
    (λ a. next_value Plain kind_of a.1 >>= λ k. next_value Plain (label_of is_cc) k.1 >>= λ c. next_value Quoted (label_of is_text) c.1 >>= λ n. next_value Quoted (label_of is_text) n.1 >>= λ e. at_end (record { handle = a.0; kind = k.0; cc = c.0; name = n.0; email = e.0 }) e.1)
    h h.handle (32 ∷ kind) is.handle refl
    (plain_read kind_of h.kind
    (λ k. next_value Plain (label_of is_cc) k.1 >>= λ c. next_value Quoted (label_of is_text) c.1 >>= λ n. next_value Quoted (label_of is_text) n.1 >>= λ e. at_end (record { handle = h.handle; kind = k.0; cc = c.0; name = n.0; email = e.0 }) e.1)
    h (kind_word h.kind) (32 ∷ cc) (kind_is_word h.kind) (kind_back h.kind) refl
    (plain_read (label_of is_cc) h.cc
    (λ c. next_value Quoted (label_of is_text) c.1 >>= λ n. next_value Quoted (label_of is_text) n.1 >>= λ e. at_end (record { handle = h.handle; kind = h.kind; cc = c.0; name = n.0; email = e.0 }) e.1)
    h h.cc (32 ∷ name) (cc_is_word h.cc is.cc) (label_back is_cc h.cc is.cc) refl
    (quoted_read (label_of is_text) h.name
    (λ n. next_value Quoted (label_of is_text) n.1 >>= λ e. at_end (record { handle = h.handle; kind = h.kind; cc = h.cc; name = n.0; email = e.0 }) e.1)
    h h.name (32 ∷ email) (text_has_no_quote h.name is.name) (label_back is_text h.name is.name) refl
    (last_quoted_read (label_of is_text) h.email
    (λ e. at_end (record { handle = h.handle; kind = h.kind; cc = h.cc; name = h.name; email = e.0 }) e.1)
    h h.email (text_has_no_quote h.email is.email) (label_back is_text h.email is.email) (λ _. refl))))) place

ends_hosts : (hosts : List (List ℕ)) → ends_word (hosts_text hosts) ≡ true
ends_hosts [] = refl
ends_hosts (host ∷ hosts) = refl

abbrev AreHosts : List (List ℕ) → Type 0
AreHosts hosts = AllByRecursion (λ host. is_host host ≡ true) hosts

host_words : (host : List ℕ) (hosts : List (List ℕ)) → hosts_text (host ∷ hosts) ≡ 32 ∷ (host ++ hosts_text hosts)
host_words host hosts = simp append_assoc

more_read : (room : ℕ) (done hosts : List (List ℕ)) → length hosts ≤ room → AreHosts hosts → (place : ℕ) → more_hosts room done (rest_at place (hosts_text hosts)) ≡ Ok (done ++ hosts)
more_read zero done [] h are place = ap Ok (sym (append-nil done))
more_read zero done (host ∷ hosts) h are place = absurd (omega (arith, h))
more_read (suc room) done [] h are place = ap Ok (sym (append-nil done))
more_read (suc room) done (host ∷ hosts) h are place =
    let rest = rest_at place (32 ∷ (host ++ hosts_text hosts)) in
    let first = plain_first (place + 1) host (hosts_text hosts) (host_is_word host are.0) (ends_hosts hosts) in
    let some : IsSome (first_word rest) = subst (λ (o : Option PlainWord). IsSome o) (sym first) refl in
    ap (λ t. more_hosts (suc room) done (rest_at place t)) (host_words host hosts)
    ∙ hosts_behind room done rest some
    ∙ plain_read (label_of is_host) host (λ h. more_hosts room (done ++ h.0 ∷ []) h.1) (done ++ host ∷ hosts) host (hosts_text hosts) (host_is_word host are.0) (label_back is_host host are.0) (ends_hosts hosts)
    (λ p. more_read room (done ++ host ∷ []) hosts (omega (arith, h)) are.1 p ∙ ap Ok (append_assoc done (host ∷ []) hosts)) place

reverse_reads : (r : PlainRange) (hosts : List (List ℕ)) → IsRange r → 1 ≤ length hosts → length hosts ≤ 4 → AreHosts hosts
    → (place : ℕ) → reverse_line (rest_at place (32 ∷ range_word r ++ hosts_text hosts)) ≡ Ok (SetReverse r hosts)
unfolding reverse_line
reverse_reads r [] hr some few are place = absurd (omega (arith, some))
reverse_reads r (host ∷ hosts) hr some few are place =
    ap (λ t. reverse_line (rest_at place (32 ∷ range_word r ++ t))) (host_words host hosts)
    ∙ range_next (λ range. next_value Plain (label_of is_host) range.1 >>= λ h. more_hosts 3 (h.0 ∷ []) h.1 >>= λ hs. Ok (SetReverse range.0 hs)) (SetReverse r (host ∷ hosts))
    r (32 ∷ (host ++ hosts_text hosts)) hr refl
    (plain_read (label_of is_host) host (λ h. more_hosts 3 (h.0 ∷ []) h.1 >>= λ hs. Ok (SetReverse r hs)) (SetReverse r (host ∷ hosts)) host (hosts_text hosts) (host_is_word host are.0) (label_back is_host host are.0) (ends_hosts hosts)
    (λ p. ap (λ hs. hs >>= λ l. Ok (SetReverse r l)) (more_read 3 (host ∷ []) hosts (omega (arith, few)) are.1 p))) place

-- ---- requests

pub request_reads : (r : ARequest) → IsWritable r → (place : ℕ) → line_of_word (first_word (rest_at place (request_text r))) ≡ Ok (Request r)
request_reads (Receive range) h place = ap (requested (λ range. Receive range)) (range_reads range h (place + 7))
request_reads (AddHolder holder) h place = ap (requested (λ holder. AddHolder holder)) (holder_reads holder h (place + 6))
request_reads (EditHolder holder) h place = ap (requested (λ holder. EditHolder holder)) (holder_reads holder h (place + 4))
request_reads (Delegate space amount status handle) h place = ap (requested (λ request. request)) (delegate_reads space amount status handle h.0 h.1 (place + 8))
request_reads (Reserve range) h place = ap (requested (λ range. Reserve range)) (range_reads range h (place + 7))
request_reads (Unreserve range) h place = ap (requested (λ range. Unreserve range)) (range_reads range h (place + 9))
request_reads (SubAssign range handle) h place = ap (requested (λ p. SubAssign p.0 p.1)) (held_reads range handle h.0 h.1 (place + 3))
request_reads (SubReturn range) h place = ap (requested (λ range. SubReturn range)) (range_reads range h (place + 5))
request_reads (Return range handle) h place = ap (requested (λ p. Return p.0 p.1)) (held_reads range handle h.0 h.1 (place + 6))
request_reads (Release range) h place = ap (requested (λ range. Release range)) (range_reads range h (place + 7))
request_reads (Split at) h place = ap (requested (λ at. Split at)) (number_reads at h (place + 5))
request_reads (Join at) h place = ap (requested (λ at. Join at)) (number_reads at h (place + 4))
request_reads (Transfer range from to) h place = ap (requested (λ request. request)) (transfer_reads range from to h.0 h.1 h.2 (place + 8))
request_reads (SetReverse range servers) h place = ap (requested (λ request. request)) (reverse_reads range servers h.0 h.1 h.2 (recursion_from_All (λ host. is_host host ≡ true) servers h.3) (place + 7))
request_reads (ClearReverse range) h place = ap (requested (λ range. ClearReverse range)) (range_reads range h (place + 9))

-- ---- the length of a request

length_amount : (space : Space) (amount : ℕ) → amount < 2 ^ 32 → length (amount_text space amount) ≤ 11
length_amount Asn amount h = let len = length-decimal-le 10 amount (omega arith) (omega arith) (omega arith) in omega arith
length_amount Ipv4 amount h = let len = length-decimal-le 10 amount (omega arith) (omega arith) (omega arith) in omega arith
length_amount Ipv6 amount h = let len = length-decimal-le 10 amount (omega arith) (omega arith) (omega arith) in omega arith

length_space : (space : Space) → length (space_word space) ≤ 4
length_space Asn = omega arith
length_space Ipv4 = omega arith
length_space Ipv6 = omega arith

length_kind : (kind : Kind) → length (kind_word kind) ≤ 7
length_kind Lir = omega arith
length_kind EndUser = omega arith

length_status : (status : Delegation) → length (status_word (status_of status)) ≤ 9
length_status Allocate = omega arith
length_status Assign = omega arith

pub length_two : (most : ℕ) (a b : List ℕ) → length a ≤ most → length (a ++ codes " " ++ b) ≤ most + 1 + length b
length_two most a b h = omega (arith, h, length-append (a ++ codes " ") b, length-append a (codes " "))

length_held : (verb word handle : List ℕ) → length verb ≤ 10 → length word ≤ 85 → length handle ≤ 24 → length (verb ++ word ++ codes " " ++ handle) ≤ 120
length_held verb word handle hv hw hh =
    omega (arith, length_two 95 (verb ++ word) handle (omega (arith, length-append verb word)), hh)

length_holder : (h : Holder) → IsWritableHolder h → length (holder_text h) ≤ 250
length_holder h is =
    let kind = length_two 24 h.handle (kind_word h.kind) (length_handle h.handle is.handle) in
    let cc = length_two 32 (h.handle ++ codes " " ++ kind_word h.kind) h.cc (omega (arith, kind, length_kind h.kind)) in
    let name = length_two 35 (h.handle ++ codes " " ++ kind_word h.kind ++ codes " " ++ h.cc) (quoted h.name) (omega (arith, cc, length_cc h.cc is.cc)) in
    let n = length_quoted h.name (length_text h.name is.name) in
    let e = length_quoted h.email (length_text h.email is.email) in
    let email = length_two 134 (h.handle ++ codes " " ++ kind_word h.kind ++ codes " " ++ h.cc ++ codes " " ++ quoted h.name) (quoted h.email) (omega (arith, name, n)) in
    omega (arith, email, e)
  where
    length_quoted : (text : List ℕ) → length text ≤ 96 → length (quoted text) ≤ 98
    length_quoted text few = omega (arith, few, length-append (codes "\"" ++ text) (codes "\""), length-append (codes "\"") text)

length_hosts : (hosts : List (List ℕ)) → AreHosts hosts → length (hosts_text hosts) ≤ 97 * length hosts
length_hosts [] are = omega arith
length_hosts (host ∷ hosts) are =
    let first = length_host host are.0 in
    let later = length_hosts hosts are.1 in
    omega (arith, first, later, length-append (codes " " ++ host) (hosts_text hosts), length-append (codes " ") host)

length_delegate : (space : Space) (amount : ℕ) (status : Delegation) (handle : List ℕ) → has_size space amount ≡ true → is_handle handle ≡ true
    → length (request_text (Delegate space amount status handle)) ≤ 512
length_delegate space amount status handle hs hh =
    let a = length_two 13 (codes "delegate " ++ space_word space) (amount_text space amount) (omega (arith, length_space space, length-append (codes "delegate ") (space_word space))) in
    let s = length_two 25 (codes "delegate " ++ space_word space ++ codes " " ++ amount_text space amount) (status_word (status_of status)) (omega (arith, a, length_amount space amount (amount_fits space amount hs))) in
    let h = length_two 35 (codes "delegate " ++ space_word space ++ codes " " ++ amount_text space amount ++ codes " " ++ status_word (status_of status)) handle (omega (arith, s, length_status status)) in
    omega (arith, h, length_handle handle hh)

pub length_request : (r : ARequest) → IsWritable r → length (request_text r) ≤ 512
length_request (Receive range) h = omega (arith, length_range range h)
length_request (AddHolder holder) h = omega (arith, length_holder holder h)
length_request (EditHolder holder) h = omega (arith, length_holder holder h)
length_request (Delegate space amount status handle) h = length_delegate space amount status handle h.0 h.1
length_request (Reserve range) h = omega (arith, length_range range h)
length_request (Unreserve range) h = omega (arith, length_range range h)
length_request (SubAssign range handle) h = omega (arith, length_held (codes "sub ") (range_word range) handle (omega arith) (length_range range h.0) (length_handle handle h.1))
length_request (SubReturn range) h = omega (arith, length_range range h)
length_request (Return range handle) h = omega (arith, length_held (codes "return ") (range_word range) handle (omega arith) (length_range range h.0) (length_handle handle h.1))
length_request (Release range) h = omega (arith, length_range range h)
length_request (Split at) h = omega (arith, length_number at.space at.value h)
length_request (Join at) h = omega (arith, length_number at.space at.value h)
length_request (Transfer range from to) h =
    let front = length_held (codes "transfer ") (range_word range) from (omega arith) (length_range range h.0) (length_handle from h.1) in
    omega (arith, length_two 120 (codes "transfer " ++ range_word range ++ codes " " ++ from) to front, length_handle to h.2)
length_request (SetReverse range servers) h =
    omega (arith, length_range range h.0, length_hosts servers (recursion_from_All (λ host. is_host host ≡ true) servers h.3), h.2, length-append (codes "reverse " ++ range_word range) (hosts_text servers), length-append (codes "reverse ") (range_word range))
length_request (ClearReverse range) h = omega (arith, length_range range h)

-- ---- lines

pub written_reads : (r : ARequest) → IsWritable r → line_of (request_text r) ≡ Ok (Request r)
written_reads r h =
    cond-false (nat_lt 1024 (length (request_text r))) _ _ (le-ltb 1024 (length (request_text r)) (omega (arith, length_request r h)))
    ∙ request_reads r h 1

-- behind a blank
pub behind_blank_reads : (r : ARequest) → IsWritable r → line_of (32 ∷ request_text r) ≡ Ok (Request r)
behind_blank_reads r h =
    cond-false (nat_lt 1024 (length (32 ∷ request_text r))) _ _ (le-ltb 1024 (length (32 ∷ request_text r)) (omega (arith, length_request r h)))
    ∙ request_reads r h 2
