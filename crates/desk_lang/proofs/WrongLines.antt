-- Where the lines of the desk language go wrong. Each has a shortest end that can be written behind any word of it.
use Rattle.std.proofs.Common.{◌≡◌, ◌≢◌, ℕ, zero, suc, inl, inr, ◌+◌, ◌<◌, ◌≤◌, Bool, true, false, List, [], ◌∷◌, ◌++◌, length, Option, None, Some, Result, Ok, Err, codes, refl, sym, ap, ◌∙◌, subst, arith, append-nil, length-append, length-take, take, drop, take-append-drop, lt-ltb, le-ltb, ne_eqb}
use Rattle.std.specs.Prelude.{IsOk, nat_lt, if◌then◌else◌}
use Rattle.std.proofs.lemmas.Bool.{cases_Bool, cases_lt, cond-true, cond-false}
use Rattle.std.proofs.Math.Seq.{take-append_seam, drop-append_seam}
use Rattle.std.proofs.lemmas.List.Elements.{All-nil, All-cons, All-head, All-weaker}
use Rattle.std.proofs.lemmas.Option.{none-some}
use Rattle.std.specs.Option.{option_map, IsSome}
use Rattle.std.specs.Fmt.{digits}
use Rattle.num_range.specs.declared.space.Space.{Space}
use Rattle.num_range.specs.declared.space.Space.TheVariants.{Asn, Ipv4, Ipv6}
use Rattle.num_range.specs.Range.{PlainRange}
use Rattle.addr_text.specs.Reading.{number_of, range_of}
use Rattle.reg_entry.specs.declared.holder.Holder.{Holder}
use Rattle.reg_entry.specs.declared.kind.Kind.{Kind}
use Rattle.reg_entry.specs.declared.kind.Kind.TheVariants.{Lir}
use Rattle.reg_entry.specs.declared.request.Delegation.TheVariants.{Assign}
use Rattle.reg_entry.specs.declared.request.Request.{Request as ARequest}
use Rattle.reg_entry.specs.declared.request.Request.TheVariants.{Receive, AddHolder, EditHolder, Delegate, Reserve, Unreserve, SubAssign, SubReturn, Return, Release, Split, Join, Transfer, SetReverse, ClearReverse}
use Rattle.reg_entry.specs.Cc.{is_cc}
use Rattle.reg_entry.specs.Days.{day_text, day_of_text}
use Rattle.reg_entry.specs.Handle.{is_handle}
use Rattle.reg_entry.specs.Host.{is_host}
use Rattle.reg_entry.specs.Name.{is_name}
use Rattle.reg_entry.specs.Text.{is_text}
use Rattle.desk_text.specs.Vocabulary.{quoted}
use Rattle.desk_lang.specs.declared.line.Line.{Line}
use Rattle.desk_lang.specs.declared.line.Line.TheVariants.{Request, Show, Due, Day, By, Nothing}
use Rattle.desk_lang.specs.declared.verb.Verb.{Verb}
use Rattle.desk_lang.specs.declared.verb.Verb.TheVariants as verbs
use Rattle.desk_lang.specs.declared.rest.Form.TheVariants.{Plain, Quoted}
use Rattle.desk_lang.specs.declared.rest.Malformed.{Malformed}
use Rattle.desk_lang.specs.Words.{PlainRest, PlainWord, rest_at, ends_word, first_word, end_place, same_form, word_in, value_of_word, next_value, ended, at_end, malformed_at, ◌>>=◌}
use Rattle.desk_lang.specs.Values.{label_of, kind_of, space_of, delegation_of, amount_of}
use Rattle.desk_lang.specs.Grammar.{range_line, number_line, range_and_handle, holder_line, delegate_line, transfer_line, more_hosts, reverse_line, day_line, by_line, requested, verb_of, line_of_verb, is_comment, line_of_first, line_of_word, line_of}
use Rattle.desk_lang.specs.Places.{spelled, front_word, BeginAlike, IsWordText}
use Rattle.desk_lang.proofs.Hosts.{hosts_behind}
use Rattle.desk_lang.proofs.ReadWords.{IsWordByte, IsWord, no_blank}
use Rattle.desk_lang.proofs.ReadLines.{literal_word}
use Rattle.desk_lang.proofs.ReadEntries.{day_is_word, day_back}
use Rattle.desk_lang.proofs.FrontWords.{AreBlank, nothing_at, nothing_alike, plain_again, quoted_again}
use Rattle.desk_lang.proofs.WrongPlaces.{Filled, Wrong, GoesWrong, by_word, of_form, refused, goes_by_word, ok_never, end_filled, end_wrong, Sample, word_filled, word_wrong}

-- ---- short words

plain_sample : {T : Type 0} (value : List ℕ → Option T) (x : T) (word : List ℕ) → IsWord word → value word ≡ Some x → Sample Plain value x (length word + 1)
plain_sample value x [] is back = absurd (omega (arith, is.some))
plain_sample value x (b ∷ word) is back =
    let first = no_blank b (All-head IsWordByte b word is.bytes) in
    record {
      content = b ∷ word;
      word = b ∷ word;
      short = omega arith;
      bare = λ _. first;
      again = λ place other e. plain_again place b word other (ne_eqb b 34 (All-head IsWordByte b word is.bytes).2) (All-weaker IsWordByte _ no_blank (b ∷ word) is.bytes) e;
      same = refl;
      back = back;
    }

abbrev zero_as : PlainRange
zero_as = record { space = Asn; first = 0; last = 0 }

range_sample : Sample Plain range_of zero_as 4
unfolding digits
range_sample = plain_sample range_of zero_as (codes "AS0") (literal_word (codes "AS0") (omega arith) refl) refl

number_sample : Sample Plain number_of (record { space = Asn; value = 0 }) 4
unfolding digits
number_sample = plain_sample number_of _ (codes "AS0") (literal_word (codes "AS0") (omega arith) refl) refl

handle_sample : Sample Plain (label_of is_handle) (codes "A") 2
handle_sample = plain_sample (label_of is_handle) (codes "A") (codes "A") (literal_word (codes "A") (omega arith) refl) refl

kind_sample : Sample Plain kind_of Lir 4
kind_sample = plain_sample kind_of Lir (codes "lir") (literal_word (codes "lir") (omega arith) refl) refl

cc_sample : Sample Plain (label_of is_cc) (codes "DE") 3
cc_sample = plain_sample (label_of is_cc) (codes "DE") (codes "DE") (literal_word (codes "DE") (omega arith) refl) refl

text_sample : Sample Quoted (label_of is_text) (codes "a") 4
text_sample = record {
  content = codes "a";
  word = quoted (codes "a");
  short = omega arith;
  bare = λ _. refl;
  again = λ place other e. quoted_again place (codes "a") other (All-cons (λ b. b ≢ 34) 97 [] (omega arith) (All-nil (λ b. b ≢ 34))) e;
  same = refl;
  back = refl;
}

space_sample : Sample Plain space_of Asn 4
space_sample = plain_sample space_of Asn (codes "asn") (literal_word (codes "asn") (omega arith) refl) refl

status_sample : Sample Plain delegation_of Assign 9
status_sample = plain_sample delegation_of Assign (codes "assigned") (literal_word (codes "assigned") (omega arith) refl) refl

count_sample : Sample Plain (amount_of Asn) 1 2
unfolding digits
count_sample = plain_sample (amount_of Asn) 1 (codes "1") (literal_word (codes "1") (omega arith) refl) refl

ipv4_sample : Sample Plain (amount_of Ipv4) 0 3
unfolding digits
ipv4_sample = plain_sample (amount_of Ipv4) 0 (codes "/0") (literal_word (codes "/0") (omega arith) refl) refl

ipv6_sample : Sample Plain (amount_of Ipv6) 3 3
unfolding digits
ipv6_sample = plain_sample (amount_of Ipv6) 3 (codes "/3") (literal_word (codes "/3") (omega arith) refl) refl

host_sample : Sample Plain (label_of is_host) (codes "a.b") 4
host_sample = plain_sample (label_of is_host) (codes "a.b") (codes "a.b") (literal_word (codes "a.b") (omega arith) refl) refl

day_sample : Sample Plain day_of_text 1 9
day_sample = plain_sample day_of_text 1 (day_text 1) (day_is_word 1) (day_back 1 (omega arith) (omega arith))

name_sample : Sample Plain (label_of is_name) (codes "a") 2
name_sample = plain_sample (label_of is_name) (codes "a") (codes "a") (literal_word (codes "a") (omega arith) refl) refl

-- ---- what stands behind the verbs

-- a handle that ends the line
module _ {U : Type 0} (meaning : List ℕ → U) where
  handle_filled : Filled (λ rest. next_value Plain (label_of is_handle) rest >>= λ handle. at_end (meaning handle.0) handle.1) 2
  handle_filled = word_filled Plain (label_of is_handle) (codes "A") (λ handle. at_end (meaning handle.0) handle.1) 2 0 handle_sample (end_filled (meaning (codes "A")))

  handle_wrong : GoesWrong (λ rest. next_value Plain (label_of is_handle) rest >>= λ handle. at_end (meaning handle.0) handle.1) 17
  handle_wrong =
      word_wrong Plain (label_of is_handle) (codes "A") (λ handle. at_end (meaning handle.0) handle.1) 2 0 17 handle_sample (end_filled (meaning (codes "A"))) (omega arith)
      (λ handle. end_wrong (meaning handle) 17)

range_wrong : GoesWrong range_line 17
unfolding range_line
range_wrong =
    word_wrong Plain range_of zero_as (λ range. at_end range.0 range.1) 4 0 17 range_sample (end_filled zero_as) (omega arith) (λ range. end_wrong range 17)

number_wrong : GoesWrong number_line 17
unfolding number_line
number_wrong =
    word_wrong Plain number_of (record { space = Asn; value = 0 }) (λ number. at_end number.0 number.1) 4 0 17 number_sample (end_filled _) (omega arith) (λ number. end_wrong number 17)

held_wrong : GoesWrong range_and_handle 17
unfolding range_and_handle
held_wrong =
    word_wrong Plain range_of zero_as (λ range. next_value Plain (label_of is_handle) range.1 >>= λ handle. at_end (range.0, handle.0) handle.1) 4 2 17 range_sample
    (handle_filled (λ handle. (zero_as, handle))) (omega arith) (λ range. handle_wrong (λ handle. (range, handle)))

day_wrong : GoesWrong day_line 17
unfolding day_line
day_wrong = word_wrong Plain day_of_text 1 (λ day. at_end day.0 day.1) 9 0 17 day_sample (end_filled 1) (omega arith) (λ day. end_wrong day 17)

by_wrong : GoesWrong by_line 17
unfolding by_line
by_wrong =
    word_wrong Plain (label_of is_name) (codes "a") (λ name. at_end name.0 name.1) 2 0 17 name_sample (end_filled (codes "a")) (omega arith) (λ name. end_wrong name 17)

transfer_wrong : GoesWrong transfer_line 17
unfolding transfer_line
transfer_wrong =
    word_wrong Plain range_of zero_as
    (λ range. next_value Plain (label_of is_handle) range.1 >>= λ from. next_value Plain (label_of is_handle) from.1 >>= λ to. at_end (Transfer range.0 from.0 to.0) to.1) 4 4 17 range_sample
    (word_filled Plain (label_of is_handle) (codes "A") (λ from. next_value Plain (label_of is_handle) from.1 >>= λ to. at_end (Transfer zero_as from.0 to.0) to.1) 2 2 handle_sample
    (handle_filled (λ to. Transfer zero_as (codes "A") to))) (omega arith)
    λ range.
    word_wrong Plain (label_of is_handle) (codes "A") (λ from. next_value Plain (label_of is_handle) from.1 >>= λ to. at_end (Transfer range from.0 to.0) to.1) 2 2 17 handle_sample
    (handle_filled (λ to. Transfer range (codes "A") to)) (omega arith)
    λ from. handle_wrong (λ to. Transfer range from to)

-- an amount, a status and a handle
module _ (space : Space) where
  abbrev behind_amount : ℕ × PlainRest → Result ARequest Malformed
  behind_amount amount =
      next_value Plain delegation_of amount.1 >>= λ status. next_value Plain (label_of is_handle) status.1 >>= λ handle. at_end (Delegate space amount.0 status.0 handle.0) handle.1

  status_filled : (amount : ℕ) → Filled (λ rest. behind_amount (amount, rest)) 11
  status_filled amount =
      word_filled Plain delegation_of Assign (λ status. next_value Plain (label_of is_handle) status.1 >>= λ handle. at_end (Delegate space amount status.0 handle.0) handle.1) 9 2 status_sample
      (handle_filled (λ handle. Delegate space amount Assign handle))

  status_wrong : (amount : ℕ) → GoesWrong (λ rest. behind_amount (amount, rest)) 17
  status_wrong amount =
      word_wrong Plain delegation_of Assign (λ status. next_value Plain (label_of is_handle) status.1 >>= λ handle. at_end (Delegate space amount status.0 handle.0) handle.1) 9 2 17 status_sample
      (handle_filled (λ handle. Delegate space amount Assign handle)) (omega arith)
      λ status. handle_wrong (λ handle. Delegate space amount status handle)

amount_wrong : (space : Space) → GoesWrong (λ rest. next_value Plain (amount_of space) rest >>= behind_amount space) 17
amount_wrong Asn = word_wrong Plain (amount_of Asn) 1 (behind_amount Asn) 2 11 17 count_sample (status_filled Asn 1) (omega arith) (status_wrong Asn)
amount_wrong Ipv4 = word_wrong Plain (amount_of Ipv4) 0 (behind_amount Ipv4) 3 11 17 ipv4_sample (status_filled Ipv4 0) (omega arith) (status_wrong Ipv4)
amount_wrong Ipv6 = word_wrong Plain (amount_of Ipv6) 3 (behind_amount Ipv6) 3 11 17 ipv6_sample (status_filled Ipv6 3) (omega arith) (status_wrong Ipv6)

delegate_wrong : GoesWrong delegate_line 17
unfolding delegate_line
delegate_wrong =
    word_wrong Plain space_of Asn (λ space. next_value Plain (amount_of space.0) space.1 >>= behind_amount space.0) 4 13 17 space_sample
    (word_filled Plain (amount_of Asn) 1 (behind_amount Asn) 2 11 count_sample (status_filled Asn 1)) (omega arith) amount_wrong

-- the email that ends a holder's line
module _ {U : Type 0} (meaning : List ℕ → U) where
  email_filled : Filled (λ rest. next_value Quoted (label_of is_text) rest >>= λ email. at_end (meaning email.0) email.1) 4
  email_filled = word_filled Quoted (label_of is_text) (codes "a") (λ email. at_end (meaning email.0) email.1) 4 0 text_sample (end_filled (meaning (codes "a")))

  email_wrong : GoesWrong (λ rest. next_value Quoted (label_of is_text) rest >>= λ email. at_end (meaning email.0) email.1) 17
  email_wrong =
      word_wrong Quoted (label_of is_text) (codes "a") (λ email. at_end (meaning email.0) email.1) 4 0 17 text_sample (end_filled (meaning (codes "a"))) (omega arith)
      (λ email. end_wrong (meaning email) 17)

module _ {U : Type 0} (meaning : List ℕ → List ℕ → U) where
  abbrev behind_name : List ℕ × PlainRest → Result U Malformed
  behind_name name = next_value Quoted (label_of is_text) name.1 >>= λ email. at_end (meaning name.0 email.0) email.1

  texts_filled : Filled (λ rest. next_value Quoted (label_of is_text) rest >>= behind_name) 8
  texts_filled = word_filled Quoted (label_of is_text) (codes "a") behind_name 4 4 text_sample (email_filled (meaning (codes "a")))

  texts_wrong : GoesWrong (λ rest. next_value Quoted (label_of is_text) rest >>= behind_name) 17
  texts_wrong =
      word_wrong Quoted (label_of is_text) (codes "a") behind_name 4 4 17 text_sample (email_filled (meaning (codes "a"))) (omega arith) (λ name. email_wrong (meaning name))

module _ (handle : List ℕ) (kind : Kind) where
  abbrev holder_of : List ℕ → List ℕ → List ℕ → Holder
  holder_of cc name email = record { handle = handle; kind = kind; cc = cc; name = name; email = email }

  abbrev behind_cc : List ℕ × PlainRest → Result Holder Malformed
  behind_cc cc = next_value Quoted (label_of is_text) cc.1 >>= behind_name (holder_of cc.0)

  cc_filled : Filled (λ rest. next_value Plain (label_of is_cc) rest >>= behind_cc) 11
  cc_filled = word_filled Plain (label_of is_cc) (codes "DE") behind_cc 3 8 cc_sample (texts_filled (holder_of (codes "DE")))

  cc_wrong : GoesWrong (λ rest. next_value Plain (label_of is_cc) rest >>= behind_cc) 17
  cc_wrong =
      word_wrong Plain (label_of is_cc) (codes "DE") behind_cc 3 8 17 cc_sample (texts_filled (holder_of (codes "DE"))) (omega arith) (λ cc. texts_wrong (holder_of cc))

module _ (handle : List ℕ) where
  abbrev behind_kind : Kind × PlainRest → Result Holder Malformed
  behind_kind kind = next_value Plain (label_of is_cc) kind.1 >>= behind_cc handle kind.0

  kind_filled : Filled (λ rest. next_value Plain kind_of rest >>= behind_kind) 15
  kind_filled = word_filled Plain kind_of Lir behind_kind 4 11 kind_sample (cc_filled handle Lir)

  kind_wrong : GoesWrong (λ rest. next_value Plain kind_of rest >>= behind_kind) 17
  kind_wrong = word_wrong Plain kind_of Lir behind_kind 4 11 17 kind_sample (cc_filled handle Lir) (omega arith) (cc_wrong handle)

holder_wrong : GoesWrong holder_line 17
unfolding holder_line
holder_wrong =
    word_wrong Plain (label_of is_handle) (codes "A") (λ handle. next_value Plain kind_of handle.1 >>= behind_kind handle.0) 2 15 17 handle_sample (kind_filled (codes "A")) (omega arith) kind_wrong

-- ---- hosts

no_more : (room : ℕ) (hosts : List (List ℕ)) (place : ℕ) (text : List ℕ) → AreBlank text → more_hosts room hosts (rest_at place text) ≡ Ok hosts
no_more zero hosts place text are = ap (ended hosts) (nothing_at place text are)
no_more (suc room) hosts place text are = at (first_word (rest_at place text)) (nothing_at place text are) _
  where
    at : (word : Option PlainWord) → word ≡ None → (more : Result (List (List ℕ)) Malformed) → ◌≡◌ {A = Result (List (List ℕ)) Malformed} (elim word [ None ↦ Ok hosts | Some word ↦ more ]) (Ok hosts)
    at None h more = refl
    at (Some word) h more = absurd (none-some _ (sym h))

hosts_filled : (room bytes : ℕ) (hosts : List (List ℕ)) → Filled (more_hosts room hosts) bytes
hosts_filled room bytes hosts = record {
  fill = [];
  short = omega arith;
  ends = refl;
  fills = λ place blanks are.
      subst (λ (r : Result (List (List ℕ)) Malformed). IsOk r) (sym (ap (λ t. more_hosts room hosts (rest_at place t)) (append-nil blanks) ∙ no_more room hosts place blanks are)) refl;
}

hosts_wrong : (room : ℕ) (hosts : List (List ℕ)) → GoesWrong (more_hosts room hosts) 17
hosts_wrong zero hosts = end_wrong hosts 17
hosts_wrong (suc room) hosts =
    goes_by_word Plain (label_of is_host) (λ host. more_hosts room (hosts ++ host.0 ∷ []) host.1) (more_hosts (suc room) hosts)
    (λ rest w is.
    hosts_behind room hosts rest (subst (λ (o : Option PlainWord). IsSome o) (sym is) refl)
    ∙ ap (λ o. (word_in Plain (end_place rest) o >>= λ w. value_of_word w (label_of is_host w.bytes)) >>= λ host. more_hosts room (hosts ++ host.0 ∷ []) host.1) is)
    (λ place text fault are e. absurd (ok_never hosts fault (sym (no_more (suc room) hosts place text are) ∙ e))) 17 (hosts_filled (suc room) 17 hosts)
    (λ host. hosts_wrong room (hosts ++ host ∷ []))

-- ---- a value that becomes another

module _ {A B : Type 0} (read : PlainRest → Result A Malformed) (f : A → B) where
  then_ok : (r : Result A Malformed) → IsOk r → IsOk (r >>= λ x. Ok (f x))
  then_ok (Ok x) h = refl
  then_ok (Err fault) h = h

  then_err : (r : Result A Malformed) (fault : Malformed) → (r >>= λ x. Ok (f x)) ≡ Err fault → r ≡ Err fault
  then_err (Ok x) fault h = absurd (ok_never (f x) fault h)
  then_err (Err other) fault h = let same : other ≡ fault = cc in ap Err same

  mapped_filled : (room : ℕ) → Filled read room → Filled (λ rest. read rest >>= λ x. Ok (f x)) room
  mapped_filled room filled = record { fill = filled.fill; short = filled.short; ends = filled.ends; fills = λ place blanks are. then_ok _ (filled.fills place blanks are) }

  mapped_wrong : (room : ℕ) → GoesWrong read room → GoesWrong (λ rest. read rest >>= λ x. Ok (f x)) room
  mapped_wrong room wrong place text fault e =
      let w = wrong place text fault (then_err (read (rest_at place text)) fault e) in
      record {
        front = w.front;
        behind = w.behind;
        parted = w.parted;
        there = w.there;
        same = λ other alike. ap (λ r. r >>= λ x. Ok (f x)) (w.same other alike);
        more = w.more;
        short = w.short;
        ends = w.ends;
        goes_on = then_ok _ w.goes_on;
      }

module _ (range : PlainRange) where
  abbrev behind_host : List ℕ × PlainRest → Result ARequest Malformed
  behind_host host = more_hosts 3 (host.0 ∷ []) host.1 >>= λ hosts. Ok (SetReverse range hosts)

  first_host_filled : Filled (λ rest. next_value Plain (label_of is_host) rest >>= behind_host) 4
  first_host_filled =
      word_filled Plain (label_of is_host) (codes "a.b") behind_host 4 0 host_sample
      (mapped_filled (more_hosts 3 (codes "a.b" ∷ [])) (λ hosts. SetReverse range hosts) 0 (hosts_filled 3 0 (codes "a.b" ∷ [])))

  first_host_wrong : GoesWrong (λ rest. next_value Plain (label_of is_host) rest >>= behind_host) 17
  first_host_wrong =
      word_wrong Plain (label_of is_host) (codes "a.b") behind_host 4 0 17 host_sample
      (mapped_filled (more_hosts 3 (codes "a.b" ∷ [])) (λ hosts. SetReverse range hosts) 0 (hosts_filled 3 0 (codes "a.b" ∷ []))) (omega arith)
      λ host. mapped_wrong (more_hosts 3 (host ∷ [])) (λ hosts. SetReverse range hosts) 17 (hosts_wrong 3 (host ∷ []))

reverse_wrong : GoesWrong reverse_line 17
unfolding reverse_line
reverse_wrong =
    word_wrong Plain range_of zero_as (λ range. next_value Plain (label_of is_host) range.1 >>= behind_host range.0) 4 4 17 range_sample (first_host_filled zero_as) (omega arith) first_host_wrong

-- ---- the table

requested_wrong : {T : Type 0} (read : PlainRest → Result T Malformed) (request : T → ARequest) → GoesWrong read 17 → GoesWrong (λ rest. requested request (read rest)) 17
requested_wrong read request wrong = mapped_wrong read (λ x. Request (request x)) 17 wrong

verb_wrong : (verb : Verb) → GoesWrong (line_of_verb verb) 17
verb_wrong verbs.Receive = requested_wrong range_line (λ range. Receive range) range_wrong
verb_wrong verbs.Holder = requested_wrong holder_line (λ holder. AddHolder holder) holder_wrong
verb_wrong verbs.Edit = requested_wrong holder_line (λ holder. EditHolder holder) holder_wrong
verb_wrong verbs.Delegate = requested_wrong delegate_line (λ request. request) delegate_wrong
verb_wrong verbs.Reserve = requested_wrong range_line (λ range. Reserve range) range_wrong
verb_wrong verbs.Unreserve = requested_wrong range_line (λ range. Unreserve range) range_wrong
verb_wrong verbs.Sub = requested_wrong range_and_handle (λ p. SubAssign p.0 p.1) held_wrong
verb_wrong verbs.Unsub = requested_wrong range_line (λ range. SubReturn range) range_wrong
verb_wrong verbs.Return = requested_wrong range_and_handle (λ p. Return p.0 p.1) held_wrong
verb_wrong verbs.Release = requested_wrong range_line (λ range. Release range) range_wrong
verb_wrong verbs.Split = requested_wrong number_line (λ at. Split at) number_wrong
verb_wrong verbs.Join = requested_wrong number_line (λ at. Join at) number_wrong
verb_wrong verbs.Transfer = requested_wrong transfer_line (λ request. request) transfer_wrong
verb_wrong verbs.Reverse = requested_wrong reverse_line (λ request. request) reverse_wrong
verb_wrong verbs.Unreverse = requested_wrong range_line (λ range. ClearReverse range) range_wrong
verb_wrong verbs.Show = mapped_wrong number_line (λ n. Show n) 17 number_wrong
verb_wrong verbs.Due = end_wrong Due 17
verb_wrong verbs.Day = mapped_wrong day_line (λ day. Day day) 17 day_wrong
verb_wrong verbs.By = mapped_wrong by_line (λ name. By name) 17 by_wrong

-- ---- lines

-- the verb that the first word is; a comment has none
abbrev first_value : List ℕ → Option (Option Verb)
first_value word = if is_comment word then Some None else option_map Some (verb_of word)

abbrev behind_first : Option Verb × PlainRest → Result Line Malformed
behind_first first = elim first.0 [ None ↦ Ok Nothing | Some verb ↦ line_of_verb verb first.1 ]

first_wrong : (first : Option Verb) → GoesWrong (λ rest. behind_first (first, rest)) 17
first_wrong None = λ place text fault e. absurd (ok_never Nothing fault e)
first_wrong (Some verb) = verb_wrong verb

-- a line read from its first word on
abbrev line_from : PlainRest → Result Line Malformed
line_from rest = line_of_word (first_word rest)

by_first : (w : PlainWord) → line_of_word (Some w) ≡ by_word Plain first_value behind_first w
by_first w =
    elim (cases_Bool (same_form w.form Plain)) [
      | inl plain ↦
          cond-true (same_form w.form Plain) (if is_comment w.bytes then Ok Nothing else line_of_first w (verb_of w.bytes)) (Err (malformed_at w.place)) plain
          ∙ behind (is_comment w.bytes) (verb_of w.bytes)
          ∙ sym (of_form Plain first_value behind_first w plain)
      | inr other ↦
          cond-false (same_form w.form Plain) (if is_comment w.bytes then Ok Nothing else line_of_first w (verb_of w.bytes)) (Err (malformed_at w.place)) other
          ∙ sym (refused Plain first_value behind_first w (inl other))
    ]
  where
    behind : (comment : Bool) (verb : Option Verb) → (if comment then Ok Nothing else line_of_first w verb) ≡ (value_of_word w (if comment then Some None else option_map Some verb) >>= behind_first)
    behind true verb = refl
    behind false None = refl
    behind false (Some verb) = refl

pub line_wrong : GoesWrong line_from 17
line_wrong =
    goes_by_word Plain first_value behind_first line_from (λ rest w is. ap line_of_word is ∙ by_first w)
    (λ place text fault are e. absurd (ok_never Nothing fault (sym (ap line_of_word (nothing_at place text are)) ∙ e))) 17
    (record {
      fill = [];
      short = omega arith;
      ends = refl;
      fills = λ place blanks are.
          subst (λ (r : Result Line Malformed). IsOk r) (sym (ap (λ t. line_from (rest_at place t)) (append-nil blanks) ∙ ap line_of_word (nothing_at place blanks are))) refl;
    })
    first_wrong

-- ---- what is said of all lines

-- a line of at most 1,024 bytes is read from its first word on
pub short_line : (text : List ℕ) → length text ≤ 1024 → line_of text ≡ line_from (rest_at 1 text)
short_line text few = cond-false (nat_lt 1024 (length text)) (Err (malformed_at 1025)) (line_from (rest_at 1 text)) (le-ltb 1024 (length text) few)

pub long_line : (text : List ℕ) → 1024 < length text → line_of text ≡ Err (malformed_at 1025)
long_line text many = cond-true (nat_lt 1024 (length text)) (Err (malformed_at 1025)) (line_from (rest_at 1 text)) (lt-ltb 1024 (length text) many)

fault_of : (r : Result Line Malformed) (a b : Malformed) → r ≡ Err a → r ≡ Err b → a ≡ b
fault_of r a b h k = cc

-- a text parts in one way in front of so many bytes
one_parting : (a b f g : List ℕ) → a ++ b ≡ f ++ g → length a ≡ length f → (f ≡ a) × (g ≡ b)
one_parting a b f g e same =
    let P : ℕ → Type 0 = λ n. (take n (f ++ g) ≡ f) × (drop n (f ++ g) ≡ g) in
    let at = subst P (sym same) (take-append_seam f g, drop-append_seam f g) in
    (sym at.0 ∙ ap (take (length a)) (sym e) ∙ take-append_seam a b, sym at.1 ∙ ap (drop (length a)) (sym e) ∙ drop-append_seam a b)

-- the place is that behind some bytes of the line
pub place_there : (text : List ℕ) (fault : Malformed) → line_of text ≡ Err fault → (front : List ℕ) × (behind : List ℕ) × (text ≡ front ++ behind) × (fault ≡ malformed_at (length front + 1))
place_there text fault e =
    elim (cases_lt 1024 (length text)) [
      | inl many ↦
          let size : length (take 1024 text) + 1 ≡ 1025 = omega (arith, length-take 1024 text) in
          (take 1024 text, drop 1024 text, sym (take-append-drop 1024 text), fault_of (line_of text) fault (malformed_at 1025) e (long_line text many) ∙ ap malformed_at (sym size))
      | inr few ↦
          let w = line_wrong 1 text fault (sym (short_line text (omega arith)) ∙ e) in
          let size : 1 + length w.front ≡ length w.front + 1 = omega arith in
          (w.front, w.behind, w.parted, w.there ∙ ap malformed_at size)
    ]

-- the line goes wrong behind these bytes, and is no longer than what is read
module _ (front text : List ℕ) (e : line_of (front ++ text) ≡ Err (malformed_at (length front + 1))) (few : length (front ++ text) ≤ 1024) where
  wrong_there : Wrong line_from 17 1 (front ++ text) (malformed_at (length front + 1))
  wrong_there = line_wrong 1 (front ++ text) (malformed_at (length front + 1)) (sym (short_line (front ++ text) few) ∙ e)

  parting : (wrong_there.front ≡ front) × (wrong_there.behind ≡ text)
  parting =
      let places : length front + 1 ≡ 1 + length wrong_there.front = ap (λ (m : Malformed). m.place) wrong_there.there in
      one_parting front text wrong_there.front wrong_there.behind wrong_there.parted (omega (arith, places))

  wrong_alike : (other : List ℕ) → BeginAlike text other → length (front ++ other) ≤ 1024 → line_of (front ++ other) ≡ Err (malformed_at (length front + 1))
  wrong_alike other alike fits =
      short_line (front ++ other) fits
      ∙ ap (λ t. line_from (rest_at 1 (t ++ other))) (sym parting.0)
      ∙ wrong_there.same other (ap front_word parting.1 ∙ alike)

  completed : length front + 17 ≤ 1024 → (more : List ℕ) × (length more ≤ 17) × IsOk (line_of (front ++ more))
  completed room =
      let more = wrong_there.more in (
        more,
        wrong_there.short,
        subst (λ (r : Result Line Malformed). IsOk r)
            (ap (λ t. line_from (rest_at 1 (t ++ more))) parting.0 ∙ sym (short_line (front ++ more) (omega (arith, length-append front more, wrong_there.short)))) wrong_there.goes_on,
      )

-- a line that is too long goes wrong behind all that is read
too_long : (front text : List ℕ) → line_of (front ++ text) ≡ Err (malformed_at (length front + 1)) → 1024 < length (front ++ text) → length front ≡ 1024
too_long front text e many =
    let places : length front + 1 ≡ 1025 = ap (λ (m : Malformed). m.place) (fault_of (line_of (front ++ text)) (malformed_at (length front + 1)) (malformed_at 1025) e (long_line (front ++ text) many)) in
    omega (arith, places)

pub place_alike : (front text other : List ℕ) → line_of (front ++ text) ≡ Err (malformed_at (length front + 1)) → BeginAlike text other → length (front ++ other) ≤ 1024
    → line_of (front ++ other) ≡ Err (malformed_at (length front + 1))
place_alike front text other e alike fits =
    elim (cases_lt 1024 (length (front ++ text))) [
      | inr few ↦ wrong_alike front text e (omega arith) other alike fits
      | inl many ↦
          let all = too_long front text e many in
          let none : other ≡ [] = nothing_left other (omega (arith, all, fits, length-append front other)) in
          let empty = nothing_alike text (ap front_word (sym none) ∙ sym alike) in
          let size = ap length empty in
          absurd (omega (arith, many, all, length-append front text, size))
    ]
  where
    nothing_left : (other : List ℕ) → length other ≤ 0 → other ≡ []
    nothing_left [] h = refl
    nothing_left (b ∷ bs) h = absurd (omega (arith, h))

pub place_completed : (front text : List ℕ) → line_of (front ++ text) ≡ Err (malformed_at (length front + 1)) → length front + 17 ≤ 1024
    → (more : List ℕ) × (length more ≤ 17) × IsOk (line_of (front ++ more))
place_completed front text e room =
    elim (cases_lt 1024 (length (front ++ text))) [
      | inr few ↦ completed front text e (omega arith) room
      | inl many ↦ absurd (omega (arith, room, too_long front text e many))
    ]

-- a whole word is the same one, whatever comes behind the blank that ends it
word_alike : (word behind other : List ℕ) → IsWordText word → ends_word behind ≡ true → ends_word other ≡ true → BeginAlike (word ++ behind) (word ++ other)
word_alike [] behind other (inl plain) h k = absurd (omega (arith, plain.0))
word_alike (b ∷ word) behind other (inl plain) h k =
    let other_byte = ne_eqb b 34 plain.1 in
    ap (option_map spelled) (plain_again 1 b word behind other_byte plain.2 h) ∙ sym (ap (option_map spelled) (plain_again 1 b word other other_byte plain.2 k))
word_alike word behind other (inr (content, no_quote, is)) h k =
    ap (λ t. front_word (t ++ behind)) is ∙ ap (option_map spelled) (quoted_again 1 content behind no_quote h)
    ∙ sym (ap (λ t. front_word (t ++ other)) is ∙ ap (option_map spelled) (quoted_again 1 content other no_quote k))

pub place_of_word : (front word behind other : List ℕ) → IsWordText word → ends_word behind ≡ true → ends_word other ≡ true
    → line_of (front ++ (word ++ behind)) ≡ Err (malformed_at (length front + 1)) → length (front ++ (word ++ other)) ≤ 1024
    → line_of (front ++ (word ++ other)) ≡ Err (malformed_at (length front + 1))
place_of_word front word behind other is h k e fits = place_alike front (word ++ behind) (word ++ other) e (word_alike word behind other is h k) fits
