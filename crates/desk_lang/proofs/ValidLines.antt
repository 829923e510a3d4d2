-- What a line names is of its space.
use Rattle.std.proofs.Common.{◌≡◌, ℕ, zero, suc, ◌+◌, ◌≤◌, ◌++◌, length-append, lit≤, arith, Bool, true, false, cond, List, [], ◌∷◌, Option, None, Some, Result, Ok, Err, refl}
use Rattle.std.specs.Prelude.{MatchOption, IfSome, IfOk, nat_le, nat_lt, length, if◌then◌else◌}
use Rattle.std.specs.Option.{option_and_then}
use Rattle.std.proofs.lemmas.Bool.{le-leb, and_from}
use Rattle.num_range.specs.declared.space.Space.{Space}
use Rattle.num_range.specs.Space.{top_of}
use Rattle.num_range.specs.Number.{PlainNumber}
use Rattle.num_range.specs.Range.{PlainRange}
use Rattle.addr_text.specs.Number.{SpellsNumber}
use Rattle.addr_text.specs.Range.{SpellsRange}
use Rattle.addr_text.specs.Reading.{number_of, range_of}
use Rattle.addr_text.proofs.Computed.{number_spelled, range_spelled}
use Rattle.addr_text.proofs.Valid.{number_valid, range_valid}
use Rattle.reg_entry.specs.declared.request.Request.{Request as ARequest}
use Rattle.reg_entry.specs.declared.request.Request.TheVariants.{SetReverse}
use Rattle.reg_entry.specs.Host.{is_host}
use Rattle.reg_entry.specs.Request.{has_size, is_range, is_number, is_server_count, is_request, IsSizedRequest}
use Rattle.desk_lang.specs.declared.line.Line.{Line}
use Rattle.desk_lang.specs.declared.line.Line.TheVariants.{Due, Nothing}
use Rattle.desk_lang.specs.declared.verb.Verb.{Verb}
use Rattle.desk_lang.specs.declared.verb.Verb.TheVariants as verbs
use Rattle.desk_lang.specs.declared.rest.Form.{Form}
use Rattle.desk_lang.specs.declared.rest.Form.TheVariants.{Plain}
use Rattle.desk_lang.specs.declared.rest.Malformed.{Malformed}
use Rattle.desk_lang.specs.Words.{PlainRest, PlainWord, rest_at, first_word, same_form, malformed_at, next_word, next_value, value_of_word, ended, at_end, ◌>>=◌}
use Rattle.desk_lang.specs.Values.{label_of, spelled_amount, amount_of}
use Rattle.desk_lang.specs.Grammar.{range_line, number_line, range_and_handle, holder_line, delegate_line, transfer_line, more_hosts, reverse_line, day_line, by_line, requested, verb_of, line_of_verb, is_comment, line_of_first, line_of_word, line_of, IsValidLine}

-- ---- what holds of values that are read

bind_has : {A B : Type 0} (P : A → Type 0) (Q : B → Type 0) (r : Result A Malformed) (f : A → Result B Malformed)
    → IfOk r P → ((x : A) → P x → IfOk (f x) Q) → IfOk (r >>= f) Q
bind_has P Q (Ok x) f h goes = goes x h
bind_has P Q (Err fault) f h goes = tt

end_has : {T : Type 0} (P : T → Type 0) (x : T) (rest : PlainRest) → P x → IfOk (at_end x rest) P
end_has P x rest h = at (first_word rest)
  where
    at : (word : Option PlainWord) → IfOk (ended x word) P
    at None = h
    at (Some word) = tt

value_has : {T : Type 0} (P : T → Type 0) (form : Form) (value : List ℕ → Option T) (rest : PlainRest)
    → ((word : List ℕ) → IfSome (value word) P) → IfOk (next_value form value rest) (λ x. P x.0)
value_has {T} P form value rest each = at (next_word form rest)
  where
    of_word : (word : PlainWord) (o : Option T) → IfSome o P → IfOk (value_of_word word o) (λ x. P x.0)
    of_word word None h = tt
    of_word word (Some x) h = h

    at : (word : Result PlainWord Malformed) → IfOk (word >>= λ word. value_of_word word (value word.bytes)) (λ x. P x.0)
    at (Ok word) = of_word word (value word.bytes) (each word.bytes)
    at (Err fault) = tt

-- a word of which nothing is asked
always : {T : Type 0} (form : Form) (value : List ℕ → Option T) (rest : PlainRest) → IfOk (next_value form value rest) (λ x. Unit {0})
always {T} form value rest = value_has (λ x. Unit {0}) form value rest λ word. at (value word)
  where
    at : (o : Option T) → IfSome o (λ x. Unit {0})
    at None = tt
    at (Some x) = tt

-- ---- ranges, numbers and amounts

range_is : (word : List ℕ) → IfSome (range_of word) (λ r. is_range r ≡ true)
range_is word = at (range_of word) (range_spelled word)
  where
    at : (o : Option PlainRange) → MatchOption o ((r : PlainRange) → ¬ (SpellsRange word r)) (SpellsRange word) → IfSome o (λ r. is_range r ≡ true)
    at None h = tt
    at (Some r) h =
        let valid = range_valid word r h in
        and_from (nat_le r.first r.last) (nat_le r.last (top_of r.space)) (le-leb r.first r.last valid.0) (le-leb r.last (top_of r.space) valid.1)

number_is : (word : List ℕ) → IfSome (number_of word) (λ n. is_number n ≡ true)
number_is word = at (number_of word) (number_spelled word)
  where
    at : (o : Option PlainNumber) → MatchOption o ((n : PlainNumber) → ¬ (SpellsNumber word n)) (SpellsNumber word) → IfSome o (λ n. is_number n ≡ true)
    at None h = tt
    at (Some n) h = le-leb n.value (top_of n.space) (number_valid word n h)

amount_is : (space : Space) (word : List ℕ) → IfSome (amount_of space word) (λ amount. has_size space amount ≡ true)
amount_is space word = at (spelled_amount space word)
  where
    sized : (amount : ℕ) (b : Bool) → has_size space amount ≡ b → IfSome (if b then Some amount else None) (λ amount. has_size space amount ≡ true)
    sized amount true e = e
    sized amount false e = tt

    at : (o : Option ℕ) → IfSome (option_and_then (λ amount. if has_size space amount then Some amount else None) o) (λ amount. has_size space amount ≡ true)
    at None = tt
    at (Some amount) = sized amount (has_size space amount) refl

-- ---- lines

abbrev IsValidRequest : ARequest → Type 0
IsValidRequest request = (is_request request ≡ true) × IsSizedRequest request

range_line_valid : (rest : PlainRest) → IfOk (range_line rest) (λ r. is_range r ≡ true)
unfolding range_line
range_line_valid rest =
    bind_has (λ p. is_range p.0 ≡ true) (λ r. is_range r ≡ true) _ _ (value_has (λ r. is_range r ≡ true) _ range_of rest range_is)
    (λ p h. end_has (λ r. is_range r ≡ true) p.0 p.1 h)

number_line_valid : (rest : PlainRest) → IfOk (number_line rest) (λ n. is_number n ≡ true)
unfolding number_line
number_line_valid rest =
    bind_has (λ p. is_number p.0 ≡ true) (λ n. is_number n ≡ true) _ _ (value_has (λ n. is_number n ≡ true) _ number_of rest number_is)
    (λ p h. end_has (λ n. is_number n ≡ true) p.0 p.1 h)

range_and_handle_valid : (rest : PlainRest) → IfOk (range_and_handle rest) (λ p. is_range p.0 ≡ true)
unfolding range_and_handle
range_and_handle_valid rest =
    bind_has (λ p. is_range p.0 ≡ true) (λ p. is_range p.0 ≡ true) _ _ (value_has (λ r. is_range r ≡ true) _ range_of rest range_is)
    (λ p h. bind_has (λ x. Unit {0}) (λ p. is_range p.0 ≡ true) _ _ (always _ _ p.1)
    (λ x k. end_has (λ p. is_range p.0 ≡ true) (p.0, x.0) x.1 h))

delegate_line_valid : (rest : PlainRest) → IfOk (delegate_line rest) (λ r. (is_request r ≡ true) × IsSizedRequest r)
unfolding delegate_line
delegate_line_valid rest =
    bind_has (λ x. Unit {0}) IsValidRequest _ _ (always _ _ rest)
    (λ space h. bind_has (λ x. has_size space.0 x.0 ≡ true) IsValidRequest _ _ (value_has (λ amount. has_size space.0 amount ≡ true) _ (amount_of space.0) space.1 (amount_is space.0))
    (λ amount sized. bind_has (λ x. Unit {0}) IsValidRequest _ _ (always _ _ amount.1)
    (λ status k. bind_has (λ x. Unit {0}) IsValidRequest _ _ (always _ _ status.1)
    (λ handle l. end_has IsValidRequest _ handle.1 (refl, sized)))))

transfer_line_valid : (rest : PlainRest) → IfOk (transfer_line rest) (λ r. (is_request r ≡ true) × IsSizedRequest r)
unfolding transfer_line
transfer_line_valid rest =
    bind_has (λ p. is_range p.0 ≡ true) IsValidRequest _ _ (value_has (λ r. is_range r ≡ true) _ range_of rest range_is)
    (λ p h. bind_has (λ x. Unit {0}) IsValidRequest _ _ (always _ _ p.1)
    (λ from k. bind_has (λ x. Unit {0}) IsValidRequest _ _ (always _ _ from.1)
    (λ to l. end_has IsValidRequest _ to.1 (h, tt))))

-- one to four hosts
abbrev HaveRoom : List (List ℕ) → Type 0
HaveRoom hosts = (1 ≤ length hosts) × (length hosts ≤ 4)

few_hosts : (room : ℕ) (hosts : List (List ℕ)) (rest : PlainRest) → 1 ≤ length hosts → length hosts + room ≤ 4 → IfOk (more_hosts room hosts rest) HaveRoom
few_hosts zero hosts rest some few = end_has HaveRoom hosts rest (some, omega arith)
few_hosts (suc room) hosts rest some few =
    at _ (first_word rest)
    (bind_has (λ x. Unit {0}) HaveRoom (next_value Plain (label_of is_host) rest) _ (always Plain (label_of is_host) rest)
    (λ host h. few_hosts room (hosts ++ host.0 ∷ []) host.1 (omega (arith, length-append hosts (host.0 ∷ []))) (omega (arith, length-append hosts (host.0 ∷ [])))))
  where
    at : (more : Result (List (List ℕ)) Malformed) (word : Option PlainWord) → IfOk more HaveRoom → IfOk (elim word [ None ↦ Ok hosts | Some word ↦ more ]) HaveRoom
    at more None h = (some, omega arith)
    at more (Some word) h = h

reverse_line_valid : (rest : PlainRest) → IfOk (reverse_line rest) (λ r. (is_request r ≡ true) × IsSizedRequest r)
unfolding reverse_line
reverse_line_valid rest =
    bind_has (λ p. is_range p.0 ≡ true) IsValidRequest _ _ (value_has (λ r. is_range r ≡ true) _ range_of rest range_is)
    (λ p h. bind_has (λ x. Unit {0}) IsValidRequest _ _ (always _ _ p.1)
    (λ host k. hosts_valid p.0 h (more_hosts 3 (host.0 ∷ []) host.1) (few_hosts 3 (host.0 ∷ []) host.1 (lit≤ tt) (lit≤ tt))))
  where
    hosts_valid : (range : PlainRange) → is_range range ≡ true → (hosts : Result (List (List ℕ)) Malformed) → IfOk hosts HaveRoom
        → IfOk (hosts >>= λ hosts. Ok (SetReverse range hosts)) IsValidRequest
    hosts_valid range h (Ok hosts) few =
        let counted : is_server_count hosts ≡ true = and_from (nat_le 1 (length hosts)) (nat_le (length hosts) 4) (le-leb 1 (length hosts) few.0) (le-leb (length hosts) 4 few.1) in
        (and_from (is_range range) (is_server_count hosts) h counted, tt)
    hosts_valid range h (Err fault) few = tt

unasked : {T : Type 0} (r : Result T Malformed) → IfOk r (λ x. Unit {0})
unasked (Ok x) = tt
unasked (Err fault) = tt

-- ---- the table

requested_valid : {T : Type 0} (P : T → Type 0) (request : T → ARequest) (r : Result T Malformed) → IfOk r P
    → ((x : T) → P x → IsValidRequest (request x)) → IfOk (requested request r) IsValidLine
requested_valid P request r h valid = bind_has P IsValidLine r _ h valid

verb_valid : (verb : Verb) (rest : PlainRest) → IfOk (line_of_verb verb rest) IsValidLine
verb_valid verbs.Receive rest = requested_valid (λ r. is_range r ≡ true) _ _ (range_line_valid rest) (λ r h. (h, tt))
verb_valid verbs.Holder rest = requested_valid (λ x. Unit {0}) _ _ (unasked (holder_line rest)) (λ x h. (refl, tt))
verb_valid verbs.Edit rest = requested_valid (λ x. Unit {0}) _ _ (unasked (holder_line rest)) (λ x h. (refl, tt))
verb_valid verbs.Delegate rest = requested_valid IsValidRequest _ _ (delegate_line_valid rest) (λ r h. h)
verb_valid verbs.Reserve rest = requested_valid (λ r. is_range r ≡ true) _ _ (range_line_valid rest) (λ r h. (h, tt))
verb_valid verbs.Unreserve rest = requested_valid (λ r. is_range r ≡ true) _ _ (range_line_valid rest) (λ r h. (h, tt))
verb_valid verbs.Sub rest = requested_valid (λ p. is_range p.0 ≡ true) _ _ (range_and_handle_valid rest) (λ p h. (h, tt))
verb_valid verbs.Unsub rest = requested_valid (λ r. is_range r ≡ true) _ _ (range_line_valid rest) (λ r h. (h, tt))
verb_valid verbs.Return rest = requested_valid (λ p. is_range p.0 ≡ true) _ _ (range_and_handle_valid rest) (λ p h. (h, tt))
verb_valid verbs.Release rest = requested_valid (λ r. is_range r ≡ true) _ _ (range_line_valid rest) (λ r h. (h, tt))
verb_valid verbs.Split rest = requested_valid (λ n. is_number n ≡ true) _ _ (number_line_valid rest) (λ n h. (h, tt))
verb_valid verbs.Join rest = requested_valid (λ n. is_number n ≡ true) _ _ (number_line_valid rest) (λ n h. (h, tt))
verb_valid verbs.Transfer rest = requested_valid IsValidRequest _ _ (transfer_line_valid rest) (λ r h. h)
verb_valid verbs.Reverse rest = requested_valid IsValidRequest _ _ (reverse_line_valid rest) (λ r h. h)
verb_valid verbs.Unreverse rest = requested_valid (λ r. is_range r ≡ true) _ _ (range_line_valid rest) (λ r h. (h, tt))
verb_valid verbs.Show rest = bind_has (λ n. is_number n ≡ true) IsValidLine (number_line rest) _ (number_line_valid rest) (λ n h. h)
verb_valid verbs.Due rest = end_has IsValidLine Due rest tt
verb_valid verbs.Day rest = bind_has (λ x. Unit {0}) IsValidLine (day_line rest) _ (unasked (day_line rest)) (λ n h. tt)
verb_valid verbs.By rest = bind_has (λ x. Unit {0}) IsValidLine (by_line rest) _ (unasked (by_line rest)) (λ n h. tt)

either : (b : Bool) (x y : Result Line Malformed) → IfOk x IsValidLine → IfOk y IsValidLine → IfOk (cond b x y) IsValidLine
either true x y h k = h
either false x y h k = k

first_valid : (word : PlainWord) (verb : Option Verb) → IfOk (line_of_first word verb) IsValidLine
first_valid word None = tt
first_valid word (Some verb) = verb_valid verb word.behind

word_valid : (word : Option PlainWord) → IfOk (line_of_word word) IsValidLine
word_valid None = tt
word_valid (Some word) =
    either (same_form word.form Plain) _ (Err (malformed_at word.place))
    (either (is_comment word.bytes) (Ok Nothing) (line_of_first word (verb_of word.bytes)) tt (first_valid word (verb_of word.bytes))) tt

pub line_valid : (text : List ℕ) → IfOk (line_of text) IsValidLine
line_valid text =
    either (nat_lt 1024 (length text)) (Err (malformed_at 1025)) (line_of_word (first_word (rest_at 1 text))) tt
    (word_valid (first_word (rest_at 1 text)))
