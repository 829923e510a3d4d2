-- The hosts of a line, taken one by one.
use Rattle.std.proofs.Common.{◌≡◌, ℕ, zero, suc, ◌+◌, ◌-◌, ◌<◌, ◌≤◌, List, [], ◌∷◌, ◌++◌, Option, None, Some, Result, Ok, Err, refl, sym, ap, ◌∙◌, arith, length, take, slice_set, true, false, ◌&&◌, nat_lt, true≢false}
use Rattle.std.proofs.lemmas.Bool.{false≢true, and_parts, ltb-true, lt-ltb}
use Rattle.std.proofs.lemmas.List.{take_more_set}
use Rattle.std.specs.Option.{is_some, IsSome}
use Rattle.reg_entry.specs.Host.{is_host}
use Rattle.desk_lang.specs.declared.rest.Form.TheVariants.{Plain}
use Rattle.desk_lang.specs.declared.rest.Malformed.{Malformed}
use Rattle.desk_lang.specs.Words.{PlainRest, PlainWord, first_word, next_value, at_end, ended, ◌>>=◌}
use Rattle.desk_lang.specs.Values.{label_of}
use Rattle.desk_lang.specs.Grammar.{more_hosts}

-- where there is room and a word, it has to be a host
pub hosts_behind : (room : ℕ) (hosts : List (List ℕ)) (rest : PlainRest) → IsSome (first_word rest)
    → more_hosts (suc room) hosts rest ≡ (next_value Plain (label_of is_host) rest >>= λ host. more_hosts room (hosts ++ host.0 ∷ []) host.1)
hosts_behind room hosts rest some = behind _ (first_word rest) some
  where
    behind : (more : Result (List (List ℕ)) Malformed) (word : Option PlainWord) → IsSome word
        → elim word [ None ↦ Ok hosts | Some word ↦ more ] ≡ more
    behind more None some = absurd (false≢true some)
    behind more (Some word) some = refl

-- one host more
pub hosts_step : (len : ℕ) (hosts : List (List ℕ)) (rest behind : PlainRest) (host : List ℕ) → (nat_lt len 4 && is_some (first_word rest)) ≡ true → length hosts ≡ 4
    → next_value Plain (label_of is_host) rest ≡ Ok (host, behind)
    → more_hosts (4 - (len + 1)) (take (len + 1) (slice_set hosts len host)) behind ≡ more_hosts (4 - len) (take len hosts) rest
hosts_step len hosts rest behind host goes_on four value =
    let (below, some) = and_parts (nat_lt len 4) (is_some (first_word rest)) goes_on in
    let fits = ltb-true len 4 below in
    let room : 4 - len ≡ suc (4 - (len + 1)) = omega arith in
    let more = take_more_set hosts len host (omega arith) in
    rw (room, hosts_behind (4 - (len + 1)) (take len hosts) rest some, value, more) refl

-- a word that is no host
pub hosts_fault : (len : ℕ) (hosts : List (List ℕ)) (rest : PlainRest) (fault : Malformed) → (nat_lt len 4 && is_some (first_word rest)) ≡ true
    → next_value Plain (label_of is_host) rest ≡ Err fault → more_hosts (4 - len) (take len hosts) rest ≡ Err fault
hosts_fault len hosts rest fault goes_on value =
    let (below, some) = and_parts (nat_lt len 4) (is_some (first_word rest)) goes_on in
    let fits = ltb-true len 4 below in
    let room : 4 - len ≡ suc (4 - (len + 1)) = omega arith in
    rw (room, hosts_behind (4 - (len + 1)) (take len hosts) rest some, value) refl

-- without room, or without a word, the line ends here
pub hosts_end : (len : ℕ) (hosts : List (List ℕ)) (rest : PlainRest) → len ≤ 4 → (nat_lt len 4 && is_some (first_word rest)) ≡ false
    → more_hosts (4 - len) (take len hosts) rest ≡ at_end (take len hosts) rest
hosts_end len hosts rest within none = at (4 - len) refl
  where
    nothing : (more : Result (List (List ℕ)) Malformed) (word : Option PlainWord) → is_some word ≡ false
        → elim word [ None ↦ Ok (take len hosts) | Some word ↦ more ] ≡ ended (take len hosts) word
    nothing more None none = refl
    nothing more (Some word) none = absurd (true≢false none)

    at : (room : ℕ) → 4 - len ≡ room → more_hosts room (take len hosts) rest ≡ at_end (take len hosts) rest
    at zero e = refl
    at (suc room) e =
        let fits : len < 4 = omega arith in
        nothing _ (first_word rest) (sym (ap (λ b. b && is_some (first_word rest)) (lt-ltb len 4 fits)) ∙ none)
