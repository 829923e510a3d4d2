-- A path asks for one thing.
use Rattle.std.proofs.Common.{◌≡◌, ℕ, ◌<◌, ◌≤◌, ◌^◌, List, Option, None, Some, codes, decimal, refl, sym, ap, ◌∙◌, arith}
use Rattle.std.proofs.lemmas.Fmt.{decimal_injective}
use Rattle.num_range.specs.Space.{width_of}
use Rattle.num_range.specs.Number.{PlainNumber}
use Rattle.num_range.specs.Range.{PlainRange}
use Rattle.num_range.specs.declared.space.Space.{Space}
use Rattle.num_range.specs.declared.space.Space.TheVariants.{Asn, Ipv4, Ipv6}
use Rattle.num_range.specs.Block.{block_holding}
use Rattle.addr_text.specs.Address.{SpellsAddress}
use Rattle.addr_text.specs.Number.{SpellsAsn}
use Rattle.addr_text.specs.Reading.{range_of_one}
use Rattle.rdap_query.specs.declared.ask.RdapAsk.{RdapAsk}
use Rattle.rdap_query.specs.declared.ask.RdapAsk.TheVariants.{Ip, Autnum, Help}
use Rattle.rdap_query.specs.Path.{SpellsOne, SpellsMasked, SpellsNetwork, SpellsAutnum, SpellsPath}

width_small : (space : Space) → width_of space ≤ 128
width_small Asn = omega arith
width_small Ipv4 = omega arith
width_small Ipv6 = omega arith

-- two numbers of one text, of which the second is no address's length
same_length : (len k : ℕ) (space : Space) (length : List ℕ) → len < 2 ^ 64 → length ≡ decimal len → length ≡ decimal k → k ≤ width_of space → len ≡ k
same_length len k space length fits is same short =
    decimal_injective len k fits (let w = width_small space in omega arith) (sym is ∙ same)

-- a text spells one address
abbrev pub Once : Type 0
Once = (text : List ℕ) (m n : PlainNumber) → SpellsAddress text m → SpellsAddress text n → m ≡ n

-- a length above the width of its address spells no block
pub too_long : (address length : List ℕ) (n : PlainNumber) (len : ℕ) → Once → SpellsAddress address n → length ≡ decimal len → len < 2 ^ 64 → width_of n.space < len
    → (r : PlainRange) → ¬ (SpellsMasked address length r)
too_long address length n len once spells is fits long r (m, k, other, same, short, block) =
    let equal : n ≡ m = once address n m spells other in
    let wide : width_of n.space ≡ width_of m.space = ap (λ (x : PlainNumber). width_of x.space) equal in
    let e = same_length len k m.space length fits is same short in
    omega arith

-- ---- two readings are one

one_once : Once → (address : List ℕ) (r s : PlainRange) → SpellsOne address r → SpellsOne address s → r ≡ s
one_once once address r s (m, h, e) (n, k, f) = e ∙ ap range_of_one (once address m n h k) ∙ sym f

masked_once : Once → (address length : List ℕ) (r s : PlainRange) → SpellsMasked address length r → SpellsMasked address length s → r ≡ s
masked_once once address length r s (m, k, h, is, short, e) (n, l, i, same, low, f) =
    let equal : m ≡ n = once address m n h i in
    let len : k ≡ l = same_length k l n.space length (let w = width_small m.space in omega arith) is same low in
    e ∙ ap (λ (x : PlainNumber). block_holding x k) equal ∙ ap (block_holding n) len ∙ sym f

network_once : Once → (second third : Option (List ℕ)) (r s : PlainRange) → SpellsNetwork second third r → SpellsNetwork second third s → r ≡ s
network_once once None third r s h k = absurd h
network_once once (Some address) None r s h k = one_once once address r s h k
network_once once (Some address) (Some length) r s h k = masked_once once address length r s h k

autnum_once : ((text : List ℕ) (m n : PlainNumber) → SpellsAsn text m → SpellsAsn text n → m ≡ n) → (second third : Option (List ℕ)) (m n : PlainNumber)
    → SpellsAutnum second third m → SpellsAutnum second third n → m ≡ n
autnum_once once None third m n h k = absurd h
autnum_once once (Some number) None m n h k = once number m n h k
autnum_once once (Some number) (Some length) m n h k = absurd h

other_word : (first a b : List ℕ) → (a ≡ b → ⊥) → first ≡ a → first ≡ b → ⊥
other_word first a b differ h k = differ (sym h ∙ k)

ip_autnum : codes "ip" ≡ codes "autnum" → ⊥
ip_autnum e = cc

ip_help : codes "ip" ≡ codes "help" → ⊥
ip_help e = cc

autnum_help : codes "autnum" ≡ codes "help" → ⊥
autnum_help e = cc

pub path_once : Once → ((text : List ℕ) (m n : PlainNumber) → SpellsAsn text m → SpellsAsn text n → m ≡ n)
    → (first : List ℕ) (second third : Option (List ℕ)) (a b : RdapAsk) → SpellsPath first second third a → SpellsPath first second third b → a ≡ b
path_once once asn first second third (Ip r) (Ip s) h k = ap Ip (network_once once second third r s h.1 k.1)
path_once once asn first second third (Ip r) (Autnum n) h k = absurd (other_word first _ _ ip_autnum h.0 k.0)
path_once once asn first second third (Ip r) Help h k = absurd (other_word first _ _ ip_help h.0 k.0)
path_once once asn first second third (Autnum m) (Ip s) h k = absurd (other_word first _ _ ip_autnum k.0 h.0)
path_once once asn first second third (Autnum m) (Autnum n) h k = ap Autnum (autnum_once asn second third m n h.1 k.1)
path_once once asn first second third (Autnum m) Help h k = absurd (other_word first _ _ autnum_help h.0 k.0)
path_once once asn first second third Help (Ip s) h k = absurd (other_word first _ _ ip_help k.0 h.0)
path_once once asn first second third Help (Autnum n) h k = absurd (other_word first _ _ autnum_help k.0 h.0)
path_once once asn first second third Help Help h k = refl
