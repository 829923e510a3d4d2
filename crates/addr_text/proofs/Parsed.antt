-- What a reader's failure shows: that the text spells nothing.
use Rattle.std.proofs.Common.{◌≡◌, ◌≢◌, ℕ, ◌<◌, ◌≤◌, ◌^◌, List, ◌∷◌, ◌++◌, [], All, codes, decimal, drop, Option, None, Some, Result, Ok, Err, IfNone, IsSome, ◌↔◌, inl, inr, refl, sym, ap, ◌∙◌, subst, append_assoc, arith}
use Rattle.std.specs.Result.{result_ok}
use Rattle.std.specs.Net.Grammar.{Parses}
use Rattle.std.proofs.lemmas.Fmt.{decimal_injective}
use Rattle.std.proofs.lemmas.List.Elements.{All-same}
use Rattle.num_range.specs.declared.space.Space.{Space}
use Rattle.num_range.specs.declared.space.Space.TheVariants.{Asn, Ipv4, Ipv6}
use Rattle.num_range.specs.Space.{width_of}
use Rattle.num_range.specs.Number.{PlainNumber}
use Rattle.addr_text.specs.Address.{SpellsIpv4, SpellsIpv6, SpellsAddressOf, SpellsAddress}
use Rattle.num_range.specs.Range.{PlainRange}
use Rattle.num_range.specs.Block.{IsBlockStart}
use Rattle.addr_text.specs.Number.{SpellsAsn, SpellsNumberOf, SpellsNumber}
use Rattle.addr_text.specs.Block.{SpellsBlock}
use Rattle.addr_text.specs.Range.{IsOneNumber, IsWholeBlock, IsFirstToLast, SpellsRange}
use Rattle.addr_text.proofs.Separators.{no_parts}
use Rattle.addr_text.proofs.Once.{address_once, number_once, as_address, block_parts, block_once, pair_parts, below}

pub none_parsed : {A E : Type 0} (Spells : List ℕ → A → Type 0) (text : List ℕ) (r : Result A E) → Parses Spells text r → result_ok r ≡ None → (a : A) → ¬ (Spells text a)
none_parsed Spells text (Ok x) h same a = absurd (cc)
none_parsed Spells text (Err e) h same a = h a

-- an address is IPv4 or IPv6
pub no_address : (text : List ℕ) → ((value : ℕ) → ¬ (SpellsIpv4 text value)) → ((value : ℕ) → ¬ (SpellsIpv6 text value)) → (n : PlainNumber) → ¬ (SpellsAddress text n)
no_address text ipv4 ipv6 n = in_space n.space n.value
  where
    in_space : (space : Space) (value : ℕ) → ¬ (SpellsAddressOf space text value)
    in_space Asn value h = h
    in_space Ipv4 value h = ipv4 value h
    in_space Ipv6 value h = ipv6 value h

-- a block has a `/`
pub no_block : (text : List ℕ) → All (λ byte. byte ≢ 47) text → (n : PlainNumber) (len : ℕ) → ¬ (SpellsBlock text n len)
no_block text whole n len h =
    let parted = h.1 ∙ append_assoc h.0 (47 ∷ []) (decimal len) in
    no_parts 47 h.0 (decimal len) (All-same (λ byte. byte ≢ 47) (h.0 ++ 47 ∷ decimal len) text (sym parted) whole)

module _ (text front back : List ℕ) (parted : text ≡ front ++ 47 ∷ back) (first : All (λ byte. byte ≢ 47) front) where
  -- what stands before it is the address
  pub no_block_address : ((n : PlainNumber) → ¬ (SpellsAddress front n)) → (n : PlainNumber) (len : ℕ) → ¬ (SpellsBlock text n len)
  no_block_address none n len h =
      none n (subst (λ t. SpellsAddress t n) (sym (block_parts text front back n len parted first h).0) h.2)

  -- and what follows it the length
  pub no_block_length : ((len : ℕ) → len < 2 ^ 32 → back ≢ decimal len) → (n : PlainNumber) (len : ℕ) → ¬ (SpellsBlock text n len)
  no_block_length none n len h = none len (below n.space len h.3) (block_parts text front back n len parted first h).1

  -- which is at most the address's width
  pub no_block_width : (a : PlainNumber) (k : ℕ) → SpellsAddress front a → back ≡ decimal k → k < 2 ^ 32 → width_of a.space < k → (n : PlainNumber) (len : ℕ) → ¬ (SpellsBlock text n len)
  no_block_width a k is_address is_length fits wide n len h =
      let parts = block_parts text front back n len parted first h in
      let same = address_once front a n is_address (subst (λ t. SpellsAddress t n) (sym parts.0) h.2) in
      let width = ap (λ (m : PlainNumber). width_of m.space) same in
      let length = decimal_injective k len (omega arith) (omega (arith, below n.space len h.3)) (sym is_length ∙ parts.1) in
      omega (arith, h.3)

-- what follows from a reader's failure
pub none_then : {A : Type 0} {P Q : Type 0} (r : Option A) → IfNone r P → (P → Q) → IfNone r Q
none_then None h f = f h
none_then (Some x) h f = tt

-- what follows where a test failed
pub none_unless : {A : Type 0} {P Q : Type 0} (r : Option A) → (IsSome r ↔ P) → (¬ P → Q) → IfNone r Q
none_unless None h f = f λ p. absurd (let some = h.1 p in cc)
none_unless (Some x) h f = tt

-- after `AS` stands the number
pub no_asn : (text value : List ℕ) → text ≡ codes "AS" ++ value → ((n : PlainNumber) → ¬ (SpellsAsn value n)) → (n : PlainNumber) → ¬ (SpellsNumber text n)
no_asn text value e none n = in_space n.space n.value
  where
    in_space : (space : Space) (v : ℕ) → ¬ (SpellsNumberOf space text v)
    in_space Asn v h = none (record { space = Asn; value = v }) (refl, ap (λ t. drop 2 t) (sym e ∙ h.0), h.1)
    in_space Ipv4 v h = as_address Ipv4 text value v e h
    in_space Ipv6 v h = as_address Ipv6 text value v e h

-- and without `AS` a number is an address
pub no_number : (text : List ℕ) → ((rest : List ℕ) → text ≢ codes "AS" ++ rest) → ((n : PlainNumber) → ¬ (SpellsAddress text n)) → (n : PlainNumber) → ¬ (SpellsNumber text n)
no_number text other none n = in_space n.space n.value
  where
    in_space : (space : Space) (v : ℕ) → ¬ (SpellsNumberOf space text v)
    in_space Asn v h = other (decimal v) h.0
    in_space Ipv4 v h = none (record { space = Ipv4; value = v }) h
    in_space Ipv6 v h = none (record { space = Ipv6; value = v }) h

-- a block that starts at no multiple of its size is no range
pub no_whole_block : (text : List ℕ) (m : PlainNumber) (k : ℕ) → SpellsBlock text m k → ¬ (IsBlockStart m.space m.value k) → (r : PlainRange) → ¬ (IsWholeBlock text r)
no_whole_block text m k spelled none r (n, l, h, start, value) =
    let same = block_once text n m l k h spelled in
    let moved = subst (λ len. IsBlockStart n.space n.value len) same.1 start in
    none (subst (λ (a : PlainNumber). IsBlockStart a.space a.value k) same.0 moved)

-- two numbers have a `-` between them
pub no_pair : (text : List ℕ) → All (λ byte. byte ≢ 45) text → (r : PlainRange) → ¬ (IsFirstToLast text r)
no_pair text whole r h =
    let parted = h.2 ∙ append_assoc h.0 (45 ∷ []) h.1 in
    no_parts 45 h.0 h.1 (All-same (λ byte. byte ≢ 45) (h.0 ++ 45 ∷ h.1) text (sym parted) whole)

module _ (text front back : List ℕ) (parted : text ≡ front ++ 45 ∷ back) (first : All (λ byte. byte ≢ 45) front) where
  first_of_pair : (r : PlainRange) → IsFirstToLast text r → SpellsNumber front (record { space = r.space; value = r.first })
  first_of_pair r h =
      subst (λ t. SpellsNumber t (record { space = r.space; value = r.first })) (sym (pair_parts text front back r parted first h).0) h.3

  last_of_pair : (r : PlainRange) → IsFirstToLast text r → SpellsNumber back (record { space = r.space; value = r.last })
  last_of_pair r h =
      subst (λ t. SpellsNumber t (record { space = r.space; value = r.last })) (sym (pair_parts text front back r parted first h).1) h.4

  pub no_pair_first : ((n : PlainNumber) → ¬ (SpellsNumber front n)) → (r : PlainRange) → ¬ (IsFirstToLast text r)
  no_pair_first none r h = none _ (first_of_pair r h)

  pub no_pair_last : ((n : PlainNumber) → ¬ (SpellsNumber back n)) → (r : PlainRange) → ¬ (IsFirstToLast text r)
  no_pair_last none r h = none _ (last_of_pair r h)

  -- of one space, and in order
  pub no_pair_order : (m n : PlainNumber) → SpellsNumber front m → SpellsNumber back n → ¬ ((m.space ≡ n.space) × (m.value ≤ n.value)) → (r : PlainRange) → ¬ (IsFirstToLast text r)
  no_pair_order m n is_first is_last none r h =
      let low = number_once front m _ is_first (first_of_pair r h) in
      let high = number_once back n _ is_last (last_of_pair r h) in
      let space = ap (λ (a : PlainNumber). a.space) low ∙ sym (ap (λ (a : PlainNumber). a.space) high) in
      let lower = ap (λ (a : PlainNumber). a.value) low in
      let upper = ap (λ (a : PlainNumber). a.value) high in
      none (space, omega (arith, h.5))

pub no_range : (text : List ℕ) → ((r : PlainRange) → ¬ (IsOneNumber text r)) → ((r : PlainRange) → ¬ (IsWholeBlock text r)) → ((r : PlainRange) → ¬ (IsFirstToLast text r)) → (r : PlainRange) → ¬ (SpellsRange text r)
no_range text one block pair r (inl h) = one r h
no_range text one block pair r (inr (inl h)) = block r h
no_range text one block pair r (inr (inr h)) = pair r h
