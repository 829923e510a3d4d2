-- No number's text has a byte that parts a block or a range, so that such a text parts in one way.
use Rattle.std.proofs.Common.{◌≡◌, ◌≢◌, ℕ, ◌<◌, ◌≤◌, ◌^◌, Bool, true, false, ◌==◌, List, [], ◌∷◌, ◌++◌, All, Option, None, Some, decimal, refl, ap, ◌∙◌, subst, inl, inr, arith, ne_eqb, eq-eqb}
use Rattle.std.proofs.lemmas.Bool.{cond-true, cond-false}
use Rattle.std.specs.Option.{option_map}
use Rattle.std.proofs.lemmas.List.Elements.{All-nil, All-cons, All-head, All-tail, All-append, All-weaker, All-same}
use Rattle.std.proofs.lemmas.Fmt.{decimal_is_IsNumeral}
use Rattle.std.specs.Char.{digit_value}
use Rattle.std.specs.Str.Parse.{AllDigits}
use Rattle.std.specs.Net.Grammar.{IsDotted, IsGroupsAfter, IsColonHex}
use Rattle.num_range.specs.declared.space.Space.{Space}
use Rattle.num_range.specs.declared.space.Space.TheVariants.{Asn, Ipv4, Ipv6}
use Rattle.num_range.specs.Number.{PlainNumber}
use Rattle.addr_text.specs.Address.{SpellsAddressOf}
use Rattle.addr_text.specs.Number.{SpellsNumberOf, SpellsNumber}
use Rattle.addr_text.specs.Reading.{parted_at}

-- no `-`, no `/` and no `S`
abbrev pub IsAddressByte : ℕ → Type 0
IsAddressByte byte = (byte ≢ 45) × (byte ≢ 47) × (byte ≢ 83)

-- `All`, in a record so that antt reads the list off a goal
record Each (text : List ℕ) : Type 0 where
  all : All IsAddressByte text

nil : Each []
nil = record { all = All-nil IsAddressByte }

and : {xs ys : List ℕ} → Each xs → Each ys → Each (xs ++ ys)
and {xs} {ys} h k = record { all = All-append IsAddressByte xs ys h.all k.all }

cons : {x : ℕ} {xs : List ℕ} → IsAddressByte x → Each xs → Each (x ∷ xs)
cons {x} {xs} h k = record { all = All-cons IsAddressByte x xs h k.all }

-- a byte whose value is no digit's is another byte
other : (c b : ℕ) → digit_value c < 16 → 16 ≤ digit_value b → c ≢ b
other c b h k e = absurd (omega (arith, subst (λ x. digit_value x < 16) e h))

digits : (radix : ℕ) (text : List ℕ) → radix ≤ 16 → AllDigits radix text → Each text
digits radix [] small h = nil
digits radix (c ∷ text) small h =
    let low : digit_value c < 16 = omega (arith, h.0) in
    cons (other c 45 low (omega arith), other c 47 low (omega arith), other c 83 low (omega arith)) (digits radix text small h.1)

decimal_bytes : (n : ℕ) → n < 2 ^ 64 → Each (decimal n)
decimal_bytes n fits = digits 10 (decimal n) (omega arith) (decimal_is_IsNumeral n fits).0.1

dot : Each (46 ∷ [])
dot = cons (omega arith, omega arith, omega arith) nil

colon : Each (58 ∷ [])
colon = cons (omega arith, omega arith, omega arith) nil

dotted : (text octets : List ℕ) → IsDotted text octets → Each text
dotted text octets h =
    let a = decimal_bytes h.a (omega (arith, h.fit)) in
    let b = decimal_bytes h.b (omega (arith, h.fit)) in
    let c = decimal_bytes h.c (omega (arith, h.fit)) in
    let d = decimal_bytes h.d (omega (arith, h.fit)) in
    rw h.spelled (and (and (and (and (and (and a dot) b) dot) c) dot) d)

groups : (ipv4 : Bool) (lead text segments : List ℕ) → Each lead → IsGroupsAfter ipv4 lead text segments → Each text
groups ipv4 lead text [] first h = rw h nil
groups ipv4 lead text (s ∷ segments) first (inl (group, rest, spelled, is_group, more)) =
    rw spelled (and (and first (digits 16 group (omega arith) is_group.0.0.1)) (groups ipv4 (58 ∷ []) rest segments colon more))
groups ipv4 lead text (s ∷ segments) first (inr (last, octets, allowed, spelled, is_dotted, value)) =
    rw spelled (and first (dotted last octets is_dotted))

colon_hex : (text segments : List ℕ) → IsColonHex text segments → Each text
colon_hex text segments (inl h) = groups true [] text segments nil h.0
colon_hex text segments (inr h) =
    rw h.spelled (and (and (groups false [] h.head_text h.head nil h.head_groups) (and colon colon)) (groups true [] h.tail_text h.tail nil h.tail_groups))

address : (space : Space) (text : List ℕ) (value : ℕ) → SpellsAddressOf space text value → Each text
address Asn text value h = absurd h
address Ipv4 text value h = dotted text h.0 h.1
address Ipv6 text value h = colon_hex text h.0 h.1

-- the bytes of an address
pub address_bytes : (space : Space) (text : List ℕ) (value : ℕ) → SpellsAddressOf space text value → All IsAddressByte text
address_bytes space text value h = (address space text value h).all

pub address_no_dash : (space : Space) (text : List ℕ) (value : ℕ) → SpellsAddressOf space text value → All (λ byte. byte ≢ 45) text
address_no_dash space text value h = All-weaker IsAddressByte _ (λ _ p. p.0) text (address_bytes space text value h)

pub address_no_slash : (space : Space) (text : List ℕ) (value : ℕ) → SpellsAddressOf space text value → All (λ byte. byte ≢ 47) text
address_no_slash space text value h = All-weaker IsAddressByte _ (λ _ p. p.1) text (address_bytes space text value h)

-- a number has no `-`, and no `/`
module _ (P : ℕ → Type 0) (weaker : (byte : ℕ) → IsAddressByte byte → P byte) (capital : P 65) (s : P 83) where
  number : (space : Space) (text : List ℕ) (value : ℕ) → SpellsNumberOf space text value → All P text
  number Asn text value h =
      let numeral = All-weaker IsAddressByte P weaker (decimal value) (decimal_bytes value (omega (arith, h.1))).all in
      All-same P text (65 ∷ 83 ∷ decimal value) h.0 (All-cons P 65 (83 ∷ decimal value) capital (All-cons P 83 (decimal value) s numeral))
  number Ipv4 text value h = All-weaker IsAddressByte P weaker text (address_bytes Ipv4 text value h)
  number Ipv6 text value h = All-weaker IsAddressByte P weaker text (address_bytes Ipv6 text value h)

pub number_no_dash : (text : List ℕ) (n : PlainNumber) → SpellsNumber text n → All (λ byte. byte ≢ 45) text
number_no_dash text n h = number (λ byte. byte ≢ 45) (λ _ p. p.0) (omega arith) (omega arith) n.space text n.value h

pub number_no_slash : (text : List ℕ) (n : PlainNumber) → SpellsNumber text n → All (λ byte. byte ≢ 47) text
number_no_slash text n h = number (λ byte. byte ≢ 47) (λ _ p. p.1) (omega arith) (omega arith) n.space text n.value h

-- a block has no `-`
pub decimal_no_dash : (n : ℕ) → n < 2 ^ 64 → All (λ byte. byte ≢ 45) (decimal n)
decimal_no_dash n fits = All-weaker IsAddressByte _ (λ _ p. p.0) (decimal n) (decimal_bytes n fits).all

-- a text without the separator isn't parted by it
pub no_parts : (c : ℕ) (front back : List ℕ) → All (λ byte. byte ≢ c) (front ++ c ∷ back) → ⊥
no_parts c [] back h = All-head (λ byte. byte ≢ c) c back h refl
no_parts c (x ∷ front) back h = no_parts c front back (All-tail (λ byte. byte ≢ c) x _ h)

-- at its first separator a text parts in one way
pub same_parts : (c : ℕ) (f b g d : List ℕ) → All (λ byte. byte ≢ c) f → All (λ byte. byte ≢ c) g → f ++ c ∷ b ≡ g ++ c ∷ d → (f ≡ g) × (b ≡ d)
same_parts c [] b [] d h k e = (refl, cc)
same_parts c [] b (y ∷ g) d h k e = absurd (All-head (λ byte. byte ≢ c) y g k (cc))
same_parts c (x ∷ f) b [] d h k e = absurd (All-head (λ byte. byte ≢ c) x f h (cc))
same_parts c (x ∷ f) b (y ∷ g) d h k e =
    let P : ℕ → Type 0 = λ byte. byte ≢ c in
    let rest : f ++ c ∷ b ≡ g ++ c ∷ d = cc in
    let first : x ≡ y = cc in
    let later = same_parts c f b g d (All-tail P x f h) (All-tail P y g k) rest in
    (ap (λ t. x ∷ t) later.0 ∙ ap (λ z. z ∷ g) first, later.1)

-- ---- a text parted at a byte

-- the byte and a text behind it, parted at the first such byte
abbrev with_byte : ℕ → Option (List ℕ × List ℕ) → Option (List ℕ × List ℕ)
with_byte b parts = option_map (λ parts. (b ∷ parts.0, parts.1)) parts

-- the byte stands here for the first time
pub parted_here : (byte : ℕ) (front back : List ℕ) → All (λ b. b ≢ byte) front → parted_at byte (front ++ byte ∷ back) ≡ Some (front, back)
parted_here byte [] back h = cond-true (byte == byte) (Some ([], back)) (with_byte byte (parted_at byte back)) (eq-eqb byte byte refl)
parted_here byte (b ∷ front) back h =
    let P : ℕ → Type 0 = λ b. b ≢ byte in
    cond-false (b == byte) (Some ([], front ++ byte ∷ back)) (with_byte b (parted_at byte (front ++ byte ∷ back))) (ne_eqb b byte (All-head P b front h))
    ∙ ap (with_byte b) (parted_here byte front back (All-tail P b front h))

pub parted_nowhere : (byte : ℕ) (text : List ℕ) → All (λ b. b ≢ byte) text → parted_at byte text ≡ None
parted_nowhere byte [] h = refl
parted_nowhere byte (b ∷ text) h =
    let P : ℕ → Type 0 = λ b. b ≢ byte in
    cond-false (b == byte) (Some ([], text)) (with_byte b (parted_at byte text)) (ne_eqb b byte (All-head P b text h))
    ∙ ap (with_byte b) (parted_nowhere byte text (All-tail P b text h))
