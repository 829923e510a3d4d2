-- What is read of a line is what it spells.
use Rattle.std.proofs.Common.{◌≡◌, ◌≢◌, ℕ, ◌^◌, ◌<◌, ◌==◌, Bool, true, false, not, if◌then◌else◌, nat_lt, length, List, ◌∷◌, ◌++◌, take, drop, All, Option, Some, None, Ok, Err, IsTrue, decimal, codes, inl, inr, refl, sym, ap, ap₂, ◌∙◌, subst, arith, take-append-drop, true≢false}
use Rattle.std.proofs.lemmas.Bool.{cases_Bool, cond-true, cond-false, and_parts, eq-eqb, eqb-true}
use Rattle.std.proofs.lemmas.List.Elements.{All-head, All-same, All-weaker}
use Rattle.std.proofs.lemmas.List.Sums.{AllPass-from_list_all}
use Rattle.std.specs.List.{list_all}
use Rattle.std.specs.Str.{bytes_eq}
use Rattle.std.proofs.lemmas.Option.{cond_some, option_and_then_some, none-some, same_Some}
use Rattle.std.proofs.lemmas.Slice.Eq.{bytes_eq-Decides}
use Rattle.std.specs.Option.{option_map}
use Rattle.addr_text.specs.Reading.{parted_at}
use Rattle.nrtm_stream.specs.declared.ask.Ask.{Ask}
use Rattle.nrtm_stream.specs.declared.ask.AskFault.TheVariants.{Version, Source}
use Rattle.nrtm_stream.specs.Query.{PlainQuery, is_query_byte, is_query_source, last_text, serials_text, IsSerial, SpellsQuery}
use Rattle.nrtm_stream.specs.Ask.{behind_flag, source_of, number_of, last_of, serials_of, query_of, ask_to, ask_of, IsAskedOf}
use Rattle.nrtm_stream.proofs.Numbers.{number_value, number_spelled, decimal_free}
use Rattle.nrtm_stream.proofs.Parted.{parted_here, parted_text}

-- ---- the flag

flag_text : (line words : List ℕ) → behind_flag line ≡ Some words → line ≡ codes "-g " ++ words
flag_text line words e =
    let (test, same) = cond_some _ (drop 3 line) words e in
    sym (take-append-drop 3 line) ∙ ap (λ t. t ++ drop 3 line) ((bytes_eq-Decides (take 3 line) (codes "-g ")).0 test) ∙ ap (λ t. codes "-g " ++ t) same

flag_read : (words : List ℕ) → behind_flag (codes "-g " ++ words) ≡ Some words
flag_read words = refl

-- ---- the last serial

last_number : (o : Option ℕ) (last : Option ℕ) → option_map Some o ≡ Some last → (n : ℕ) × (o ≡ Some n) × (Some n ≡ last)
last_number None last e = absurd (none-some last e)
last_number (Some n) last e = (n, refl, same_Some (Some n) last e)

record IsLast (text : List ℕ) (last : Option ℕ) : Type 0 where
  text_is : text ≡ last_text last
  fits : IsSerial last

last_spelled : (text : List ℕ) (last : Option ℕ) → last_of text ≡ Some last → IsLast text last
last_spelled text last e =
    elim (cases_Bool (bytes_eq text (codes "LAST"))) [
      | inl word ↦
          let none : Some None ≡ Some last = sym (cond-true (bytes_eq text (codes "LAST")) (Some None) (option_map Some (number_of text)) word) ∙ e in
          subst (IsLast text) (same_Some None last none) (record { text_is = (bytes_eq-Decides text (codes "LAST")).0 word; fits = tt })
      | inr other ↦
          let some : option_map Some (number_of text) ≡ Some last = sym (cond-false (bytes_eq text (codes "LAST")) (Some None) (option_map Some (number_of text)) other) ∙ e in
          let (n, is, same) = last_number (number_of text) last some in
          let spelled = number_spelled n text is in
          subst (IsLast text) same (record { text_is = spelled.0; fits = spelled.1 })
    ]

-- a number isn't the word
other_than_word : (n : ℕ) → n < 2 ^ 64 → bytes_eq (decimal n) (codes "LAST") ≡ false
other_than_word n fits =
    elim (cases_Bool (bytes_eq (decimal n) (codes "LAST"))) [
      | inl same ↦
          let P : ℕ → Type 0 = λ b. b ≢ 76 in
          let word = All-same P (codes "LAST") (decimal n) (sym ((bytes_eq-Decides (decimal n) (codes "LAST")).0 same)) (decimal_free 76 n (omega arith) fits) in
          absurd (All-head P 76 (codes "AST") word refl)
      | inr other ↦ other
    ]

last_read : (last : Option ℕ) → IsSerial last → last_of (last_text last) ≡ Some last
last_read None fits = refl
last_read (Some n) fits =
    cond-false (bytes_eq (decimal n) (codes "LAST")) (Some None) (option_map Some (number_of (decimal n))) (other_than_word n fits)
    ∙ ap (option_map Some) (number_value n (decimal n) refl fits)

-- ---- the serials

record AreSerials (text : List ℕ) (ask : Ask) : Type 0 where
  text_is : text ≡ serials_text ask
  first : ask.first < 2 ^ 64
  last : IsSerial ask.last

serials_spelled : (text : List ℕ) (ask : Ask) → serials_of text ≡ Some ask → AreSerials text ask
unfolding serials_of
serials_spelled text ask e =
    option_and_then_some _ (parted_at 45 text) ask e λ parts parted rest.
    option_and_then_some _ (number_of parts.0) ask rest λ first first_is rest.
    option_and_then_some _ (last_of parts.1) ask rest λ last last_is rest.
    let a = number_spelled first parts.0 first_is in
    let b = last_spelled parts.1 last last_is in
    subst (AreSerials text) (same_Some _ ask rest) (record {
      text_is = parted_text 45 text parts parted ∙ ap₂ (λ x y. x ++ 45 ∷ y) a.0 b.text_is;
      first = a.1;
      last = b.fits;
    })

serials_by : (text : List ℕ) (parts : List ℕ × List ℕ) (first : ℕ) (last : Option ℕ) → parted_at 45 text ≡ Some parts
    → number_of parts.0 ≡ Some first → last_of parts.1 ≡ Some last → serials_of text ≡ Some (record { first = first; last = last })
unfolding serials_of
serials_by text parts first last parted a b = rw (parted, a, b) refl

serials_read : (ask : Ask) → ask.first < 2 ^ 64 → IsSerial ask.last → serials_of (serials_text ask) ≡ Some ask
serials_read ask first last =
    serials_by (serials_text ask) (decimal ask.first, last_text ask.last) ask.first ask.last
    (parted_here 45 (decimal ask.first) (last_text ask.last) (decimal_free 45 ask.first (omega arith) first))
    (number_value ask.first (decimal ask.first) refl first) (last_read ask.last last)

-- ---- the whole line

source_spelled : (text source : List ℕ) → source_of text ≡ Some source → (text ≡ source) × IsTrue (is_query_source source)
source_spelled text source e =
    let (test, same) = cond_some (is_query_source text) text source e in
    (same, subst (λ t. IsTrue (is_query_source t)) same test)

pub query_spelled : (line : List ℕ) (q : PlainQuery) → query_of line ≡ Some q → SpellsQuery line q
unfolding query_of
query_spelled line q e =
    option_and_then_some _ (behind_flag line) q e λ words flag rest.
    option_and_then_some _ (parted_at 58 words) q rest λ parts parted rest.
    option_and_then_some _ (source_of parts.0) q rest λ source source_is rest.
    option_and_then_some _ (parted_at 58 parts.1) q rest λ more more_parted rest.
    option_and_then_some _ (number_of more.0) q rest λ version version_is rest.
    option_and_then_some _ (serials_of more.1) q rest λ ask ask_is rest.
    let s = source_spelled parts.0 source source_is in
    let v = number_spelled version more.0 version_is in
    let a = serials_spelled more.1 ask ask_is in
    let behind : parts.1 ≡ decimal version ++ (codes ":" ++ serials_text ask) =
    parted_text 58 parts.1 more more_parted ∙ ap₂ (λ x y. x ++ 58 ∷ y) v.0 a.text_is in
    subst (SpellsQuery line) (same_Some _ q rest) (record {
      text = flag_text line words flag ∙ ap (λ t. codes "-g " ++ t) (parted_text 58 words parts parted ∙ ap₂ (λ x y. x ++ 58 ∷ y) s.0 behind);
      source = s.1;
      version = v.1;
      first = a.first;
      last = a.last;
    })

source_free : (source : List ℕ) → IsTrue (is_query_source source) → All (λ b. b ≢ 58) source
source_free source h =
    All-weaker (λ b. is_query_byte b ≡ true) (λ b. b ≢ 58)
    (λ b passes colon. true≢false (sym (subst (λ x. is_query_byte x ≡ true) colon passes))) source
    (AllPass-from_list_all is_query_byte source (and_parts (nat_lt 0 (length source)) (list_all is_query_byte source) h).1)

query_by : (line words source : List ℕ) (parts more : List ℕ × List ℕ) (version : ℕ) (ask : Ask) → behind_flag line ≡ Some words
    → parted_at 58 words ≡ Some parts → source_of parts.0 ≡ Some source → parted_at 58 parts.1 ≡ Some more
    → number_of more.0 ≡ Some version → serials_of more.1 ≡ Some ask
    → query_of line ≡ Some (record { source = source; version = version; ask = ask })
unfolding query_of
query_by line words source parts more version ask a b c d e f = rw (a, b, c, d, e, f) refl

pub query_read : (line : List ℕ) (q : PlainQuery) → SpellsQuery line q → query_of line ≡ Some q
query_read line q h =
    let serials : List ℕ = serials_text q.ask in
    let behind : List ℕ = decimal q.version ++ (codes ":" ++ serials) in
    let words : List ℕ = q.source ++ (codes ":" ++ behind) in
    query_by line words q.source (q.source, behind) (decimal q.version, serials) q.version q.ask
    (ap behind_flag h.text ∙ flag_read words)
    (parted_here 58 q.source behind (source_free q.source h.source))
    (cond-true (is_query_source q.source) (Some q.source) None h.source)
    (parted_here 58 (decimal q.version) serials (decimal_free 58 q.version (omega arith) h.version))
    (number_value q.version (decimal q.version) refl h.version)
    (serials_read q.ask h.first h.last)

-- ---- its faults

tested : (line source : List ℕ) (q : PlainQuery) → SpellsQuery line q → (version known : Bool) → (q.version == 3) ≡ version → bytes_eq q.source source ≡ known
    → IsAskedOf source line (if not version then Err Version else if not known then Err Source else Ok q.ask)
tested line source q h false known e f = (q, h, λ three. true≢false (sym (eq-eqb q.version 3 three) ∙ e))
tested line source q h true false e f =
    (q, h, eqb-true q.version 3 e, λ same. true≢false (sym ((bytes_eq-Decides q.source source).1 same) ∙ f))
tested line source q h true true e f =
    subst (λ s. SpellsQuery line (record { source = s; version = 3; ask = q.ask })) ((bytes_eq-Decides q.source source).0 f)
    (subst (λ v. SpellsQuery line (record { source = q.source; version = v; ask = q.ask })) (eqb-true q.version 3 e) h)

asked : (line source : List ℕ) (o : Option PlainQuery) → query_of line ≡ o → IsAskedOf source line (ask_to source o)
asked line source None e = λ q h. none-some q (sym e ∙ query_read line q h)
asked line source (Some q) e = tested line source q (query_spelled line q e) (q.version == 3) (bytes_eq q.source source) refl refl

pub asks_spelled : (line source : List ℕ) → IsAskedOf source line (ask_of line source)
asks_spelled line source = asked line source (query_of line) refl
