-- A mirror without a fault, and what one line does to it.
use Rattle.std.proofs.Common.{◌≡◌, ◌≢◌, ℕ, ◌+◌, ◌-◌, ◌≤◌, false, ◌==◌, List, [], ◌∷◌, ◌++◌, length, get_or, take, All, Option, None, Ok, refl, sym, ap, ◌∙◌, arith, append_assoc, append-nil, length-append, length-take, ne_eqb}
use Rattle.std.proofs.lemmas.Bool.{cond-false, cond_both}
use Rattle.std.proofs.lemmas.Bool.Decides.{nat_tests}
use Rattle.std.proofs.lemmas.List.Elements.{All-head, All-tail, All-get_or}
use Rattle.std.specs.Str.Lines.{strip_carriage_return}
use Rattle.reg_entry.specs.declared.object.Key.{Key}
use Rattle.mirror_core.specs.Mirror.{PlainMirror, PlainStream, later, broken}
use Rattle.mirror_core.specs.Line.{after_line, is_too_long, long_fault}
use Rattle.mirror_core.specs.Feed.{at_line, behind_line, with_line_end, with_line_byte, after_byte}
use Rattle.mirror_laws.proofs.Moments.{Leads, nothing_leads, byte_leads}

abbrev pub Objects : Type 0
Objects = List (Key × List (List ℕ × List ℕ))

-- a mirror without a fault
abbrev pub at : List ℕ → Objects → ℕ → Option PlainStream → List ℕ → ℕ → PlainMirror
at source os n stream line place = record {
  source = source;
  objects = os;
  serial = n;
  stream = stream;
  line = line;
  place = place;
  fault = None;
}

-- there is no fault, and the objects go with the serial
pub record IsKept (Q : Objects → ℕ → Type 0) (m : PlainMirror) : Type 0 where
  pub fault : m.fault ≡ None
  pub kept : Q m.objects m.serial

pub is_kept : (Q : Objects → ℕ → Type 0) (source : List ℕ) (os : Objects) (n : ℕ) (stream : Option PlainStream) (line : List ℕ) (place : ℕ) → Q os n
    → IsKept Q (at source os n stream line place)
is_kept Q source os n stream line place h = record { fault = refl; kept = h }

abbrev pub IsPlain : ℕ → Type 0
IsPlain b = 32 ≤ b

pub no_return : (line : List ℕ) → All IsPlain line → strip_carriage_return line ≡ line
no_return [] h = refl
no_return (b ∷ line) h =
    let last = All-get_or IsPlain (b ∷ line) (length (b ∷ line) - 1) 0 (omega arith) h in
    cond-false (get_or (b ∷ line) (length (b ∷ line) - 1) 0 == 13) (take (length (b ∷ line) - 1) (b ∷ line)) (b ∷ line) (ne_eqb _ 13 (λ e. omega arith))

stripped_length : (line : List ℕ) → length (strip_carriage_return line) ≤ length line
stripped_length line =
    cond_both (get_or line (length line - 1) 0 == 13) (take (length line - 1) line) line (λ (t : List ℕ). length t ≤ length line)
    (λ _. omega (arith, length-take (length line - 1) line)) (λ _. omega arith)

short_enough : (line : List ℕ) → length line ≤ 1024 → is_too_long line ≡ false
short_enough line h = let less = stripped_length line in grind (arith, nat_tests)

module _ (Q : Objects → ℕ → Type 0) (source : List ℕ) (os ks : Objects) (n k : ℕ) (stream next : Option PlainStream) (place : ℕ) (line : List ℕ) where
  rest_leads : (front rest : List ℕ) → front ++ rest ≡ line → length line ≤ 1024 → All IsPlain line → All IsPlain rest → Q os n → Q ks k
      → after_line (at source os n stream [] place) line ≡ Ok (at source ks k next [] place)
      → Leads (IsKept Q) (at source os n stream front place) (rest ++ 10 ∷ []) (at source ks k next [] (later place (length line + 1)))
  rest_leads front [] whole short plain left here then_ after =
      let standing : PlainMirror = at source os n stream [] place in
      let same : front ≡ line = sym (append-nil front) ∙ whole in
      let next_is : after_byte (at source os n stream front place) 10 ≡ at source ks k next [] (later place (length line + 1)) =
      ap (λ (f : List ℕ). behind_line standing (length f + 1) (after_line standing (strip_carriage_return f))) same
      ∙ ap (λ (t : List ℕ). behind_line standing (length line + 1) (after_line standing t)) (no_return line plain)
      ∙ ap (behind_line standing (length line + 1)) after in
      byte_leads (IsKept Q) _ _ _ 10 [] (is_kept Q source os n stream front place here) next_is
      (nothing_leads (IsKept Q) _ (is_kept Q source ks k next [] (later place (length line + 1)) then_))
  rest_leads front (b ∷ rest) whole short plain left here then_ after =
      let m : PlainMirror = at source os n stream front place in
      let longer : List ℕ = front ++ b ∷ [] in
      let whole_is : longer ++ rest ≡ line = append_assoc front (b ∷ []) rest ∙ whole in
      let fits : length longer ≤ 1024 = omega (arith, length-append longer rest, ap length whole_is) in
      let byte : b ≢ 10 = λ e. omega (arith, All-head IsPlain b rest left) in
      let next_is : after_byte m b ≡ at source os n stream longer place =
      cond-false (b == 10) (with_line_end m) (with_line_byte m b) (ne_eqb b 10 byte)
      ∙ cond-false (is_too_long longer) (broken m (length longer) (long_fault m longer)) (at_line m longer place) (short_enough longer fits) in
      byte_leads (IsKept Q) m _ _ b (rest ++ 10 ∷ []) (is_kept Q source os n stream front place here) next_is
      (rest_leads longer rest whole_is short plain (All-tail IsPlain b rest left) here then_ after)

  -- a line and its end
  pub line_leads : length line ≤ 1024 → All IsPlain line → Q os n → Q ks k
      → after_line (at source os n stream [] place) line ≡ Ok (at source ks k next [] place)
      → Leads (IsKept Q) (at source os n stream [] place) (line ++ 10 ∷ []) (at source ks k next [] (later place (length line + 1)))
  line_leads short plain here then_ after = rest_leads [] line refl short plain plain here then_ after
