-- The holder of a handle, by its number.
use Rattle.std.proofs.Common.{◌≡◌, ℕ, ◌<◌, nat_lt, List, length, Option, None, Some, IfSome, slice_get, sym, ◌∙◌, ap, subst, inl, inr}
use Rattle.std.specs.Option.{option_map}
use Rattle.std.specs.List.{position_or_len}
use Rattle.std.proofs.lemmas.Bool.{cases_Bool, cond-true, ltb-true, ltb-false}
use Rattle.std.proofs.lemmas.List.Folds.{find_at}
use Rattle.std.proofs.lemmas.Option.{none-some, cond_some, slice_get_past}
use Rattle.reg_entry.specs.declared.holder.Holder.{Holder}
use Rattle.reg_entry.specs.Holders.{has_handle, holder_number, holder_named}
use Rattle.request_core.specs.Named.{holder_of}

abbrev Held : Type 0
Held = Holder × ℕ

abbrev place_of : List Held → List ℕ → ℕ
place_of hs handle = position_or_len (has_handle handle) hs

number_within : (hs : List Held) (handle : List ℕ) (number : ℕ) → holder_number hs handle ≡ Some number → number < length hs
number_within hs handle number e =
    let p = cond_some (nat_lt (place_of hs handle) (length hs)) (place_of hs handle) number e in
    subst (λ n. n < length hs) p.1 (ltb-true (place_of hs handle) (length hs) p.0)

holder_found : (hs : List Held) (handle : List ℕ) (number : ℕ) → holder_number hs handle ≡ Some number
    → holder_named hs handle ≡ holder_of hs (Some number)
holder_found hs handle number e =
    let p = cond_some (nat_lt (place_of hs handle) (length hs)) (place_of hs handle) number e in
    ap (λ (o : Option Held). option_map (λ (m : Held). m.0) o) (find_at (has_handle handle) hs ∙ ap (λ n. slice_get hs n) p.1)

no_holder : (hs : List Held) (handle : List ℕ) → holder_number hs handle ≡ None → holder_named hs handle ≡ None
no_holder hs handle e =
    elim (cases_Bool (nat_lt (place_of hs handle) (length hs))) [
      | inl t ↦ absurd (none-some (place_of hs handle) (sym e ∙ cond-true (nat_lt (place_of hs handle) (length hs)) (Some (place_of hs handle)) None t))
      | inr f ↦ ap (λ (o : Option Held). option_map (λ (m : Held). m.0) o)
          (find_at (has_handle handle) hs ∙ slice_get_past hs (place_of hs handle) (ltb-false (place_of hs handle) (length hs) f))
    ]

-- said of the result of a look-up
pub known_if : (hs : List Held) (handle : List ℕ) (o : Option ℕ) → o ≡ holder_number hs handle → IfSome o (λ number. number < length hs)
known_if hs handle None e = tt
known_if hs handle (Some number) e = number_within hs handle number (sym e)

pub named_by_number : (hs : List Held) (handle : List ℕ) (o : Option ℕ) → o ≡ holder_number hs handle → holder_named hs handle ≡ holder_of hs o
named_by_number hs handle None e = no_holder hs handle (sym e)
named_by_number hs handle (Some number) e = holder_found hs handle number (sym e)
