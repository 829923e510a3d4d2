-- Hosts that are read one by one from the strings of an array.
use Rattle.std.proofs.Common.{◌≡◌, ℕ, ◌+◌, ◌<◌, Bool, true, false, List, map, length, take, get_or, Some, None, if◌then◌else◌, nat_le, ◌&&◌, refl, sym, ap, ◌∙◌}
use Rattle.std.specs.List.{list_all}
use Rattle.std.proofs.Math.ListN.{set, length-set}
use Rattle.std.proofs.lemmas.List.{take_more, take_more_set, get_or-map, length-map}
use Rattle.std.proofs.lemmas.List.Folds.{list_all_more, list_all_at}
use Rattle.reg_entry.specs.Host.{is_host}
use Rattle.toml.specs.View.{view}
use Rattle.toml.specs.declared.value.Value.{Value}
use Rattle.policy_table.specs.Section.{string_of}
use Rattle.policy_table.specs.Zone.{are_servers}

abbrev pub texts : List Value → List (List ℕ)
texts vs = map (λ v. string_of (view v)) vs

pub text_in : (vs : List Value) (i : ℕ) (v : Value) → i < length vs → v ≡ get_or vs i v → get_or (texts vs) i (string_of (view v)) ≡ string_of (view v)
text_in vs i v within is = get_or-map (λ x. string_of (view x)) vs i v (string_of (view v)) within ∙ ap (λ x. string_of (view x)) (sym is)

pub count_of : (vs : List Value) → length (texts vs) ≡ length vs
count_of vs = length-map vs (λ v. string_of (view v))

-- what a test that chose a value says
pub chosen : (test : Bool) (x y : List ℕ) → (if test then Some x else None) ≡ Some y → (test ≡ true) × (x ≡ y)
chosen true x y e = (refl, cc)
chosen false x y e = absurd cc

pub not_chosen : (test : Bool) (x : List ℕ) → (if test then Some x else None) ≡ None → test ≡ false
not_chosen true x e = absurd cc
not_chosen false x e = refl

-- one more host is in its place
pub placed : (hosts ts : List (List ℕ)) (i : ℕ) (text host : List ℕ) → text ≡ host → length hosts ≡ 4 → i < length hosts → i < length ts → get_or ts i text ≡ text → is_host text ≡ true
    → take i hosts ≡ take i ts → list_all is_host (take i ts) ≡ true
    → (take (i + 1) (set hosts i host) ≡ take (i + 1) ts) × (list_all is_host (take (i + 1) ts) ≡ true) × (length (set hosts i host) ≡ 4)
placed hosts ts i text host read long within inside is one same all = (
  ap (λ h. take (i + 1) (set hosts i h)) (sym read) ∙ take_more_set hosts i text within ∙ rw (same, take_more ts i text inside, is) refl,
  rw (list_all_more is_host ts i text inside, all, is, one) refl,
  length-set hosts i host ∙ long,
)

-- a string that names no host spoils the array
pub refused : (ts : List (List ℕ)) (i : ℕ) (text : List ℕ) → i < length ts → get_or ts i text ≡ text → is_host text ≡ false → (if are_servers ts then Some ts else None) ≡ None
refused ts i text inside is fails =
    let none : list_all is_host ts ≡ false = list_all_at is_host ts i text inside (rw is fails) in
    rw none (elim (nat_le 1 (length ts) && nat_le (length ts) 4) as (λ b. (if (b && false) then Some ts else None) ≡ None) [ true ↦ refl | false ↦ refl ])
