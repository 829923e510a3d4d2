-- The strings of an array and of a table, in the values of the code.
use Rattle.std.proofs.Common.{◌≡◌, ℕ, Bool, true, false, suc, ◌&&◌, ◌||◌, List, [], ◌∷◌, ◌++◌, map, length, String, Global, string_bytes, nat_cmp, Less, Result, Err, ◌≢◌, refl, ap, ◌∙◌}
use Rattle.std.specs.List.{AllByRecursion, list_all, list_any}
use Rattle.std.proofs.lemmas.List.Folds.{list_all-map}
use Rattle.std.specs.Map.{keys_of, values_of}
use Rattle.std.specs.List.Sorted.{IsStrictlySortedBy}
use Rattle.std.specs.Cmp.Lexicographic.{slice_cmp}
use Rattle.std.specs.String.{string_cmp}
use Rattle.toml.specs.View.{view, items_view, members_view}
use Rattle.toml.specs.declared.value.Value.{Value}
use Rattle.policy_table.specs.declared.fault.PolicyFault.{PolicyFault}
use Rattle.policy_table.specs.declared.fault.PolicyFault.TheVariants.{NoMemory}
use Rattle.policy_table.specs.Section.{values_in, is_string, string_of, Gives}
use Rattle.policy_table.specs.Hostmasters.{members_in, texts_in, is_name_and_key, tokens_differ, is_count, are_hostmasters, AreRising}

pub strings_of_items : (vs : List Value) → list_all is_string (values_in (items_view vs)) ≡ list_all (λ v. is_string (view v)) vs
strings_of_items [] = refl
strings_of_items (v ∷ vs) = ap (λ b. is_string (view v) && b) (strings_of_items vs)

pub texts_of_items : (vs : List Value) → map string_of (values_in (items_view vs)) ≡ map (λ v. string_of (view v)) vs
texts_of_items [] = refl
texts_of_items (v ∷ vs) = ap (λ ts. string_of (view v) ∷ ts) (texts_of_items vs)

pub strings_of_members : (es : List (String Global × Value)) → list_all (λ m. is_string m.1) (members_in (members_view es)) ≡ list_all (λ v. is_string (view v)) (values_of es)
strings_of_members [] = refl
strings_of_members (e ∷ es) = ap (λ b. is_string (view e.1) && b) (strings_of_members es)

pub count_of_texts : (es : List (String Global × Value)) → length (texts_in (members_view es)) ≡ length es
count_of_texts [] = refl
count_of_texts (e ∷ es) = ap suc (count_of_texts es)

names_above : (name : List ℕ) (es : List (String Global × Value)) → AllByRecursion (λ k. slice_cmp nat_cmp name (string_bytes k) ≡ Less) (keys_of es)
    → AllByRecursion (λ n. slice_cmp nat_cmp name n ≡ Less) (map (λ h. h.0) (texts_in (members_view es)))
names_above name [] h = tt
names_above name (e ∷ es) h = (h.0, names_above name es h.1)

-- the keys of a map rise, and so do the names of its table
pub rising_texts : (es : List (String Global × Value)) → IsStrictlySortedBy string_cmp (keys_of es) → AreRising (texts_in (members_view es))
unfolding IsStrictlySortedBy
rising_texts [] h = tt
rising_texts (e ∷ es) h = (names_above (string_bytes e.0) es h.0, rising_texts es h.1)

pub all_of_texts : (p : List ℕ → Bool) (vs : List Value) → list_all p (map (λ v. string_of (view v)) vs) ≡ list_all (λ v. p (string_of (view v))) vs
all_of_texts p vs = list_all-map p (λ v. string_of (view v)) vs

pub any_of_texts : (p : List ℕ → Bool) (vs : List Value) → list_any p (map (λ v. string_of (view v)) vs) ≡ list_any (λ v. p (string_of (view v))) vs
any_of_texts p [] = refl
any_of_texts p (v ∷ vs) = ap (λ b. p (string_of (view v)) || b) (any_of_texts p vs)

pub all_three : (hs ts : List (List ℕ × List ℕ)) → hs ≡ ts → is_count (length ts) ≡ true → list_all is_name_and_key hs ≡ true → tokens_differ hs ≡ true → are_hostmasters hs ≡ true
all_three hs ts same count forms differ = rw (ap (λ l. is_count (length l)) same ∙ count, forms, differ) refl

-- a list with one element that fails
pub one_fails : {A : Type 0} (p : A → Bool) (xs : List A) (x : A) (ys : List A) → p x ≡ false → list_all p (xs ++ x ∷ ys) ≡ false
one_fails p [] x ys h = rw h
one_fails p (y ∷ xs) x ys h = elim (p y) as (λ b. (b && list_all p (xs ++ x ∷ ys)) ≡ false) [ true ↦ one_fails p xs x ys h | false ↦ refl ]

-- an error that goes on
pub gives_error : {X A : Type 0} (view : X → A) (result : Result X PolicyFault) (answer : Result A PolicyFault) (e : PolicyFault) → result ≡ Err e → (e ≢ NoMemory → answer ≡ Err e) → Gives view result answer
gives_error view result answer e is same = rw is same
