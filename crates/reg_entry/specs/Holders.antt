-- Holders, in the order of their numbers, each with the day on which its fields were last given.
use Rattle.std.specs.Prelude.{◌≡◌, ℕ, Bool, if◌then◌else◌, List, [], ◌∷◌, ◌++◌, Option, None, find, position, map, bytes_eq, slice_get}
use Rattle.std.specs.Option.{option_map, option_map_or}
use Rattle.reg_entry.specs.declared.holder.Holder.{Holder}

abbrev pub has_handle : List ℕ → Holder × ℕ → Bool
has_handle handle m = bytes_eq m.0.handle handle

-- the number of the holder with this handle
abbrev pub holder_number : List (Holder × ℕ) → List ℕ → Option ℕ
holder_number hs handle = position (has_handle handle) hs

-- the holder with this handle
abbrev pub holder_named : List (Holder × ℕ) → List ℕ → Option Holder
holder_named hs handle = option_map (λ m. m.0) (find (has_handle handle) hs)

-- the handle of the holder with this number, or no bytes where there is none
abbrev pub handle_at : List (Holder × ℕ) → ℕ → List ℕ
handle_at hs number = option_map_or (λ m. m.0.handle) (slice_get hs number) []

-- the handle of a card's holder, or none where it has no holder
abbrev pub handle_of : List (Holder × ℕ) → Option ℕ → Option (List ℕ)
handle_of hs holder = option_map (handle_at hs) holder

-- the holders with one more, under the next number
abbrev pub added_holder : List (Holder × ℕ) → Holder → ℕ → List (Holder × ℕ)
added_holder hs holder day = hs ++ (holder, day) ∷ []

-- the holders with other fields of the one with this handle
abbrev pub edited_holder : List (Holder × ℕ) → Holder → ℕ → List (Holder × ℕ)
edited_holder hs holder day = map (λ m. if has_handle holder.handle m then (holder, day) else m) hs

-- no two holders have one handle
abbrev pub HaveDistinctHandles : List (Holder × ℕ) → Type 0
HaveDistinctHandles [] = Unit {0}
HaveDistinctHandles (m ∷ hs) = (holder_named hs m.0.handle ≡ None) × HaveDistinctHandles hs
