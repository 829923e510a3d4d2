-- A map from keys to attributes: a list that rises by key.
use Rattle.std.specs.Prelude.{ℕ, not, if◌then◌else◌, List, [], ◌∷◌, ◌++◌, filter, codes}
use Rattle.std.specs.Borrow.{Bor}
use Rattle.std.specs.List.{flat_map}
use Rattle.reg_entry.specs.declared.object.Key.{Key}
use Rattle.reg_entry.specs.declared.object.Act.{Act}
use Rattle.reg_entry.specs.declared.object.Act.TheVariants.{Add, Del}
use Rattle.reg_entry.specs.declared.object.Object.{Object}
use Rattle.reg_entry.specs.Objects.{same_key, key_before, key_of}
use Rattle.rpsl_text.specs.Object.{attributes_text}
use Rattle.rpsl_text.specs.Plain.{plain_attributes}

-- the map with these attributes of the key, in its place
abbrev pub with_attributes : List (Key × List (List ℕ × List ℕ)) → Key → List (List ℕ × List ℕ) → List (Key × List (List ℕ × List ℕ))
with_attributes [] k attributes = (k, attributes) ∷ []
with_attributes (o ∷ os) k attributes =
    if same_key o.0 k then (k, attributes) ∷ os
    else (if key_before k o.0 then (k, attributes) ∷ o ∷ os else o ∷ with_attributes os k attributes)

-- the map without the key
abbrev pub without_object : List (Key × List (List ℕ × List ℕ)) → Key → List (Key × List (List ℕ × List ℕ))
without_object os k = filter (λ o. not (same_key o.0 k)) os

-- the map after an operation with an object of this key and these attributes
abbrev pub operated : List (Key × List (List ℕ × List ℕ)) → Act → Key → List (List ℕ × List ℕ) → List (Key × List (List ℕ × List ℕ))
operated os Add k attributes = with_attributes os k attributes
operated os Del k attributes = without_object os k

-- an object of the register as a mirror holds it
abbrev pub mirrored : List ℕ → Object → Key × List (List ℕ × List ℕ)
mirrored source o = (key_of o, plain_attributes o source)

-- the objects as text, each with an empty line behind it
abbrev pub objects_text : List (Key × List (List ℕ × List ℕ)) → List ℕ
objects_text os = flat_map (λ o. attributes_text o.1 ++ codes "\n") os

-- what a walk lends of an object: its key and its attributes
abbrev pub lent_object : Bor Key × Bor (List (List ℕ × List ℕ)) → Key × List (List ℕ × List ℕ)
lent_object lent = (lent.0.now, lent.1.now)
