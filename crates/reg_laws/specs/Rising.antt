-- Lists of objects in the order of their keys.
use Rattle.std.specs.Prelude.{◌≡◌, true, List, [], ◌∷◌}
use Rattle.reg_entry.specs.declared.object.Object.{Object}
use Rattle.reg_entry.specs.declared.object.Key.{Key}
use Rattle.reg_entry.specs.Objects.{key_of, key_before}

-- the key is before those of all objects
abbrev pub IsBeforeAll : Key → List Object → Type 0
IsBeforeAll k [] = Unit {0}
IsBeforeAll k (o ∷ os) = (key_before k (key_of o) ≡ true) × IsBeforeAll k os

abbrev pub RisesByKey : List Object → Type 0
RisesByKey [] = Unit {0}
RisesByKey (o ∷ os) = IsBeforeAll (key_of o) os × RisesByKey os
