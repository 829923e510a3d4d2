-- How many changes lead from the objects of one register to those of the next: an object counts by itself, by how it compares
-- with what the other register has at its key.
use Rattle.std.specs.Prelude.{ℕ, Bool, true, false, not, if◌then◌else◌, List, [], ◌∷◌, Option, None, Some, filter, find, length}
use Rattle.std.specs.Option.{option_map}
use Rattle.std.specs.List.{list_any}
use Rattle.num_range.specs.Range.{PlainRange, same_range}
use Rattle.num_range.specs.Cover.{reverse_cuts}
use Rattle.reg_entry.specs.declared.piece.Piece.{Piece}
use Rattle.reg_entry.specs.declared.object.Object.{Object}
use Rattle.reg_entry.specs.declared.object.Act.{Act}
use Rattle.reg_entry.specs.declared.object.Act.TheVariants.{Add, Del}
use Rattle.reg_entry.specs.Objects.{key_of, same_object, object_at}

-- one that isn't there counts; one that is there counts as come where it is another
abbrev pub counts : Act → Option Bool → Bool
counts Add None = true
counts Del None = true
counts Add (Some same) = not same
counts Del (Some same) = false

-- whether the others have this very object at its key, or none where they have nothing there
abbrev pub compared : List Object → Object → Option Bool
compared others o = option_map (same_object o) (object_at others (key_of o))

abbrev pub is_changed : Act → List Object → Object → Bool
is_changed act others o = counts act (compared others o)

abbrev pub changed_count : Act → List Object → List Object → ℕ
changed_count act others os = length (filter (is_changed act others) os)

-- ---- looked up

abbrev pub piece_as : List Piece → PlainRange → Option Piece
piece_as ps range = find (λ p. same_range p.range range) ps

-- the servers of the first reverse entry that has the block among its cuts
abbrev pub found_cut : List (PlainRange × List (List ℕ)) → PlainRange → Option (List (List ℕ))
found_cut [] b = None
found_cut (s ∷ rs) b = if list_any (λ c. same_range c b) (reverse_cuts s.0) then Some s.1 else found_cut rs b
