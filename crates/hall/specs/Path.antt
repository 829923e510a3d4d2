-- The path of a request's target, in its segments (RFC 3986 3.3).
use Rattle.std.specs.Prelude.{ℕ, Bool, ◌||◌, ◌==◌, if◌then◌else◌, List, [], ◌∷◌, Option, None, Some, map, bytes_eq, codes}
use Rattle.std.specs.Option.{option_map_or}
use Rattle.std.specs.List.{slice_split}
use Rattle.percent_encoding.specs.Percent.{percent_decode}
use Rattle.addr_text.specs.Reading.{parted_at}

-- what stands before the query
abbrev pub path_of : List ℕ → List ℕ
path_of target = option_map_or (λ parts. parts.0) (parted_at 63 target) target

-- the parts between the slashes of what follows the first slash, as they stand
abbrev pub parts_of : List ℕ → List (List ℕ)
parts_of text = slice_split (λ b. b == 47) text

-- the segments, decoded (RFC 3986 2.1); nothing where the path doesn't begin with a slash
abbrev pub segments_of : List ℕ → Option (List (List ℕ))
segments_of [] = None
segments_of (b ∷ text) = if b == 47 then Some (map percent_decode (parts_of text)) else None

-- what is looked up stands under these names
abbrev pub is_lookup_name : List ℕ → Bool
is_lookup_name name =
    bytes_eq name (codes "ip") || bytes_eq name (codes "autnum") || bytes_eq name (codes "help") || bytes_eq name (codes "stats")
    || bytes_eq name (codes "zones")

-- and requests are handed in under this one
abbrev pub is_desk_name : List ℕ → Bool
is_desk_name name = bytes_eq name (codes "desk")

-- the parts behind a slash, where there is one
abbrev pub parts_behind : Option (List ℕ) → List (List ℕ)
parts_behind None = []
parts_behind (Some text) = parts_of text
