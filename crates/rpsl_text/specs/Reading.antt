-- The attributes that a text spells, line by line (RFC 2622 2).
use Rattle.std.specs.Prelude.{◌≡◌, ℕ, ◌+◌, ◌-◌, ◌^◌, min, List, [], ◌∷◌, ◌++◌, Option, None, Some, Result, Ok, Err}
use Rattle.std.specs.Option.{option_map}
use Rattle.std.specs.Str.Lines.{lines}
use Rattle.rpsl_text.specs.declared.fault.RpslFault.{RpslFault}
use Rattle.rpsl_text.specs.declared.fault.RpslFault.TheVariants.{Line, NoMemory}
use Rattle.rpsl_text.specs.Lines.{continuation_of, name_and_rest, attribute_of, continued}

-- the last attribute's value goes on with the text
abbrev pub gone_on : List (List ℕ × List ℕ) → List ℕ → Option (List (List ℕ × List ℕ))
gone_on [] text = None
gone_on (a ∷ []) text = Some ((a.0, continued a.1 text) ∷ [])
gone_on (a ∷ b ∷ more) text = option_map (λ rest. a ∷ rest) (gone_on (b ∷ more) text)

-- one attribute more
abbrev pub begun : List (List ℕ × List ℕ) → Option (List ℕ × List ℕ) → Option (List (List ℕ × List ℕ))
begun attributes None = None
begun attributes (Some parts) = Some (attributes ++ attribute_of parts ∷ [])

-- the attributes after one more line, which is a fault where there are none
abbrev pub after_text : List (List ℕ × List ℕ) → List ℕ → Option (List ℕ) → Option (List (List ℕ × List ℕ))
after_text attributes line (Some text) = gone_on attributes text
after_text attributes line None = begun attributes (name_and_rest line)

abbrev pub after_line : List (List ℕ × List ℕ) → List ℕ → Option (List (List ℕ × List ℕ))
after_line attributes line = after_text attributes line (continuation_of line)

-- lines are numbered from 1, and past 2^32 - 1 all have this number
abbrev pub next_number : ℕ → ℕ
next_number n = min (n + 1) (2 ^ 32 - 1)

-- the attributes after more lines, the first of this number; or the number of the first that is a fault
abbrev pub after_lines : List (List ℕ × List ℕ) → ℕ → List (List ℕ) → Result (List (List ℕ × List ℕ)) ℕ
after_lines attributes n [] = Ok attributes
after_lines attributes n (line ∷ more) = elim (after_line attributes line) [
  | None ↦ Err n
  | Some longer ↦ after_lines longer (next_number n) more
]

-- each line ends with LF or CR LF, but for the last, which may have no end
abbrev pub read_text : List ℕ → Result (List (List ℕ × List ℕ)) ℕ
read_text text = after_lines [] 1 (lines text)

-- what is answered to a text: what is read of it, or want of memory
abbrev pub IsReadAs : Result (List (List ℕ × List ℕ)) ℕ → Result (List (List ℕ × List ℕ)) RpslFault → Type 0
IsReadAs read (Ok attributes) = read ≡ Ok attributes
IsReadAs read (Err (Line n)) = read ≡ Err n
IsReadAs read (Err NoMemory) = Unit {0}

-- what is answered to one line of this number: the attributes after it, or the fault, or want of memory
abbrev pub IsTakenAs : ℕ → Option (List (List ℕ × List ℕ)) → List (List ℕ × List ℕ) → Result (Unit {0}) RpslFault → Type 0
IsTakenAs n longer attributes (Ok _) = longer ≡ Some attributes
IsTakenAs n longer attributes (Err (Line m)) = (longer ≡ None) × (m ≡ n)
IsTakenAs n longer attributes (Err NoMemory) = Unit {0}

-- what is answered to one line of this number: the attributes with it, or the fault, or want of memory
abbrev pub IsLongerAs : ℕ → Option (List (List ℕ × List ℕ)) → Result (List (List ℕ × List ℕ)) RpslFault → Type 0
IsLongerAs n longer (Ok attributes) = longer ≡ Some attributes
IsLongerAs n longer (Err (Line m)) = (longer ≡ None) × (m ≡ n)
IsLongerAs n longer (Err NoMemory) = Unit {0}
