-- What the words of the command line ask for.
use Rattle.std.specs.Prelude.{ℕ, ◌-◌, ◌^◌, ◌<◌, ◌≤◌, ◌==◌, decimal, if◌then◌else◌, List, [], ◌∷◌, Option, None, Some, codes}
use Rattle.std.specs.Str.{bytes_eq}
use Rattle.addr_text.specs.Reading.{◌>>=◌, decimal_up_to}
use Rattle.command_words.specs.declared.command.Command.{Command}
use Rattle.command_words.specs.declared.command.Command.TheVariants.{Batch, Serve, Publish, Mirror, Load}
use Rattle.command_words.specs.declared.command.Publication.TheVariants.{Statistics, Zones}

-- a command that is one word alone: no text stands behind it
abbrev pub alone : Command → List (List ℕ) → Option Command
alone command [] = Some command
alone command texts = None

-- a number other than 0
abbrev pub not_zero : ℕ → Option ℕ
not_zero n = if n == 0 then None else Some n

-- a decimal from 1 to the greatest, without sign or leading zero
abbrev pub positive_up_to : ℕ → List ℕ → Option ℕ
positive_up_to most text = decimal_up_to most text >>= not_zero

-- both doors at two ports, with so many workers each
unfoldable pub serve_by : List ℕ → List ℕ → List ℕ → Option Command
serve_by http line workers = do
  h ← positive_up_to 65535 http
  l ← positive_up_to 65535 line
  w ← positive_up_to 16 workers
  Some (Serve h l w)

-- the doors have three texts
abbrev pub serve_of : List (List ℕ) → Option Command
serve_of (http ∷ line ∷ workers ∷ []) = serve_by http line workers
serve_of texts = None

-- a load of so many requests, by two decimals without sign or leading zero
unfoldable pub load_by : List ℕ → List ℕ → Option Command
load_by seed requests = do
  s ← decimal_up_to (2 ^ 64 - 1) seed
  n ← decimal_up_to 900000 requests
  Some (Load s n)

-- a load has two texts
abbrev pub load_of : List (List ℕ) → Option Command
load_of (seed ∷ requests ∷ []) = load_by seed requests
load_of texts = None

-- the command that the words are: a row of the table, by the first word and the texts behind it
abbrev pub command_of : List (List ℕ) → Option Command
command_of [] = None
command_of (word ∷ texts) =
    if bytes_eq word (codes "batch") then alone Batch texts
    else (if bytes_eq word (codes "serve") then serve_of texts
    else (if bytes_eq word (codes "stats") then alone (Publish Statistics) texts
    else (if bytes_eq word (codes "zones") then alone (Publish Zones) texts
    else (if bytes_eq word (codes "mirror") then alone Mirror texts
    else (if bytes_eq word (codes "load") then load_of texts
    else None)))))

-- ---- the other way round

-- the words of a command
abbrev pub words_of : Command → List (List ℕ)
words_of Batch = codes "batch" ∷ []
words_of (Serve http line workers) = codes "serve" ∷ decimal http ∷ decimal line ∷ decimal workers ∷ []
words_of (Publish Statistics) = codes "stats" ∷ []
words_of (Publish Zones) = codes "zones" ∷ []
words_of Mirror = codes "mirror" ∷ []
words_of (Load seed requests) = codes "load" ∷ decimal seed ∷ decimal requests ∷ []

-- a number from 1 to the greatest
abbrev pub IsPositiveUpTo : ℕ → ℕ → Type 0
IsPositiveUpTo most n = (1 ≤ n) × (n ≤ most)

-- the numbers of a command are such as it may have
abbrev pub IsInBounds : Command → Type 0
IsInBounds (Serve http line workers) = IsPositiveUpTo 65535 http × IsPositiveUpTo 65535 line × IsPositiveUpTo 16 workers
IsInBounds (Load seed requests) = (seed < 2 ^ 64) × (requests ≤ 900000)
IsInBounds command = Unit {0}
