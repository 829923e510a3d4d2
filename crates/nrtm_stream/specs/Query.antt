-- What may be asked of the change stream: one line, `-g SOURCE:VERSION:FIRST-LAST` (NRTM version 3).
use Rattle.std.specs.Prelude.{◌≡◌, ℕ, ◌<◌, ◌^◌, ⊤, ◌==◌, Bool, not, ◌&&◌, ◌||◌, nat_lt, List, ◌++◌, length, codes, decimal, Option, None, Some, IsTrue}
use Rattle.std.specs.List.{list_all}
use Rattle.nrtm_stream.specs.declared.ask.Ask.{Ask}

pub record PlainQuery : Type 0 where
  pub source : List ℕ
  pub version : ℕ
  pub ask : Ask

-- neither a blank nor a tab, nor the `:` that parts the words
abbrev pub is_query_byte : ℕ → Bool
is_query_byte b = not (b == 32 || b == 9 || b == 58)

abbrev pub is_query_source : List ℕ → Bool
is_query_source source = nat_lt 0 (length source) && list_all is_query_byte source

-- the last serial, or the word that stands for the register's last
abbrev pub last_text : Option ℕ → List ℕ
last_text None = codes "LAST"
last_text (Some serial) = decimal serial

-- `FIRST-LAST`
abbrev pub serials_text : Ask → List ℕ
serials_text ask = decimal ask.first ++ (codes "-" ++ last_text ask.last)

abbrev pub query_text : PlainQuery → List ℕ
query_text q = codes "-g " ++ (q.source ++ (codes ":" ++ (decimal q.version ++ (codes ":" ++ serials_text q.ask))))

abbrev pub IsSerial : Option ℕ → Type 0
IsSerial None = ⊤
IsSerial (Some serial) = serial < 2 ^ 64

-- the line asks for this; its numbers have 64 bits
pub record SpellsQuery (line : List ℕ) (q : PlainQuery) : Type 0 where
  pub text : line ≡ query_text q
  pub source : IsTrue (is_query_source q.source)
  pub version : q.version < 2 ^ 64
  pub first : q.ask.first < 2 ^ 64
  pub last : IsSerial q.ask.last
