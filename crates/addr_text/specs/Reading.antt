-- What a text spells, as it computes: the value, or nothing where it spells none.
use Rattle.std.specs.Prelude.{ℕ, ◌%◌, ◌&&◌, ◌==◌, nat_le, if◌then◌else◌, List, [], ◌∷◌, take, drop, codes, decimal, Option, None, Some, MatchOption}
use Rattle.std.specs.Option.{option_map, option_and_then, option_or}
use Rattle.std.specs.Int.{w32, w128, from_be_bytes}
use Rattle.std.specs.Str.{bytes_eq}
use Rattle.std.specs.Str.Parse.{digits_value}
use Rattle.std.specs.Net.Addr.{octets_of}
use Rattle.std.specs.Net.Reader.{whole_value, read_ipv4, read_ipv6}
use Rattle.num_range.specs.declared.space.Space.{Space}
use Rattle.num_range.specs.declared.space.Space.TheVariants.{Asn, Ipv4, Ipv6}
use Rattle.num_range.specs.Space.{width_of, top_of, same_space}
use Rattle.num_range.specs.Number.{PlainNumber}
use Rattle.num_range.specs.Range.{PlainRange}
use Rattle.num_range.specs.Block.{block_size, block_of}

-- the value, which the text spells, or none where it spells none
abbrev pub IsSpelled : {T : Type 0} → (T → Type 0) → Option T → Type 0
IsSpelled {T} Spells value = MatchOption value ((x : T) → ¬ (Spells x)) Spells

-- the value goes on, and nothing stays nothing
infixl 10 ◌>>=◌
abbrev pub ◌>>=◌ : {A B : Type 0} → Option A → (A → Option B) → Option B
o >>= f = option_and_then f o

-- what stands before and behind the first such byte
abbrev pub parted_at : ℕ → List ℕ → Option (List ℕ × List ℕ)
parted_at byte [] = None
parted_at byte (b ∷ bs) = if b == byte then Some ([], bs) else option_map (λ parts. (b ∷ parts.0, parts.1)) (parted_at byte bs)

-- a decimal number up to the greatest, without sign or leading zero
abbrev pub decimal_up_to : ℕ → List ℕ → Option ℕ
decimal_up_to most text =
    if bytes_eq (decimal (digits_value 10 text)) text && nat_le (digits_value 10 text) most then Some (digits_value 10 text) else None

-- the value as a number of a space
abbrev pub number_in : Space → ℕ → PlainNumber
number_in space value = record { space = space; value = value }

abbrev pub ipv4_of : List ℕ → Option ℕ
ipv4_of text = option_map (from_be_bytes w32) (whole_value (read_ipv4 text))

abbrev pub ipv6_of : List ℕ → Option ℕ
ipv6_of text = option_map (λ groups. from_be_bytes w128 (octets_of groups)) (whole_value (read_ipv6 text))

abbrev pub address_of : List ℕ → Option PlainNumber
address_of text = option_or (option_map (number_in Ipv4) (ipv4_of text)) (option_map (number_in Ipv6) (ipv6_of text))

abbrev pub asn_of : List ℕ → Option PlainNumber
asn_of text = option_map (number_in Asn) (decimal_up_to (top_of Asn) text)

-- an AS number behind `AS`, or an address
abbrev pub number_of : List ℕ → Option PlainNumber
number_of text = if bytes_eq (take 2 text) (codes "AS") then asn_of (drop 2 text) else address_of text

-- an address and a prefix length
unfoldable pub block_of_text : List ℕ → Option (PlainNumber × ℕ)
block_of_text text = do
  parts ← parted_at 47 text
  n ← address_of parts.0
  len ← decimal_up_to (width_of n.space) parts.1
  Some (n, len)

-- the range of a number alone
abbrev pub range_of_one : PlainNumber → PlainRange
range_of_one n = record { space = n.space; first = n.value; last = n.value }

-- a block without bits set past its length
unfoldable pub whole_block_of : List ℕ → Option PlainRange
whole_block_of text = do
  block ← block_of_text text
  if block.0.value % block_size block.0.space block.1 == 0 then Some (block_of block.0.space block.0.value block.1) else None

-- from the one number to the other
abbrev pub range_between : PlainNumber → PlainNumber → PlainRange
range_between first last = record { space = first.space; first = first.value; last = last.value }

-- two numbers of one space, the first at most the second
unfoldable pub first_to_last_of : List ℕ → Option PlainRange
first_to_last_of text = do
  parts ← parted_at 45 text
  first ← number_of parts.0
  last ← number_of parts.1
  if same_space first.space last.space && nat_le first.value last.value then Some (range_between first last) else None

-- a number, a block, or two numbers with `-` between them
abbrev pub range_of : List ℕ → Option PlainRange
range_of text = option_or (option_map range_of_one (number_of text)) (option_or (whole_block_of text) (first_to_last_of text))
