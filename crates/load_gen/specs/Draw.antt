-- A draw of a load: its place in the sequence, from 1, and the number that stands there. All that is drawn is read from the
-- bits of the number above its lowest 33, in which a generator modulo a power of two is poor.
use Rattle.std.specs.Prelude.{ℕ, ◌+◌, ◌*◌, ◌/◌, ◌%◌, ◌^◌}
use Rattle.num_range.specs.declared.space.Space.TheVariants.{Ipv4}
use Rattle.num_range.specs.Number.{PlainNumber}
use Rattle.load_gen.specs.Sequence.{number_at}

pub record PlainDraw : Type 0 where
  pub place : ℕ
  pub number : ℕ

-- the draw of a place
abbrev pub draw_at : ℕ → ℕ → PlainDraw
draw_at seed k = record { place = k; number = number_at seed k }

abbrev pub high_bits : PlainDraw → ℕ
high_bits d = d.number / 2 ^ 33

-- the lowest three of these bits say which of the eight holders asks
abbrev pub asking : PlainDraw → ℕ
asking d = high_bits d % 8

-- the next three say what for
abbrev pub kind : PlainDraw → ℕ
kind d = high_bits d / 8 % 8

-- and the rest how much, of which address, and to whom
abbrev pub rest : PlainDraw → ℕ
rest d = high_bits d / 64

-- 2024-01-01
abbrev pub first_day : ℕ
first_day = 19723

-- sixteen draws share a day, and the first day has the first fifteen
abbrev pub draw_day : PlainDraw → ℕ
draw_day d = first_day + d.place / 16

-- the address, one of the first 2^18 from 10.0.0.0 on, whose piece is returned, released or transferred
abbrev pub drawn_address : PlainDraw → PlainNumber
drawn_address d = record { space = Ipv4; value = 10 * 2 ^ 24 + rest d % 2 ^ 18 }
