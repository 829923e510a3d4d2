-- Whether a pool has each address that may be drawn.
use Rattle.std.specs.Prelude.{◌≡◌, true}
use Rattle.std.specs.Option.{is_some}
use Rattle.reg_entry.specs.Partition.{Partition}
use Rattle.reg_entry.specs.Register.{card_of}
use Rattle.load_gen.specs.Draw.{PlainDraw, drawn_address}

abbrev pub HasAllDrawn : Partition → Type 0
HasAllDrawn pool = (d : PlainDraw) → is_some (card_of pool (drawn_address d)) ≡ true
