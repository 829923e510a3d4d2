-- An entry as contracts see it.
use Rattle.std.specs.Prelude.{ℕ, List, Option}
use Rattle.num_range.specs.Range.{PlainRange}
use Rattle.reg_entry.specs.declared.card.Card.{Card}
use Rattle.reg_entry.specs.declared.request.Request.{Request}

pub record PlainEntry : Type 0 where
  pub seq : ℕ
  pub day : ℕ
  pub who : List ℕ
  pub request : Request
  pub cover : Option PlainRange
  pub card : Option Card
