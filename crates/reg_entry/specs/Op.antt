-- An operation as contracts see it.
use Rattle.std.specs.Prelude.{ℕ}
use Rattle.reg_entry.specs.declared.object.Act.{Act}
use Rattle.reg_entry.specs.declared.object.Object.{Object}

pub record PlainOp : Type 0 where
  pub serial : ℕ
  pub act : Act
  pub object : Object
