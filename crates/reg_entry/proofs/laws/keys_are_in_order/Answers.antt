use Rattle.std.proofs.Common.{refl}
use Rattle.reg_entry.specs.declared.object.Key.TheVariants.{Org, Block, Sub, Cut}
use Rattle.reg_entry.proofs.Orders.{bytes_in_order}
use Rattle.reg_entry.proofs.laws.keys_are_in_order.Goals as goal

pub returns-clause-labels : goal.returns-clause-labels
returns-clause-labels c = bytes_in_order

pub returns-clause-handles : goal.returns-clause-handles
returns-clause-handles c = bytes_in_order

pub returns-clause-names : goal.returns-clause-names
returns-clause-names c = bytes_in_order

pub returns-clause-keys : goal.returns-clause-keys
returns-clause-keys c (Org a) (Org b) = bytes_in_order a b
returns-clause-keys c (Block a) (Block b) = c.ranges_are_in_order.ensures a b
returns-clause-keys c (Sub a) (Sub b) = c.ranges_are_in_order.ensures a b
returns-clause-keys c (Cut a) (Cut b) = c.ranges_are_in_order.ensures a b
returns-clause-keys c (Org a) _ = refl
returns-clause-keys c (Block a) _ = refl
returns-clause-keys c (Sub a) _ = refl
returns-clause-keys c (Cut a) _ = refl
