-- The row of each class in the table of classes.
use Rattle.std.specs.Prelude.{ℕ, ◌<◌, List, length, Option, None, Some}
use Rattle.mirror_core.specs.declared.keys.ClassName.{ClassName}
use Rattle.mirror_core.specs.declared.keys.ClassName.TheVariants.{Organisation, AsBlock, Inetnum, Inet6num, SubAssignment, Domain}
use Rattle.mirror_core.specs.Keys.{Class, organisation, as_block, inetnum, inet6num, sub_assignment, domain}

abbrev pub row_of : ClassName → Class
row_of Organisation = organisation
row_of AsBlock = as_block
row_of Inetnum = inetnum
row_of Inet6num = inet6num
row_of SubAssignment = sub_assignment
row_of Domain = domain

-- there are none of so few
abbrev pub HasNoFew : ℕ → Option (List ℕ) → Type 0
HasNoFew most None = Unit {0}
HasNoFew most (Some labels) = most < length labels
