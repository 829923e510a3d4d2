-- The holders of a load, numbered from 0 to 7.
use Rattle.std.specs.Prelude.{ℕ, List, ◌++◌, codes, decimal}
use Rattle.reg_entry.specs.declared.holder.Holder.{Holder}
use Rattle.reg_entry.specs.declared.kind.Kind.TheVariants.{Lir}

abbrev pub load_handle : ℕ → List ℕ
load_handle i = codes "ORG-L" ++ decimal i

abbrev pub load_holder : ℕ → Holder
load_holder i = record {
  handle = load_handle i;
  kind = Lir;
  cc = codes "DE";
  name = codes "Load " ++ decimal i;
  email = codes "load@load.example";
}
