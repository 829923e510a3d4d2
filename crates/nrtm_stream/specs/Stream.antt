-- The change stream as text: operations in the order of their serials, between a start and an end (NRTM version 3).
use Rattle.std.specs.Prelude.{ℕ, List, ◌++◌, map, codes, decimal}
use Rattle.std.specs.Char.{to_ascii_uppercase}
use Rattle.std.specs.List.{flat_map}
use Rattle.reg_entry.specs.declared.object.Act.{Act}
use Rattle.reg_entry.specs.declared.object.Act.TheVariants.{Add, Del}
use Rattle.reg_entry.specs.Op.{PlainOp}
use Rattle.rpsl_text.specs.Object.{object_text}

-- the source of what a registry publishes: its name in capitals
abbrev pub capitals : List ℕ → List ℕ
capitals name = map to_ascii_uppercase name

-- what an act is called in a stream
abbrev pub act_word : Act → List ℕ
act_word Add = codes "ADD"
act_word Del = codes "DEL"

-- one operation: its act and serial, an empty line, its object, an empty line
abbrev pub operation_text : List ℕ → PlainOp → List ℕ
operation_text source op =
    act_word op.act ++ codes " " ++ decimal op.serial ++ codes "\n\n" ++ object_text op.object source ++ codes "\n"

-- a stream of operations from one serial to another
abbrev pub stream_text : List ℕ → ℕ → ℕ → List PlainOp → List ℕ
stream_text source first last ops =
    codes "%START Version: 3 " ++ source ++ codes " " ++ decimal first ++ codes "-" ++ decimal last ++ codes "\n\n"
    ++ flat_map (operation_text source) ops ++ codes "%END " ++ source ++ codes "\n"

-- what is answered where nothing is newer
abbrev pub no_newer_text : List ℕ
no_newer_text = codes "% no newer operations\n"
