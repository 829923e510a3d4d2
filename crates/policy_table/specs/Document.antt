-- The document that the bytes of a file are.
use Rattle.std.specs.Prelude.{ℕ, List, if◌then◌else◌, Result, Err}
use Rattle.std.specs.Str.{is_utf8}
use Rattle.toml.specs.Data.{Members}
use Rattle.toml.specs.Parse.{parse_document}
use Rattle.policy_table.specs.declared.fault.PolicyFault.{PolicyFault}
use Rattle.policy_table.specs.declared.fault.PolicyFault.TheVariants.{Text}
use Rattle.policy_table.specs.Section.{or_fault}

-- TOML is UTF-8
unfoldable pub document_of : List ℕ → Result Members PolicyFault
document_of bytes = if is_utf8 bytes then or_fault Text (parse_document bytes) else Err Text
