-- The document that `toml` reads is the definition's.
use Rattle.std.proofs.Common.{◌≡◌, ℕ, true, false, cond, List, Some, None, Ok, Err, refl}
use Rattle.std.specs.Str.{IsUtf8, is_utf8}
use Rattle.std.proofs.lemmas.Str.{IsUtf8-from_is_utf8, is_utf8-from_IsUtf8}
use Rattle.toml.specs.Data.{Members}
use Rattle.toml.specs.Parse.{parse_document}
use Rattle.policy_table.specs.declared.fault.PolicyFault.TheVariants.{Text}
use Rattle.policy_table.specs.Section.{or_fault}
use Rattle.policy_table.specs.Document.{document_of}

pub read_document : (bytes : List ℕ) (top : Members) → IsUtf8 bytes → parse_document bytes ≡ Some top → document_of bytes ≡ Ok top
unfolding document_of
read_document bytes top utf8 read = rw (is_utf8-from_IsUtf8 bytes utf8, read) refl

pub refused_document : (bytes : List ℕ) → (IsUtf8 bytes → parse_document bytes ≡ None) → document_of bytes ≡ Err Text
unfolding document_of
refused_document bytes none =
    elim (is_utf8 bytes) as (λ b. is_utf8 bytes ≡ b → cond b (or_fault Text (parse_document bytes)) (Err Text) ≡ Err Text) [
      | true ↦ λ e. rw (none (IsUtf8-from_is_utf8 bytes e)) refl
      | false ↦ λ e. refl
    ] refl
