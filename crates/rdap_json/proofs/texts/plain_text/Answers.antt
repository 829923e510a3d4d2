use Rattle.rdap_json.proofs.Utf8.{text_utf8}
use Rattle.rdap_json.proofs.texts.plain_text.Goals as goal

pub as_text-requires : goal.as_text-requires
as_text-requires c = text_utf8 _ _ c.bytes.ensures.form c.bytes.ensures.bytes
