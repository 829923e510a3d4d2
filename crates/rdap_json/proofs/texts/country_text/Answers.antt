use Rattle.rdap_json.proofs.Utf8.{country_utf8}
use Rattle.rdap_json.proofs.texts.country_text.Goals as goal

pub as_text-requires : goal.as_text-requires
as_text-requires c = country_utf8 _ _ c.bytes.ensures.form c.bytes.ensures.bytes
