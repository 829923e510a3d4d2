use Rattle.rdap_json.proofs.Utf8.{spread_utf8}
use Rattle.rdap_json.proofs.texts.midnight_bytes.Goals as goal

pub returns-clause-utf8 : goal.returns-clause-utf8
returns-clause-utf8 c = spread_utf8 _ c.args.day c.day_text.ensures c.requires
