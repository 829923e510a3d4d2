use Rattle.std.proofs.Common.{sym, subst, IsUtf8}
use Rattle.rdap_json.proofs.Utf8.{range_utf8}
use Rattle.rdap_json.proofs.texts.range_bytes.Goals as goal

pub returns-clause-utf8 : goal.returns-clause-utf8
returns-clause-utf8 c = subst IsUtf8 (sym c.write_range.ensures.text) (range_utf8 c.args.r.now c.first-first.ensures.valid)
