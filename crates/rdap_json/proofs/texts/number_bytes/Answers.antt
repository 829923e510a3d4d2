use Rattle.std.proofs.Common.{ℕ, ◌≤◌, sym, subst, IsUtf8, rules}
use Rattle.num_range.specs.Space.{top_of}
use Rattle.rdap_json.proofs.Utf8.{number_utf8}
use Rattle.rdap_json.proofs.texts.number_bytes.Goals as goal

pub returns-clause-utf8 : goal.returns-clause-utf8
returns-clause-utf8 c =
    let n = c.args.n in
    let within = subst (λ (v : ℕ). v ≤ top_of n.space) c.value-value.ensures.value c.value-value.ensures.within in
    subst IsUtf8 (sym (search rules)) (number_utf8 n.space n.value within)
