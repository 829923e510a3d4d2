use Rattle.std.proofs.Common.{decimal, sym, ap, ◌∙◌, subst}
use Rattle.std.proofs.lemmas.Fmt.{parse-decimal, IsAscii-decimal}
use Rattle.std.proofs.lemmas.Str.{IsUtf8-from_ascii}
use Rattle.std.specs.Result.{result_ok}
use Rattle.std.specs.Str.{IsUtf8}
use Rattle.addr_text.proofs.decimal.parse_long.Goals as goal

pub returns-in_default : goal.returns-in_default
returns-in_default c =
    λ n fits spelled. absurd (c.in_default.ensures.cases.0 (subst IsUtf8 (sym spelled) (IsUtf8-from_ascii (decimal n) (IsAscii-decimal n fits))))

pub returns : goal.returns
returns c =
    λ n fits spelled.
    c.ok.ensures.value ∙ ap result_ok (parse-decimal 64 n _ _ fits fits (c.in-Ok.ensures.cases.0 ∙ spelled) c.parse.ensures.value.0)
