use Rattle.std.proofs.Common.{rules, ◌≡◌, ◌-◌, ◌^◌, arith}
use Rattle.addr_text.specs.Reading.{decimal_up_to}
use Rattle.addr_text.proofs.Computed.{no_decimal}
use Rattle.addr_text.proofs.decimal.read_decimal.Goals as goal

pub returns-in_err-read_long_decimal-clause-none : goal.returns-in_err-read_long_decimal-clause-none
returns-in_err-read_long_decimal-clause-none c =
    let value : c.from_residual.result ≡ decimal_up_to (2 ^ 32 - 1) c.args.text.now = search rules in
    no_decimal (2 ^ 32) c.args.text.now c.from_residual.result (omega arith) value

pub returns-clause-none : goal.returns-clause-none
returns-clause-none c =
    let value : c.ok.result ≡ decimal_up_to (2 ^ 32 - 1) c.args.text.now = search rules in
    no_decimal (2 ^ 32) c.args.text.now c.ok.result (omega arith) value
