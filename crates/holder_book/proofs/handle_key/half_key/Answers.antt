use Rattle.std.proofs.Common.{arith}
use Rattle.holder_book.proofs.HandleKeys.{digit_more, fits_more}
use Rattle.holder_book.proofs.handle_key.half_key.Goals as goal

pub digit-requires : goal.digit-requires
digit-requires c = (digit_more c.args.bytes.now c.loop-i.i c.requires.alphabet c.requires.few c.loop-i-test.true).ascii

pub overflow_mul-key : goal.overflow_mul-key
overflow_mul-key c =
    let fits = fits_more c.args.bytes.now c.loop-i.i c.loop-i.key c.digit.result c.requires.alphabet c.requires.few
    c.loop-i-test.true c.loop-i.invariant.key c.digit.ensures.digit in
    omega (arith, fits)

pub overflow_add-key : goal.overflow_add-key
overflow_add-key c =
    let fits = fits_more c.args.bytes.now c.loop-i.i c.loop-i.key c.digit.result c.requires.alphabet c.requires.few
    c.loop-i-test.true c.loop-i.invariant.key c.digit.ensures.digit in
    omega (arith, fits, c.from.ensures)
