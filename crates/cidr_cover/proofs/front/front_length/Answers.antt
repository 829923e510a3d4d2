use Rattle.std.proofs.Common.{◌≡◌, ◌∙◌, ap, arith}
use Rattle.num_range.specs.Space.{width_of}
use Rattle.cidr_cover.proofs.FrontBits.{size_bits_within, front_fits, front_widest}
use Rattle.cidr_cover.proofs.front.front_length.Goals as goal

pub overflow_sub-result : goal.overflow_sub-result
overflow_sub-result c =
    let width : c.width.result ≡ width_of c.args.r.now.space = c.width.ensures ∙ ap width_of c.space.ensures in
    let within = size_bits_within c.args.r.now c.size_bits.result c.first.ensures.valid c.size_bits.ensures.within in
    omega arith

pub returns-clause-fits : goal.returns-clause-fits
returns-clause-fits c =
    let width : c.width.result ≡ width_of c.args.r.now.space = c.width.ensures ∙ ap width_of c.space.ensures in
    let valid = c.first.ensures.valid in
    rw width
    (front_fits c.args.r.now c.zero_bits.result c.size_bits.result c.min-bits.result valid c.min-bits.ensures
    (rw c.first.ensures.first at c.zero_bits.ensures.zero) c.size_bits.ensures.within)

pub returns-clause-widest : goal.returns-clause-widest
returns-clause-widest c =
    let width : c.width.result ≡ width_of c.args.r.now.space = c.width.ensures ∙ ap width_of c.space.ensures in
    let valid = c.first.ensures.valid in
    rw width
    (front_widest c.args.r.now c.zero_bits.result c.size_bits.result c.min-bits.result valid c.min-bits.ensures
    (simp c.first.ensures.first at c.zero_bits.ensures.most) c.size_bits.ensures.most)
