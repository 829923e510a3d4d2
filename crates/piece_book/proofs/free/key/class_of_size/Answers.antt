use Rattle.piece_book.proofs.FreeClass.{logarithm_is_class}
use Rattle.piece_book.proofs.free.key.class_of_size.Goals as goal

pub returns-in-Ipv4 : goal.returns-in-Ipv4
returns-in-Ipv4 c =
    let is = logarithm_is_class c.args.space c.args.size c.ilog2.result c.in-Ipv4.is c.requires c.ilog2.ensures.power_le c.ilog2.ensures.next_power_gt in
    record { size = is.0; bound = is.1 }
