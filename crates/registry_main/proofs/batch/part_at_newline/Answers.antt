use Rattle.registry_main.proofs.Written.{newline_parts}
use Rattle.registry_main.proofs.batch.part_at_newline.Goals as goal

pub returns : goal.returns
returns c = newline_parts (λ text. text.now) c.args.text.now c.parted_at.result c.parted_at.ensures.value
