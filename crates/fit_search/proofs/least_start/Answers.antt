use Rattle.fit_search.proofs.least_start.Goals as goal

pub returns-in_default : goal.returns-in_default
returns-in_default c = c.least_start.ensures (record {
  pool = c.args.pieces.now.partition;
  indexed = c.free_blocks.ensures.index;
  valid = c.free_blocks.ensures.valid;
})
