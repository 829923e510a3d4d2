use Rattle.std.proofs.Common.{length, sym, inl, rules}
use Rattle.std.proofs.lemmas.Bool.{eqb-true}
use Rattle.wire_http.proofs.Steps.{empty_bytes, nothing_yet, unsearched, all_searched, no_line_yet}
use Rattle.wire_http.proofs.first_step.first_step.Goals as goal

pub returns-then-ended : goal.returns-then-ended
returns-then-ended c = record { step = (empty_bytes c.args.bytes.now (eqb-true (length c.args.bytes.now) 0 (sym c.if-is_empty.ensures)), c.if-ended.true); searched = unsearched c.args.bytes.now }

pub returns-else-ended : goal.returns-else-ended
returns-else-ended c = record {
  step = nothing_yet c.args.bytes.now c.args.ended (eqb-true (length c.args.bytes.now) 0 (sym c.if-is_empty.ensures)) c.if-ended.false;
  searched = unsearched c.args.bytes.now;
}

pub returns-then-not-may_have_ended : goal.returns-then-not-may_have_ended
returns-then-not-may_have_ended c =
    let bytes = c.args.bytes.now in
    let found = no_line_yet bytes c.args.seen c.args.ended c.requires
    (c.may_have_ended.ensures.short c.if-not-may_have_ended.true) (c.may_have_ended.ensures.none c.if-not-may_have_ended.true) c.if-not-ended.true in
    record { step = found.0; searched = found.1 }

pub returns-in-Whole : goal.returns-in-Whole
returns-in-Whole c = record { step = c.step_behind.ensures; searched = unsearched c.args.bytes.now }

pub returns-in-Partial : goal.returns-in-Partial
returns-in-Partial c = record {
  step = record { open_ended = search rules; part = inl c.in-Partial.ensures };
  searched = all_searched c.args.bytes.now c.in-Partial.ensures.0;
}

pub returns-in-Partial-2 : goal.returns-in-Partial-2
returns-in-Partial-2 c = record { step = search rules; searched = unsearched c.args.bytes.now }

pub returns-in-Never : goal.returns-in-Never
returns-in-Never c = record { step = search rules; searched = unsearched c.args.bytes.now }
