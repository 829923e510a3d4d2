use Rattle.std.proofs.Common.{◌∙◌, Some, ap, inr, map, refl, sym}
use Rattle.std.specs.String.{string_bytes}
use Rattle.registry_main.proofs.Commands.{first_or_last, first_or_second, is_command}
use Rattle.registry_main.proofs.Front.{if_said_maps}
use Rattle.registry_main.proofs.program.run.Goals as goal

pub do_serve-requires-clause-workers : goal.do_serve-requires-clause-workers
do_serve-requires-clause-workers g c κs lives = ((c.commands_have_one_list_of_words.ensures (map string_bytes c.args.words.now) _).0
    (sym c.in-Ok-Some-Serve.ensures ∙ c.in-Ok-Some-Serve.field-0-is ∙ ap Some c.in-Ok-Some-Serve.field-0-0-is)).1.2.0

pub returns-in-Ok-Some-Serve-clause-refused : goal.returns-in-Ok-Some-Serve-clause-refused
returns-in-Ok-Some-Serve-clause-refused g c fault is =
    let it = c.do_serve.ensures.refused fault is in
    (it.0, refl, it.1)

pub returns-in-Ok-Some-Serve-clause-no_policy : goal.returns-in-Ok-Some-Serve-clause-no_policy
returns-in-Ok-Some-Serve-clause-no_policy g c fault = if_said_maps _ _ _ _ (λ it. (inr it.0, refl, it.1)) (c.do_serve.ensures.no_policy fault)

pub returns-in-Ok-Some-clause-no_policy : goal.returns-in-Ok-Some-clause-no_policy
returns-in-Ok-Some-clause-no_policy g c fault = if_said_maps _ _ _ _ (λ it. (inr it.0, it.1, it.2)) (c.do_command.ensures.no_policy fault)

pub returns-in-Ok-Some-clause-answered : goal.returns-in-Ok-Some-clause-answered
returns-in-Ok-Some-clause-answered g c is = c.do_command.ensures.answered (is_command _ _ _ _ c.in-Ok-Some.field-0-is c.in-Ok-Some.ensures is)

pub returns-in-Ok-Some-clause-published : goal.returns-in-Ok-Some-clause-published
returns-in-Ok-Some-clause-published g c what is = c.do_command.ensures.published what (is_command _ _ _ _ c.in-Ok-Some.field-0-is c.in-Ok-Some.ensures is)

pub returns-in-Ok-Some-clause-mirrored : goal.returns-in-Ok-Some-clause-mirrored
returns-in-Ok-Some-clause-mirrored g c is = c.do_command.ensures.mirrored (is_command _ _ _ _ c.in-Ok-Some.field-0-is c.in-Ok-Some.ensures is)

pub returns-in-Ok-Some-clause-loaded : goal.returns-in-Ok-Some-clause-loaded
returns-in-Ok-Some-clause-loaded g c seed requests is = c.do_command.ensures.loaded seed requests (is_command _ _ _ _ c.in-Ok-Some.field-0-is c.in-Ok-Some.ensures is)

pub returns-in-Ok-Some-clause-unread : goal.returns-in-Ok-Some-clause-unread
returns-in-Ok-Some-clause-unread g c is = c.do_command.ensures.unread (is_command _ _ _ _ c.in-Ok-Some.field-0-is c.in-Ok-Some.ensures is)

pub returns-in-Ok-Some-clause-unwritten : goal.returns-in-Ok-Some-clause-unwritten
returns-in-Ok-Some-clause-unwritten g c what is = c.do_command.ensures.unwritten what (is_command _ _ _ _ c.in-Ok-Some.field-0-is c.in-Ok-Some.ensures is)

pub returns-in-Ok-Some-clause-whole : goal.returns-in-Ok-Some-clause-whole
returns-in-Ok-Some-clause-whole g c is = c.do_command.ensures.whole (is_command _ _ _ _ c.in-Ok-Some.field-0-is c.in-Ok-Some.ensures is)

pub returns-in-Ok-Some-clause-unfed : goal.returns-in-Ok-Some-clause-unfed
returns-in-Ok-Some-clause-unfed g c is = c.do_command.ensures.unfed (is_command _ _ _ _ c.in-Ok-Some.field-0-is c.in-Ok-Some.ensures is)

pub returns-in-Ok-Some-clause-read_fault : goal.returns-in-Ok-Some-clause-read_fault
returns-in-Ok-Some-clause-read_fault g c is = first_or_second _ _ _ (c.do_command.ensures.read is)

pub returns-in-Ok-Some-Serve-clause-read_fault : goal.returns-in-Ok-Some-Serve-clause-read_fault
returns-in-Ok-Some-Serve-clause-read_fault g c is = first_or_last _ _ _ (c.do_serve.ensures.read is)
