use Rattle.std.proofs.Common.{◌∙◌, sym}
use Rattle.registry_main.proofs.Fed.{end_is_told}
use Rattle.registry_main.proofs.mirror.mirror_script.Goals as goal

pub returns-in-Some-clause-told : goal.returns-in-Some-clause-told
returns-in-Some-clause-told g c e =
    end_is_told c.feed_script.new.mirror c.in-Some.fault c.in_ok-feed_script.ensures.sound (sym c.end_fault.ensures ∙ c.in-Some.is) (cc)
