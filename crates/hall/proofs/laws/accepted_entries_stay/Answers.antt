use Rattle.std.proofs.Common.{sym}
use Rattle.hall.specs.Desk.{among_others}
use Rattle.hall.proofs.Rising.{accepted_stays, entry_stays_in_turns}
use Rattle.hall.proofs.laws.accepted_entries_stay.Goals as goal

pub returns-clause-accepted : goal.returns-clause-accepted
returns-clause-accepted g c rooms policy before after turn later who request day e number submitted are =
    accepted_stays (among_others rooms policy (g.C.Clock.states c.args._clock.now)) before after turn later who request day e number
    (λ es fs more. (more.0, sym more.1)) submitted are

pub returns-clause-seen : goal.returns-clause-seen
returns-clause-seen g c rooms policy before after turns e number has are =
    entry_stays_in_turns (among_others rooms policy (g.C.Clock.states c.args._clock.now)) before after turns e number
    (λ es fs more. (more.0, sym more.1)) has are
