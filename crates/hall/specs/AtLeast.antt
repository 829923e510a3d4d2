-- The answer of a register that has to have so many entries.
use Rattle.std.specs.Prelude.{◌≡◌, Bool, true, false}
use Rattle.reg_entry.specs.Operations.{PlainBoard}
use Rattle.board.specs.declared.lens.Answer.{Answer}
use Rattle.hall.specs.Lookup.{conflict_answer}

-- where it has too few, it says so; else it has the lens's answers
abbrev pub AnswersAtLeast : (PlainBoard → Answer → Type 0) → Bool → PlainBoard → Answer → Type 0
AnswersAtLeast answers true board answer = answer ≡ conflict_answer board.register.entries
AnswersAtLeast answers false board answer = answers board answer
