-- The statistics file as the answer to a question.
use Rattle.std.specs.Prelude.{ℕ, List}
use Rattle.reg_entry.specs.Register.{Register}
use Rattle.board.specs.declared.lens.Answer.{Answer}
use Rattle.board.specs.declared.lens.Media.TheVariants.{Plain}
use Rattle.delegated_ext.specs.StatisticsText.{statistics_text}

-- the file of a register under the registry's name, as plain text
abbrev pub statistics_answer : Register → List ℕ → Answer
statistics_answer r registry = record { status = 200; media = Plain; body = statistics_text r registry; entries = r.entries }
