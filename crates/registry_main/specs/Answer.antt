-- The text of an answer.
use Rattle.std.specs.Prelude.{List, [], ◌++◌, ℕ, codes}
use Rattle.desk_text.specs.DueText.{due_text}
use Rattle.registry_main.specs.declared.answer.Answer.{Answer}
use Rattle.registry_main.specs.declared.answer.Answer.TheVariants.{Silent, Told, Due}
use Rattle.registry_main.specs.Session.{PlainSession, pieces_due}

-- the lines of the answer: what is told stands in a line, and what is due is the session's to tell
abbrev pub answer_text : PlainSession → List ℕ → Answer → List ℕ
answer_text s line Silent = []
answer_text s line Told = line ++ codes "\n"
answer_text s line Due = due_text (pieces_due s)
