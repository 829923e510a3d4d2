use Rattle.std.proofs.Common.{arith}
use Rattle.std.proofs.lemmas.Grind.{common_steps}
use Rattle.desk_text.proofs.reply_text.append_values.Goals as goal

pub returns-in-OverCap-clause-text : goal.returns-in-OverCap-clause-text
returns-in-OverCap-clause-text c = grind (arith, common_steps)

pub returns-4-clause-text : goal.returns-4-clause-text
returns-4-clause-text c = grind (arith, common_steps)

pub returns-in-Malformed-clause-text : goal.returns-in-Malformed-clause-text
returns-in-Malformed-clause-text c = grind (arith, common_steps)

pub returns-in-OutsidePool-clause-text : goal.returns-in-OutsidePool-clause-text
returns-in-OutsidePool-clause-text c = grind (arith, common_steps)

pub returns-in-NotOnePiece-clause-text : goal.returns-in-NotOnePiece-clause-text
returns-in-NotOnePiece-clause-text c = grind (arith, common_steps)

pub returns-in-WrongStatus-clause-text : goal.returns-in-WrongStatus-clause-text
returns-in-WrongStatus-clause-text c = grind (arith, common_steps)

pub returns-in-UnknownHolder-clause-text : goal.returns-in-UnknownHolder-clause-text
returns-in-UnknownHolder-clause-text c = grind (arith, common_steps)

pub returns-in-NotHolder-clause-text : goal.returns-in-NotHolder-clause-text
returns-in-NotHolder-clause-text c = grind (arith, common_steps)

pub returns-in-Overlap-clause-text : goal.returns-in-Overlap-clause-text
returns-in-Overlap-clause-text c = grind (arith, common_steps)

pub returns-in-CardsDiffer-clause-text : goal.returns-in-CardsDiffer-clause-text
returns-in-CardsDiffer-clause-text c = grind (arith, common_steps)

pub returns-in-LengthOutOfPolicy-clause-text : goal.returns-in-LengthOutOfPolicy-clause-text
returns-in-LengthOutOfPolicy-clause-text c = grind (arith, common_steps)

pub returns-in-HolderKind-clause-text : goal.returns-in-HolderKind-clause-text
returns-in-HolderKind-clause-text c = grind (arith, common_steps)

pub returns-in-UnderUsed-clause-text : goal.returns-in-UnderUsed-clause-text
returns-in-UnderUsed-clause-text c = grind (arith, common_steps)

pub returns-in-HoldTime-clause-text : goal.returns-in-HoldTime-clause-text
returns-in-HoldTime-clause-text c = grind (arith, common_steps)

pub returns-in-NotDue-clause-text : goal.returns-in-NotDue-clause-text
returns-in-NotDue-clause-text c = grind (arith, common_steps)

pub returns-in-HasSubs-clause-text : goal.returns-in-HasSubs-clause-text
returns-in-HasSubs-clause-text c = grind (arith, common_steps)

pub returns-in-Straddled-clause-text : goal.returns-in-Straddled-clause-text
returns-in-Straddled-clause-text c = grind (arith, common_steps)

pub returns-in-RegisterFull-clause-text : goal.returns-in-RegisterFull-clause-text
returns-in-RegisterFull-clause-text c = grind (arith, common_steps)

pub returns-in-HoldersFull-clause-text : goal.returns-in-HoldersFull-clause-text
returns-in-HoldersFull-clause-text c = grind (arith, common_steps)

pub returns-in-JournalFull-clause-text : goal.returns-in-JournalFull-clause-text
returns-in-JournalFull-clause-text c = grind (arith, common_steps)

pub returns-in-SubsFull-clause-text : goal.returns-in-SubsFull-clause-text
returns-in-SubsFull-clause-text c = grind (arith, common_steps)

pub returns-in-ReverseFull-clause-text : goal.returns-in-ReverseFull-clause-text
returns-in-ReverseFull-clause-text c = grind (arith, common_steps)
