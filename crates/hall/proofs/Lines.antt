-- How the connection of one line ends.
use Rattle.std.proofs.Common.{◌≡◌, ℕ, List, ◌++◌, codes, length, Option, None, Some, refl, sym, ap, ◌∙◌, subst, inl, inr}
use Rattle.std.specs.Prelude.{Result, Ok, Err}
use Rattle.wire_http.specs.declared.message.ConnEnd.{ConnEnd}
use Rattle.wire_http.specs.declared.message.ConnEnd.TheVariants.{Closed, ReadFault, WriteFault, NoMemory, Shut}
use Rattle.reg_entry.specs.Operations.{PlainBoard, board_after}
use Rattle.board.specs.declared.lens.Answer.{Answer}
use Rattle.nrtm_stream.specs.declared.ask.Ask.{Ask}
use Rattle.nrtm_stream.specs.declared.ask.AskFault.{AskFault}
use Rattle.nrtm_stream.specs.Ask.{fault_text}
use Rattle.nrtm_stream.specs.Stream.{capitals}
use Rattle.nrtm_stream.specs.Answer.{stream_answer, nrtm_answer}
use Rattle.snapshot_pub.specs.Pass.{PlainPass}
use Rattle.hall.specs.Stream.{asked_in, IsSettled, answer_to, line_answer, HasLooked, HasTold, LineEndsAs}

-- what was read of the bytes is what they ask
pub asks_as : (registry came slice : List ℕ) (read answer : Result Ask AskFault) → read ≡ asked_in registry slice → slice ≡ came → read ≡ answer
    → asked_in registry came ≡ answer
asks_as registry came slice read answer is same answers = sym (ap (asked_in registry) same) ∙ sym is ∙ answers

-- the body of the look's answer is the stream
pub body_is : (board : PlainBoard) (ask : Ask) (registry text : List ℕ) (answer : Answer) → text ≡ answer.body → answer ≡ nrtm_answer board ask registry
    → text ≡ stream_answer board (capitals registry) ask
body_is board ask registry text answer is told = is ∙ ap (λ (a : Answer). a.body) told

-- where the input had ended it has still
settled_later : (then_ now : Type 0) (bytes : List ℕ) → (then_ → now) → IsSettled then_ bytes → IsSettled now bytes
settled_later then_ now bytes stays (inl ended) = inl (stays ended)
settled_later then_ now bytes stays (inr same) = inr same

line_told : (registry : List ℕ) (before after : PlainPass) (written now_written : Option (List ℕ)) (end : ConnEnd) (number : Option ℕ) (has_ended : Type 0)
    (came text : List ℕ) → IsSettled has_ended came → HasLooked (asked_in registry came) before after number
    → text ≡ line_answer after registry came → HasTold end written text now_written
    → LineEndsAs end registry before written number has_ended now_written after came
line_told registry before after written now_written Closed number has_ended came text settled looked is told = record {
  settled = settled;
  looked = looked;
  told = subst (λ t. HasTold Closed written t now_written) is told;
}
line_told registry before after written now_written WriteFault number has_ended came text settled looked is told = record {
  settled = settled;
  looked = looked;
  told = subst (λ t. HasTold WriteFault written t now_written) is told;
}
line_told registry before after written now_written ReadFault number has_ended came text settled looked is told = absurd told
line_told registry before after written now_written NoMemory number has_ended came text settled looked is told = absurd told
line_told registry before after written now_written Shut number has_ended came text settled looked is told = absurd told

-- the line asks for nothing, and its fault was told
pub fault_told : (registry : List ℕ) (pass : PlainPass) (written now_written : Option (List ℕ)) (end : ConnEnd) (then_ now : Type 0)
    (came text : List ℕ) (fault : AskFault) → (then_ → now) → IsSettled then_ came → asked_in registry came ≡ Err fault
    → text ≡ codes "%ERROR: " ++ fault_text fault ++ codes "\n" → HasTold end written text now_written
    → LineEndsAs end registry pass written None now now_written pass came
fault_told registry pass written now_written end then_ now came text fault stays settled asks is told =
    line_told registry pass pass written now_written end None now came text (settled_later then_ now came stays settled)
    (subst (λ a. HasLooked a pass pass None) (sym asks) (refl, refl))
    (is ∙ sym (ap (answer_to (board_after pass.rooms pass.entries) registry) asks)) told

-- the line asks for a stream, and the look's answer was told
pub stream_told : (registry : List ℕ) (before after : PlainPass) (written now_written : Option (List ℕ)) (end : ConnEnd) (number : ℕ) (then_ now : Type 0)
    (came text : List ℕ) (ask : Ask) → (then_ → now) → IsSettled then_ came → asked_in registry came ≡ Ok ask → number ≡ length after.entries
    → text ≡ stream_answer (board_after after.rooms after.entries) (capitals registry) ask → HasTold end written text now_written
    → LineEndsAs end registry before written (Some number) now now_written after came
stream_told registry before after written now_written end number then_ now came text ask stays settled asks count is told =
    line_told registry before after written now_written end (Some number) now came text (settled_later then_ now came stays settled)
    (subst (λ a. HasLooked a before after (Some number)) (sym asks) (ap Some count))
    (is ∙ sym (ap (answer_to (board_after after.rooms after.entries) registry) asks)) told
