-- What a conversation says of the end of the input holds of what follows from that.
use Rattle.std.proofs.Common.{ℕ, inl, inr, List, Option}
use Rattle.wire_http.specs.declared.message.ConnEnd.{ConnEnd}
use Rattle.wire_http.specs.declared.message.ConnEnd.TheVariants.{Closed, ReadFault, WriteFault, NoMemory, Shut}
use Rattle.snapshot_pub.specs.Pass.{PlainPass}
use Rattle.hall.specs.Standing.{Standing}
use Rattle.hall.specs.Turn.{Terms, Turn}
use Rattle.hall.specs.Conversation.{Known, IsClosing, EndsAs, Conversation, HasConversation}
use Rattle.hall.specs.Stream.{IsSettled, IsLineAnswered, IsLineRefused, LineEndsAs, HasAnsweredLine}

closing_by : (H G : Type 0) → (H → G) → (turns : List Turn) (rest text : List ℕ) → IsClosing H turns rest text → IsClosing G turns rest text
closing_by H G f turns rest text (inl last) = inl last
closing_by H G f turns rest text (inr open_) =
    let last = open_.1.2 in inr (open_.0, (open_.1.0, open_.1.1, record { stands = last.stands; end = λ ended. f (last.end ended); word = last.word }))

ends_by : (H G : Type 0) → (H → G) → (end : ConnEnd) (turns : List Turn) (rest : List ℕ) (before after : Option (List ℕ))
    → EndsAs end H turns rest before after → EndsAs end G turns rest before after
ends_by H G f Closed turns rest before after ends = (ends.0, closing_by H G f turns rest ends.0 ends.1, ends.2)
ends_by H G f ReadFault turns rest before after ends = ends
ends_by H G f WriteFault turns rest before after (inl front) = inl front
ends_by H G f WriteFault turns rest before after (inr ends) = inr (ends.0, closing_by H G f turns rest ends.0 ends.1, ends.2)
ends_by H G f NoMemory turns rest before after ends = ends
ends_by H G f Shut turns rest before after ends = ends

pub conversation_by : (t : Terms) (before : Standing) (old : Known) (end : ConnEnd) (H G : Type 0) (new : Known) (after : Standing) → (H → G)
    → HasConversation t before old end H new after → HasConversation t before old end G new after
conversation_by t before old end H G new after f talk =
    let it = talk.3 in (
      talk.0,
      talk.1,
      talk.2,
      record {
        taken = it.taken;
        left = it.left;
        messages = it.messages;
        replies = it.replies;
        prefixes = it.prefixes;
        kept = it.kept;
        open_until_last = it.open_until_last;
        ends = ends_by H G f end talk.1 talk.2 old.written new.written it.ends;
      },
    )

settled_by : (H G : Type 0) → (H → G) → (came : List ℕ) → IsSettled H came → IsSettled G came
settled_by H G f came (inl ended) = inl (f ended)
settled_by H G f came (inr settled) = inr settled

answered_by : (H G : Type 0) → (H → G) → (registry : List ℕ) (before : PlainPass) (written : Option (List ℕ)) (end : ConnEnd) (number : Option ℕ)
    (now_written : Option (List ℕ)) (after : PlainPass) (came : List ℕ)
    → IsLineAnswered registry before written end number H now_written after came → IsLineAnswered registry before written end number G now_written after came
answered_by H G f registry before written end number now_written after came it =
    record { settled = settled_by H G f came it.settled; looked = it.looked; told = it.told }

refused_by : (H G : Type 0) → (H → G) → (registry : List ℕ) (written : Option (List ℕ)) (number : Option ℕ) (now_written : Option (List ℕ)) (came : List ℕ)
    → IsLineRefused registry written number H now_written came → IsLineRefused registry written number G now_written came
refused_by H G f registry written number now_written came it =
    record { settled = settled_by H G f came it.settled; asks = it.asks; number_is = it.number_is; silent = it.silent }

line_ends_by : (H G : Type 0) → (H → G) → (end : ConnEnd) (registry : List ℕ) (before : PlainPass) (written : Option (List ℕ)) (number : Option ℕ)
    (now_written : Option (List ℕ)) (after : PlainPass) (came : List ℕ)
    → LineEndsAs end registry before written number H now_written after came → LineEndsAs end registry before written number G now_written after came
line_ends_by H G f Closed registry before written number now_written after came it = answered_by H G f registry before written Closed number now_written after came it
line_ends_by H G f WriteFault registry before written number now_written after came it =
    answered_by H G f registry before written WriteFault number now_written after came it
line_ends_by H G f ReadFault registry before written number now_written after came it = it
line_ends_by H G f NoMemory registry before written number now_written after came it = refused_by H G f registry written number now_written came it
line_ends_by H G f Shut registry before written number now_written after came it = refused_by H G f registry written number now_written came it

pub line_by : (registry : List ℕ) (before : PlainPass) (old : Known) (end : ConnEnd) (number : Option ℕ) (H G : Type 0) (new : Known) (after : PlainPass)
    → (H → G) → HasAnsweredLine registry before old end number H new after → HasAnsweredLine registry before old end number G new after
line_by registry before old end number H G new after f told =
    let it = told.1 in (
      told.0,
      record {
        taken = it.taken;
        left = it.left;
        short = it.short;
        ends = line_ends_by H G f end registry before old.written number new.written after told.0 it.ends;
      },
    )
