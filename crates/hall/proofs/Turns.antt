-- Turns one after the other.
use Rattle.std.proofs.Common.{◌≡◌, ℕ, List, [], ◌∷◌, ◌++◌, false, refl, sym, ap, ◌∙◌, subst, append_assoc}
use Rattle.wire_http.specs.Messages.{PlainMessage, BeginsWith}
use Rattle.hall.specs.Standing.{Standing}
use Rattle.hall.specs.Turn.{Terms, Turn, AreTurns, AreMessages, AreServed, OnlyLastCloses, last_closes, messages_of, replies_of}

-- turns and then further turns
pub AreTurns-append : (t : Terms) (b m a : Standing) (ts us : List Turn) → AreTurns t b ts m → AreTurns t m us a → AreTurns t b (ts ++ us) a
AreTurns-append t b m a [] us first second = subst (λ s. AreTurns t s us a) first second
AreTurns-append t b m a (turn ∷ ts) us first second = (first.0, AreTurns-append t turn.after m a ts us first.1 second)

-- messages and then further messages
pub AreMessages-append : (bytes more rest : List ℕ) (ms ns : List PlainMessage) → AreMessages bytes ms more → AreMessages more ns rest
    → AreMessages bytes (ms ++ ns) rest
AreMessages-append bytes more rest [] ns first second = subst (λ b. AreMessages b ns rest) (sym first) second
AreMessages-append bytes more rest (m ∷ ms) ns first second = (first.0, first.1, AreMessages-append first.0 more rest ms ns first.2 second)

begins_more : (bytes rest piece : List ℕ) (m : PlainMessage) → BeginsWith bytes m rest → BeginsWith (bytes ++ piece) m (rest ++ piece)
begins_more bytes rest piece m b = record {
  whole = ap (λ l. l ++ piece) b.whole ∙ append_assoc m.head (m.body ++ rest) piece ∙ ap (λ l. m.head ++ l) (append_assoc m.body rest piece);
  message = b.message;
}

-- bytes that come behind are left behind
pub AreMessages-more : (bytes rest piece : List ℕ) (ms : List PlainMessage) → AreMessages bytes ms rest → AreMessages (bytes ++ piece) ms (rest ++ piece)
AreMessages-more bytes rest piece [] same = ap (λ l. l ++ piece) same
AreMessages-more bytes rest piece (m ∷ ms) first =
    (first.0 ++ piece, begins_more bytes first.0 piece m first.1, AreMessages-more first.0 rest piece ms first.2)

pub messages_of-append : (ts us : List Turn) → messages_of (ts ++ us) ≡ messages_of ts ++ messages_of us
messages_of-append [] us = refl
messages_of-append (turn ∷ ts) us = ap (λ l. turn.message ∷ l) (messages_of-append ts us)

pub replies_of-append : (ts us : List Turn) → replies_of (ts ++ us) ≡ replies_of ts ++ replies_of us
replies_of-append [] us = refl
replies_of-append (turn ∷ ts) us = ap (λ l. turn.reply ++ l) (replies_of-append ts us) ∙ sym (append_assoc turn.reply (replies_of ts) (replies_of us))

-- behind turns none of which ends the connection the last of the further ones is the last
pub last_closes-append : (ts us : List Turn) → last_closes ts ≡ false → last_closes (ts ++ us) ≡ last_closes us
last_closes-append [] us goes = refl
last_closes-append (turn ∷ []) [] goes = goes
last_closes-append (turn ∷ []) (next ∷ us) goes = refl
last_closes-append (turn ∷ next ∷ ts) us goes = last_closes-append (next ∷ ts) us goes

pub OnlyLastCloses-append : (ts us : List Turn) → OnlyLastCloses ts → last_closes ts ≡ false → OnlyLastCloses us → OnlyLastCloses (ts ++ us)
OnlyLastCloses-append [] us before goes after = after
OnlyLastCloses-append (turn ∷ []) [] before goes after = before
OnlyLastCloses-append (turn ∷ []) (next ∷ us) before goes after = (goes, after)
OnlyLastCloses-append (turn ∷ next ∷ ts) us before goes after = (before.0, OnlyLastCloses-append (next ∷ ts) us before.1 goes after)

-- what was served goes on with what is served behind it
pub served_on : (t : Terms) (b m a : Standing) (bytes more rest : List ℕ) (ts us : List Turn) → AreServed t b bytes ts more m → last_closes ts ≡ false
    → AreServed t m more us rest a → AreServed t b bytes (ts ++ us) rest a
served_on t b m a bytes more rest ts us first goes second = record {
  messages = subst (λ ms. AreMessages bytes ms rest) (sym (messages_of-append ts us)) (AreMessages-append bytes more rest _ _ first.messages second.messages);
  replies = AreTurns-append t b m a ts us first.replies second.replies;
  open_until_last = OnlyLastCloses-append ts us first.open_until_last goes second.open_until_last;
}

-- a piece that comes is left
pub served_more : (t : Terms) (b a : Standing) (bytes rest piece : List ℕ) (ts : List Turn) → AreServed t b bytes ts rest a
    → AreServed t b (bytes ++ piece) ts (rest ++ piece) a
served_more t b a bytes rest piece ts first = record {
  messages = AreMessages-more bytes rest piece _ first.messages;
  replies = first.replies;
  open_until_last = first.open_until_last;
}

-- before the first message nothing was served
pub none_served : (t : Terms) (b : Standing) (bytes : List ℕ) → AreServed t b bytes [] bytes b
none_served t b bytes = record { messages = refl; replies = refl; open_until_last = tt }
