-- The table of commands, row by row: what `clap` makes of words none of which begins with `-`, and of which command they are.
use Rattle.std.proofs.Common.{◌≡◌, ◌≢◌, ◌∙◌, ◌⊎◌, inl, inr, ℕ, ◌-◌, ◌^◌, ◌||◌, List, [], ◌∷◌, Bool, cond, true, false, true≢false, Option, Some, None, option_map, refl, sym, ap, ap₂, subst, codes, arith}
use Rattle.std.proofs.lemmas.Slice.Eq.{bytes_eq-Decides}
use Rattle.std.specs.Prelude.{find, option_and_then}
use Rattle.std.specs.List.{list_any}
use Rattle.std.specs.Str.{bytes_eq}
use Rattle.addr_text.specs.Reading.{decimal_up_to}
use Rattle.clap.specs.Walk.{Held, Names, Row, Text, Walk, answers_to, finished, idle, nothing_held, pushed, rows_after, settled, subcommand_met, walk, walk_from, walked}
use Rattle.clap.specs.Simple.{Shape, built, built_leaf, inherited, is_simple, marked_built, names_of, subcommand_of, with_leaf_noted}
use Rattle.clap.specs.Kinds.{HasKind, IsAmong, Kinds, or_else}
use Rattle.clap.specs.Values.{kind_of}
use Rattle.clap.specs.declared.error.Error.{Error}
use Rattle.clap.specs.Faults.{fault_of, is_simple_and_free, level_fault, walk_fault}
use Rattle.clap.specs.declared.error.kind.ErrorKind.TheVariants.{MissingRequiredArgument, OutOfMemory}
use Rattle.clap.proofs.OnLiterals.{clap_on_literals}
use Rattle.command_words.specs.declared.command.Command.{Command}
use Rattle.command_words.specs.declared.command.Command.TheVariants.{Batch, Serve, Publish, Mirror, Load}
use Rattle.command_words.specs.declared.command.Publication.TheVariants.{Statistics, Zones}
use Rattle.command_words.specs.Command.{alone, command_of, load_by, load_of, positive_up_to, serve_by, serve_of}
use Rattle.command_words.specs.Table.{begins_with_hyphen, command_in_row, command_met, load_in, row, serve_in, table}
use Rattle.command_words.proofs.Decimals.{hyphen_is_no_positive, hyphen_is_none}
use Rattle.command_words.proofs.Walks.{IsFault, after_walk, enters_fault, enters_rows, goes_on, level_fails, none_then, strays, walk_at}

-- ---- what `clap` and the definition say of the words

-- the words are a command and `clap` finds it, or they are none and it fails
abbrev pub Agrees : List Text → Type 0
Agrees words = ((fault_of table words ≡ []) × (command_met (subcommand_of table words) ≡ command_of words))
    ⊎ (IsFault (fault_of table words) × (command_of words ≡ None))

-- a row as it is built
abbrev leaf : Text → List Text → Shape
leaf word texts = built_leaf (inherited (with_leaf_noted (marked_built table.top)) (row word texts))

-- the words begin with the row's word, so all is what the row makes of the others
record Enters (word : Text) (texts rest : List Text) : Type 0 where
  fault : fault_of table (word ∷ rest) ≡ level_fault (leaf word texts) [] nothing_held rest false []
  rows : subcommand_of table (word ∷ rest) ≡ Some (word, rows_after (leaf word texts).rules [] rest)

enters_batch : (rest : List Text) → Enters (codes "batch") [] rest
unfolding clap_on_literals
enters_batch rest = record {
  fault = enters_fault (built table) (codes "batch") (leaf (codes "batch") []) rest refl refl refl ∙ none_then (level_fault (leaf (codes "batch") []) [] nothing_held rest false []);
  rows = enters_rows (built table) (codes "batch") (leaf (codes "batch") []) rest refl refl refl;
}

abbrev serves : Shape
serves = leaf (codes "serve") (codes "HTTP" ∷ codes "LINE" ∷ codes "WORKERS" ∷ [])

enters_serve : (rest : List Text) → Enters (codes "serve") (codes "HTTP" ∷ codes "LINE" ∷ codes "WORKERS" ∷ []) rest
unfolding clap_on_literals
enters_serve rest = record {
  fault = enters_fault (built table) (codes "serve") serves rest refl refl refl ∙ none_then (level_fault serves [] nothing_held rest false []);
  rows = enters_rows (built table) (codes "serve") serves rest refl refl refl;
}

enters_stats : (rest : List Text) → Enters (codes "stats") [] rest
unfolding clap_on_literals
enters_stats rest = record {
  fault = enters_fault (built table) (codes "stats") (leaf (codes "stats") []) rest refl refl refl ∙ none_then (level_fault (leaf (codes "stats") []) [] nothing_held rest false []);
  rows = enters_rows (built table) (codes "stats") (leaf (codes "stats") []) rest refl refl refl;
}

enters_zones : (rest : List Text) → Enters (codes "zones") [] rest
unfolding clap_on_literals
enters_zones rest = record {
  fault = enters_fault (built table) (codes "zones") (leaf (codes "zones") []) rest refl refl refl ∙ none_then (level_fault (leaf (codes "zones") []) [] nothing_held rest false []);
  rows = enters_rows (built table) (codes "zones") (leaf (codes "zones") []) rest refl refl refl;
}

enters_mirror : (rest : List Text) → Enters (codes "mirror") [] rest
unfolding clap_on_literals
enters_mirror rest = record {
  fault = enters_fault (built table) (codes "mirror") (leaf (codes "mirror") []) rest refl refl refl ∙ none_then (level_fault (leaf (codes "mirror") []) [] nothing_held rest false []);
  rows = enters_rows (built table) (codes "mirror") (leaf (codes "mirror") []) rest refl refl refl;
}

abbrev loads : Shape
loads = leaf (codes "load") (codes "SEED" ∷ codes "N" ∷ [])

enters_load : (rest : List Text) → Enters (codes "load") (codes "SEED" ∷ codes "N" ∷ []) rest
unfolding clap_on_literals
enters_load rest = record {
  fault = enters_fault (built table) (codes "load") loads rest refl refl refl ∙ none_then (level_fault loads [] nothing_held rest false []);
  rows = enters_rows (built table) (codes "load") loads rest refl refl refl;
}

-- ---- the rows of one word

none_of : (a b : Bool) → (a || b) ≡ false → (a ≡ false) × (b ≡ false)
none_of true b e = absurd (true≢false e)
none_of false b e = (refl, e)

-- with no text behind it the word is the command, and else it is none
alone_agrees : (word : Text) (command : Command) (rest : List Text) → list_any begins_with_hyphen rest ≡ false → Enters word [] rest
    → ((rows : List Row) → command_in_row word rows ≡ Some command) → command_of (word ∷ rest) ≡ alone command rest → Agrees (word ∷ rest)
unfolding clap_on_literals
alone_agrees word command [] plain enters row is = inl (enters.fault, ap command_met enters.rows ∙ row [] ∙ sym is)
alone_agrees word command (text ∷ rest) plain enters row is =
    let first = none_of (begins_with_hyphen text) (list_any begins_with_hyphen rest) plain in
    inr (
      subst IsFault (sym enters.fault)
          (level_fails (leaf word []) [] (text ∷ rest) false [] (strays (leaf word []) [] 1 text nothing_held rest first.0 refl refl tt)),
      is,
    )

-- ---- the load

-- what is held behind the seed, and behind the number of requests
abbrev held_1 : Text → Held
held_1 seed = pushed (codes "SEED") seed nothing_held

abbrev held_2 : Text → Text → Held
held_2 seed requests = pushed (codes "N") requests (settled loads.rules (held_1 seed))

seed_goes : (seed : Text) (rest : List Text) → begins_with_hyphen seed ≡ false
    → (walk_fault loads [] (walk_from nothing_held) (seed ∷ rest) ≡ walk_fault loads [] (walk_at 2 (held_1 seed)) rest)
    × (walked loads.rules [] (walk_from nothing_held) seed ≡ walk_at 2 (held_1 seed))
unfolding clap_on_literals
seed_goes seed rest plain = goes_on loads 1 2 seed nothing_held (held_1 seed) rest plain refl refl

requests_go : (seed requests : Text) (rest : List Text) → begins_with_hyphen requests ≡ false
    → (walk_fault loads [] (walk_at 2 (held_1 seed)) (requests ∷ rest) ≡ walk_fault loads [] (walk_at 3 (held_2 seed requests)) rest)
    × (walked loads.rules [] (walk_at 2 (held_1 seed)) requests ≡ walk_at 3 (held_2 seed requests))
unfolding clap_on_literals
requests_go seed requests rest plain = goes_on loads 2 3 requests (held_1 seed) (held_2 seed requests) rest plain refl refl

-- one text is too few
one_text : (seed : Text) → begins_with_hyphen seed ≡ false → level_fault loads [] nothing_held (seed ∷ []) false [] ≡ MissingRequiredArgument ∷ []
unfolding clap_on_literals
one_text seed plain =
    let on = seed_goes seed [] plain in
    ap₂ (λ (k : Kinds) (w : Walk). or_else k (after_walk loads false [] w)) on.0 on.1

two_texts : (seed requests : Text) → begins_with_hyphen seed ≡ false → begins_with_hyphen requests ≡ false
    → (level_fault loads [] nothing_held (seed ∷ requests ∷ []) false [] ≡ [])
    × (command_in_row (codes "load") (rows_after loads.rules [] (seed ∷ requests ∷ [])) ≡ load_by seed requests)
unfolding clap_on_literals load_in
two_texts seed requests plain plain_too =
    let on = seed_goes seed (requests ∷ []) plain in
    let then = requests_go seed requests [] plain_too in
    let end : walk loads.rules [] nothing_held (seed ∷ requests ∷ []) ≡ walk_at 3 (held_2 seed requests) =
    ap (λ (w : Walk). walked loads.rules [] w requests) on.1 ∙ then.1 in (
      ap₂ (λ (k : Kinds) (w : Walk). or_else k (after_walk loads false [] w)) (on.0 ∙ then.0) end,
      ap (λ (w : Walk). command_in_row (codes "load") (finished loads.rules w.held)) end,
    )

-- and three are too many
three_texts : (seed requests text : Text) (rest : List Text) → begins_with_hyphen seed ≡ false → begins_with_hyphen requests ≡ false → begins_with_hyphen text ≡ false
    → IsFault (level_fault loads [] nothing_held (seed ∷ requests ∷ text ∷ rest) false [])
unfolding clap_on_literals
three_texts seed requests text rest plain plain_too plain_as_well =
    level_fails loads [] (seed ∷ requests ∷ text ∷ rest) false []
    (subst IsFault (sym ((seed_goes seed (requests ∷ text ∷ rest) plain).0 ∙ (requests_go seed requests (text ∷ rest) plain_too).0))
    (strays loads [] 3 text (held_2 seed requests) rest plain_as_well refl refl tt))

load_agrees : (rest : List Text) → list_any begins_with_hyphen rest ≡ false → Agrees (codes "load" ∷ rest)
unfolding clap_on_literals
load_agrees [] plain = inr (subst IsFault (sym (enters_load []).fault) tt, refl)
load_agrees (seed ∷ []) plain =
    let first = none_of (begins_with_hyphen seed) false plain in
    inr (subst IsFault (sym ((enters_load (seed ∷ [])).fault ∙ one_text seed first.0)) tt, refl)
load_agrees (seed ∷ requests ∷ []) plain =
    let first = none_of (begins_with_hyphen seed) (begins_with_hyphen requests || false) plain in
    let next = none_of (begins_with_hyphen requests) false first.1 in
    let two = two_texts seed requests first.0 next.0 in
    let enters = enters_load (seed ∷ requests ∷ []) in
    inl (enters.fault ∙ two.0, ap command_met enters.rows ∙ two.1)
load_agrees (seed ∷ requests ∷ text ∷ rest) plain =
    let first = none_of (begins_with_hyphen seed) (list_any begins_with_hyphen (requests ∷ text ∷ rest)) plain in
    let next = none_of (begins_with_hyphen requests) (list_any begins_with_hyphen (text ∷ rest)) first.1 in
    let last = none_of (begins_with_hyphen text) (list_any begins_with_hyphen rest) next.1 in
    inr (subst IsFault (sym (enters_load (seed ∷ requests ∷ text ∷ rest)).fault) (three_texts seed requests text rest first.0 next.0 last.0), refl)

-- ---- the doors

-- what is held behind the port of the one door, of the other, and behind the number of workers
abbrev behind_http : Text → Held
behind_http http = pushed (codes "HTTP") http nothing_held

abbrev behind_line : Text → Text → Held
behind_line http line = pushed (codes "LINE") line (settled serves.rules (behind_http http))

abbrev behind_workers : Text → Text → Text → Held
behind_workers http line workers = pushed (codes "WORKERS") workers (settled serves.rules (behind_line http line))

http_goes : (http : Text) (rest : List Text) → begins_with_hyphen http ≡ false
    → (walk_fault serves [] (walk_from nothing_held) (http ∷ rest) ≡ walk_fault serves [] (walk_at 2 (behind_http http)) rest)
    × (walked serves.rules [] (walk_from nothing_held) http ≡ walk_at 2 (behind_http http))
unfolding clap_on_literals
http_goes http rest plain = goes_on serves 1 2 http nothing_held (behind_http http) rest plain refl refl

line_goes : (http line : Text) (rest : List Text) → begins_with_hyphen line ≡ false
    → (walk_fault serves [] (walk_at 2 (behind_http http)) (line ∷ rest) ≡ walk_fault serves [] (walk_at 3 (behind_line http line)) rest)
    × (walked serves.rules [] (walk_at 2 (behind_http http)) line ≡ walk_at 3 (behind_line http line))
unfolding clap_on_literals
line_goes http line rest plain = goes_on serves 2 3 line (behind_http http) (behind_line http line) rest plain refl refl

workers_go : (http line workers : Text) (rest : List Text) → begins_with_hyphen workers ≡ false
    → (walk_fault serves [] (walk_at 3 (behind_line http line)) (workers ∷ rest) ≡ walk_fault serves [] (walk_at 4 (behind_workers http line workers)) rest)
    × (walked serves.rules [] (walk_at 3 (behind_line http line)) workers ≡ walk_at 4 (behind_workers http line workers))
unfolding clap_on_literals
workers_go http line workers rest plain = goes_on serves 3 4 workers (behind_line http line) (behind_workers http line workers) rest plain refl refl

-- one text is too few, and so are two
one_port : (http : Text) → begins_with_hyphen http ≡ false → level_fault serves [] nothing_held (http ∷ []) false [] ≡ MissingRequiredArgument ∷ []
unfolding clap_on_literals
one_port http plain =
    let on = http_goes http [] plain in
    ap₂ (λ (k : Kinds) (w : Walk). or_else k (after_walk serves false [] w)) on.0 on.1

two_ports : (http line : Text) → begins_with_hyphen http ≡ false → begins_with_hyphen line ≡ false
    → level_fault serves [] nothing_held (http ∷ line ∷ []) false [] ≡ MissingRequiredArgument ∷ []
unfolding clap_on_literals
two_ports http line plain plain_too =
    let on = http_goes http (line ∷ []) plain in
    let then = line_goes http line [] plain_too in
    ap₂ (λ (k : Kinds) (w : Walk). or_else k (after_walk serves false [] w)) (on.0 ∙ then.0) (ap (λ (w : Walk). walked serves.rules [] w line) on.1 ∙ then.1)

ports_and_workers : (http line workers : Text) → begins_with_hyphen http ≡ false → begins_with_hyphen line ≡ false → begins_with_hyphen workers ≡ false
    → (level_fault serves [] nothing_held (http ∷ line ∷ workers ∷ []) false [] ≡ [])
    × (command_in_row (codes "serve") (rows_after serves.rules [] (http ∷ line ∷ workers ∷ [])) ≡ serve_by http line workers)
unfolding clap_on_literals serve_in
ports_and_workers http line workers plain plain_too plain_as_well =
    let on = http_goes http (line ∷ workers ∷ []) plain in
    let then = line_goes http line (workers ∷ []) plain_too in
    let last = workers_go http line workers [] plain_as_well in
    let end : walk serves.rules [] nothing_held (http ∷ line ∷ workers ∷ []) ≡ walk_at 4 (behind_workers http line workers) =
    ap (λ (w : Walk). walked serves.rules [] (walked serves.rules [] w line) workers) on.1 ∙ ap (λ (w : Walk). walked serves.rules [] w workers) then.1 ∙ last.1 in (
      ap₂ (λ (k : Kinds) (w : Walk). or_else k (after_walk serves false [] w)) (on.0 ∙ then.0 ∙ last.0) end,
      ap (λ (w : Walk). command_in_row (codes "serve") (finished serves.rules w.held)) end,
    )

-- and four are too many
word_behind_workers : (http line workers text : Text) (rest : List Text)
    → begins_with_hyphen http ≡ false → begins_with_hyphen line ≡ false → begins_with_hyphen workers ≡ false → begins_with_hyphen text ≡ false
    → IsFault (level_fault serves [] nothing_held (http ∷ line ∷ workers ∷ text ∷ rest) false [])
unfolding clap_on_literals
word_behind_workers http line workers text rest plain plain_too plain_as_well plain_last =
    level_fails serves [] (http ∷ line ∷ workers ∷ text ∷ rest) false []
    (subst IsFault (sym ((http_goes http (line ∷ workers ∷ text ∷ rest) plain).0 ∙ (line_goes http line (workers ∷ text ∷ rest) plain_too).0
    ∙ (workers_go http line workers (text ∷ rest) plain_as_well).0))
    (strays serves [] 4 text (behind_workers http line workers) rest plain_last refl refl tt))

serve_agrees : (rest : List Text) → list_any begins_with_hyphen rest ≡ false → Agrees (codes "serve" ∷ rest)
unfolding clap_on_literals
serve_agrees [] plain = inr (subst IsFault (sym (enters_serve []).fault) tt, refl)
serve_agrees (http ∷ []) plain =
    let first = none_of (begins_with_hyphen http) false plain in
    inr (subst IsFault (sym ((enters_serve (http ∷ [])).fault ∙ one_port http first.0)) tt, refl)
serve_agrees (http ∷ line ∷ []) plain =
    let first = none_of (begins_with_hyphen http) (begins_with_hyphen line || false) plain in
    let next = none_of (begins_with_hyphen line) false first.1 in
    inr (subst IsFault (sym ((enters_serve (http ∷ line ∷ [])).fault ∙ two_ports http line first.0 next.0)) tt, refl)
serve_agrees (http ∷ line ∷ workers ∷ []) plain =
    let first = none_of (begins_with_hyphen http) (begins_with_hyphen line || (begins_with_hyphen workers || false)) plain in
    let next = none_of (begins_with_hyphen line) (begins_with_hyphen workers || false) first.1 in
    let last = none_of (begins_with_hyphen workers) false next.1 in
    let all = ports_and_workers http line workers first.0 next.0 last.0 in
    let enters = enters_serve (http ∷ line ∷ workers ∷ []) in
    inl (enters.fault ∙ all.0, ap command_met enters.rows ∙ all.1)
serve_agrees (http ∷ line ∷ workers ∷ text ∷ rest) plain =
    let first = none_of (begins_with_hyphen http) (list_any begins_with_hyphen (line ∷ workers ∷ text ∷ rest)) plain in
    let next = none_of (begins_with_hyphen line) (list_any begins_with_hyphen (workers ∷ text ∷ rest)) first.1 in
    let then = none_of (begins_with_hyphen workers) (list_any begins_with_hyphen (text ∷ rest)) next.1 in
    let last = none_of (begins_with_hyphen text) (list_any begins_with_hyphen rest) then.1 in
    inr (subst IsFault (sym (enters_serve (http ∷ line ∷ workers ∷ text ∷ rest)).fault) (word_behind_workers http line workers text rest first.0 next.0 then.0 last.0), refl)

-- ---- all rows

-- what holds of a row's word, and of each word that isn't it
by_row : (P : Text → Type 0) (name word : Text) → P name → (bytes_eq word name ≡ false → P word) → P word
by_row P name word at_name other = go (bytes_eq word name) refl
  where
    go : (b : Bool) → bytes_eq word name ≡ b → P word
    go true e = subst P (sym ((bytes_eq-Decides word name).0 e)) at_name
    go false e = other e

differs : (word name : Text) → bytes_eq word name ≡ false → answers_to word (name, []) ≡ false
differs word name e = go (bytes_eq name word) refl
  where
    go : (b : Bool) → bytes_eq name word ≡ b → (b || false) ≡ false
    go true f = absurd (true≢false (sym ((bytes_eq-Decides word name).1 (sym ((bytes_eq-Decides name word).0 f))) ∙ e))
    go false f = refl

-- a word is no row's
pub record IsNoRow (word : Text) : Type 0 where
  pub batch : bytes_eq word (codes "batch") ≡ false
  pub serve : bytes_eq word (codes "serve") ≡ false
  pub stats : bytes_eq word (codes "stats") ≡ false
  pub zones : bytes_eq word (codes "zones") ≡ false
  pub mirror : bytes_eq word (codes "mirror") ≡ false
  pub load : bytes_eq word (codes "load") ≡ false

-- what holds of each row's word and of all others
pub by_rows : (P : Text → Type 0) (word : Text) → P (codes "batch") → P (codes "serve") → P (codes "stats") → P (codes "zones") → P (codes "mirror") → P (codes "load")
    → (IsNoRow word → P word) → P word
by_rows P word batch serve stats zones mirror load other =
    by_row P (codes "batch") word batch (λ b.
    by_row P (codes "serve") word serve (λ v.
    by_row P (codes "stats") word stats (λ s.
    by_row P (codes "zones") word zones (λ z.
    by_row P (codes "mirror") word mirror (λ m.
    by_row P (codes "load") word load (λ l.
    other (record { batch = b; serve = v; stats = s; zones = z; mirror = m; load = l })))))))

none_found : (word : Text) (n : Text × List Text) (names : Names) → answers_to word n ≡ false → find (answers_to word) names ≡ None
    → find (answers_to word) (n ∷ names) ≡ None
none_found word n names e none = ap (λ b. cond b (Some n) (find (answers_to word) names)) e ∙ none

is_unnamed : (word : Text) → IsNoRow word → subcommand_met (names_of (built table)) idle word ≡ None
is_unnamed word not =
    let load = none_found word (codes "load", []) [] (differs word (codes "load") not.load) refl in
    let mirror = none_found word (codes "mirror", []) ((codes "load", []) ∷ []) (differs word (codes "mirror") not.mirror) load in
    let zones = none_found word (codes "zones", []) ((codes "mirror", []) ∷ (codes "load", []) ∷ []) (differs word (codes "zones") not.zones) mirror in
    let stats = none_found word (codes "stats", []) ((codes "zones", []) ∷ (codes "mirror", []) ∷ (codes "load", []) ∷ []) (differs word (codes "stats") not.stats) zones in
    let serve = none_found word (codes "serve", []) ((codes "stats", []) ∷ (codes "zones", []) ∷ (codes "mirror", []) ∷ (codes "load", []) ∷ [])
    (differs word (codes "serve") not.serve) stats in
    let batch = none_found word (codes "batch", []) ((codes "serve", []) ∷ (codes "stats", []) ∷ (codes "zones", []) ∷ (codes "mirror", []) ∷ (codes "load", []) ∷ [])
    (differs word (codes "batch") not.batch) serve in
    ap (option_map (λ (n : Text × List Text). n.0)) batch

pub is_no_command : (word : Text) (rest : List Text) → IsNoRow word → command_of (word ∷ rest) ≡ None
is_no_command word rest not = rw (not.batch, not.serve, not.stats, not.zones, not.mirror, not.load) refl

other_agrees : (word : Text) (rest : List Text) → begins_with_hyphen word ≡ false → IsNoRow word → Agrees (word ∷ rest)
other_agrees word rest plain not =
    let top = (built table).top in
    let names = names_of (built table) in
    inr (
      level_fails top names (word ∷ rest) _ _ (strays top names 1 word nothing_held rest plain (is_unnamed word not) refl tt),
      is_no_command word rest not,
    )

pub words_agree : (words : List Text) → list_any begins_with_hyphen words ≡ false → Agrees words
unfolding clap_on_literals
words_agree [] plain = inr (tt, refl)
words_agree (word ∷ rest) plain =
    let both = none_of (begins_with_hyphen word) (list_any begins_with_hyphen rest) plain in
    by_rows (λ w. Agrees (w ∷ rest)) word
    (alone_agrees (codes "batch") Batch rest both.1 (enters_batch rest) (λ rows. refl) refl)
    (serve_agrees rest both.1)
    (alone_agrees (codes "stats") (Publish Statistics) rest both.1 (enters_stats rest) (λ rows. refl) refl)
    (alone_agrees (codes "zones") (Publish Zones) rest both.1 (enters_zones rest) (λ rows. refl) refl)
    (alone_agrees (codes "mirror") Mirror rest both.1 (enters_mirror rest) (λ rows. refl) refl)
    (load_agrees rest both.1)
    (other_agrees word rest both.0)

pub taken_is_met : (words : List Text) → Agrees words → fault_of table words ≡ [] → command_met (subcommand_of table words) ≡ command_of words
taken_is_met words (inl met) taken = met.1
taken_is_met words (inr fails) taken = absurd (subst IsFault taken fails.0)

-- an error other than for want of memory
pub refused_is_none : (words : List Text) → Agrees words → (e : Error) → HasKind (fault_of table words) e → kind_of e ≢ OutOfMemory → command_of words ≡ None
refused_is_none words agrees e (inl memory) other = absurd (other memory)
refused_is_none words (inl met) e (inr among) other = absurd (subst (IsAmong (kind_of e)) met.0 among)
refused_is_none words (inr fails) e (inr among) other = fails.1

pub table_is_simple : is_simple table ≡ true
unfolding clap_on_literals
table_is_simple = refl

pub table_is_free : is_simple_and_free table ≡ true
unfolding clap_on_literals
table_is_free = refl

-- ---- words with an option

alone_is_none : (command : Command) (texts : List Text) → list_any begins_with_hyphen texts ≡ true → alone command texts ≡ None
alone_is_none command [] option = absurd (true≢false (sym option))
alone_is_none command (text ∷ texts) option = refl

-- nothing comes of a text that begins with `-`, nor where nothing comes of the texts behind it
none_comes : {B : Type 0} (hyphen others : Bool) (found : Option ℕ) (f : ℕ → Option B) → (hyphen ≡ true → found ≡ None) → (others ≡ true → (n : ℕ) → f n ≡ None)
    → (hyphen || others) ≡ true → option_and_then f found ≡ None
none_comes true others found f first behind option = ap (option_and_then f) (first refl)
none_comes false others None f first behind option = refl
none_comes false others (Some n) f first behind option = behind option n

serves_none : (http line workers : Text) → (begins_with_hyphen http || (begins_with_hyphen line || (begins_with_hyphen workers || false))) ≡ true
    → serve_by http line workers ≡ None
unfolding serve_by
serves_none http line workers option =
    none_comes (begins_with_hyphen http) (begins_with_hyphen line || (begins_with_hyphen workers || false)) (positive_up_to 65535 http) _
    (hyphen_is_no_positive 65535 http (omega arith)) (λ behind h.
    none_comes (begins_with_hyphen line) (begins_with_hyphen workers || false) (positive_up_to 65535 line) _
    (hyphen_is_no_positive 65535 line (omega arith)) (λ last l.
    none_comes (begins_with_hyphen workers) false (positive_up_to 16 workers) (λ w. Some (Serve h l w))
    (hyphen_is_no_positive 16 workers (omega arith)) (λ none. absurd (true≢false (sym none))) last) behind) option

serve_is_none : (texts : List Text) → list_any begins_with_hyphen texts ≡ true → serve_of texts ≡ None
serve_is_none [] option = refl
serve_is_none (http ∷ []) option = refl
serve_is_none (http ∷ line ∷ []) option = refl
serve_is_none (http ∷ line ∷ workers ∷ []) option = serves_none http line workers option
serve_is_none (http ∷ line ∷ workers ∷ text ∷ rest) option = refl

loads_none : (seed requests : Text) → (begins_with_hyphen seed || (begins_with_hyphen requests || false)) ≡ true → load_by seed requests ≡ None
unfolding load_by
loads_none seed requests option =
    none_comes (begins_with_hyphen seed) (begins_with_hyphen requests || false) (decimal_up_to (2 ^ 64 - 1) seed) _
    (hyphen_is_none (2 ^ 64 - 1) seed (omega arith)) (λ behind s.
    none_comes (begins_with_hyphen requests) false (decimal_up_to 900000 requests) (λ n. Some (Load s n))
    (hyphen_is_none 900000 requests (omega arith)) (λ none. absurd (true≢false (sym none))) behind) option

load_is_none : (texts : List Text) → list_any begins_with_hyphen texts ≡ true → load_of texts ≡ None
load_is_none [] option = refl
load_is_none (seed ∷ []) option = refl
load_is_none (seed ∷ requests ∷ []) option = loads_none seed requests option
load_is_none (seed ∷ requests ∷ text ∷ rest) option = refl

-- a word that begins with `-` is part of no command
pub option_is_none : (words : List Text) → list_any begins_with_hyphen words ≡ true → command_of words ≡ None
option_is_none [] option = refl
option_is_none (word ∷ rest) option =
    by_rows (λ w. (begins_with_hyphen w || list_any begins_with_hyphen rest) ≡ true → command_of (w ∷ rest) ≡ None) word
    (alone_is_none Batch rest)
    (serve_is_none rest)
    (alone_is_none (Publish Statistics) rest)
    (alone_is_none (Publish Zones) rest)
    (alone_is_none Mirror rest)
    (load_is_none rest)
    (λ not any. is_no_command word rest not)
    option
