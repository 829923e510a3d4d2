-- What `clap` makes of words that don't begin with `-`.
use Rattle.std.proofs.Common.{◌≡◌, ◌∙◌, ℕ, ◌&&◌, List, [], ◌∷◌, fold, Bool, cond, true, false, Option, Some, None, is_some, option_map, refl, sym, ap, ap₂, subst}
use Rattle.std.specs.Prelude.{option_and_then, find}
use Rattle.std.specs.Option.{option_map_or}
use Rattle.std.specs.Str.{bytes_eq}
use Rattle.clap.specs.Lexer.{strip_byte, long_of, long_of_rest, short_of, short_of_rest}
use Rattle.clap.specs.Walk.{Held, Names, Rule, Step, Text, Walk, after_step, answers_to, arg_by_index, finished, idle, nothing_held, settled, subcommand_met, to_positional, value, walk, walk_from, walked, word_met}
use Rattle.clap.specs.Simple.{App, Shape, entered, label_of, names_of, rows_at}
use Rattle.clap.specs.Kinds.{Kinds, or_else}
use Rattle.clap.specs.Faults.{built_fault, check_fault, defaults_fault, entered_fault, level_fault, positional_fault, settle_fault, step_fault, stray_fault, turn_fault, walk_fault, word_fault}
use Rattle.clap.proofs.WalkLemmas.{walk_stopped}
use Rattle.clap.proofs.FaultLemmas.{stopped_fault}
use Rattle.command_words.specs.Table.{begins_with_hyphen}

-- ---- lists of faults

abbrev pub IsFault : Kinds → Type 0
IsFault [] = ⊥
IsFault (k ∷ ks) = Unit {0}

pub fails_first : (k l : Kinds) → IsFault k → IsFault (or_else k l)
fails_first [] l f = absurd f
fails_first (k ∷ ks) l f = tt

pub fails_then : (k l : Kinds) → IsFault l → IsFault (or_else k l)
fails_then [] l f = f
fails_then (k ∷ ks) l f = tt

pub none_then : (k : Kinds) → or_else k [] ≡ k
none_then [] = refl
none_then (k ∷ ks) = refl

-- ---- one word

no_dashes : (word : Text) → begins_with_hyphen word ≡ false → bytes_eq word (45 ∷ 45 ∷ []) ≡ false
no_dashes [] plain = refl
no_dashes (b ∷ bs) plain = ap (λ t. t && bytes_eq bs (45 ∷ [])) plain

no_long : (word : Text) → begins_with_hyphen word ≡ false → long_of word ≡ None
no_long [] plain = refl
no_long (b ∷ bs) plain = ap (λ t. option_and_then long_of_rest (option_and_then (strip_byte 45) (cond t (Some bs) None))) plain

no_short : (word : Text) → begins_with_hyphen word ≡ false → short_of word ≡ None
no_short [] plain = refl
no_short (b ∷ bs) plain = ap (λ t. option_and_then short_of_rest (cond t (Some bs) None)) plain

-- the walk before a word, where no word waits for a value
abbrev pub walk_at : ℕ → Held → Walk
walk_at position h = record { held = h; waiting = idle; position = position; is_trailing = false; stopped = None }

-- a word that names no subcommand is a value
is_value : (c : List Rule) (names : Names) (position : ℕ) (word : Text) (h : Held) → begins_with_hyphen word ≡ false → subcommand_met names idle word ≡ None
    → word_met c names false idle position word h ≡ (h, value)
is_value c names position word h plain unnamed = rw (unnamed, no_dashes word plain, no_long word plain, no_short word plain) refl

is_no_fault : (s : Shape) (names : Names) (word : Text) (h : Held) → begins_with_hyphen word ≡ false → subcommand_met names idle word ≡ None
    → word_fault s names false idle word h ≡ []
is_no_fault s names word h plain unnamed = rw (unnamed, no_dashes word plain, no_long word plain, no_short word plain) refl

-- so its turn is that of a positional
pub turn_is : (s : Shape) (names : Names) (position : ℕ) (word : Text) (h : Held) → begins_with_hyphen word ≡ false → subcommand_met names idle word ≡ None
    → turn_fault s names (walk_at position h) word ≡ step_fault s position h value
turn_is s names position word h plain unnamed =
    ap₂ (λ (k : Kinds) (m : Held × Step). or_else k (step_fault s position m.0 m.1)) (is_no_fault s names word h plain unnamed) (is_value s.rules names position word h plain unnamed)

pub walks_to : (c : List Rule) (names : Names) (position : ℕ) (word : Text) (h : Held) → begins_with_hyphen word ≡ false → subcommand_met names idle word ≡ None
    → walked c names (walk_at position h) word ≡ to_positional c (arg_by_index c position) word (walk_at position h) h
unfolding walked
walks_to c names position word h plain unnamed =
    ap (λ (m : Held × Step). after_step c word (walk_at position h) m.0 m.1) (is_value c names position word h plain unnamed)

-- ---- one level

-- what is left to fail behind the walk
abbrev pub after_walk : Shape → Bool → Kinds → Walk → Kinds
after_walk s has below w =
    or_else below (or_else (settle_fault s.rules s.args_override_self w.held)
    (or_else (defaults_fault (settled s.rules w.held).rows s.rules) (check_fault s (finished s.rules w.held) has)))

-- a word fails, and so its level does
pub walk_fails : (s : Shape) (names : Names) (w : Walk) (word : Text) (rest : List Text) → IsFault (turn_fault s names w word) → IsFault (walk_fault s names w (word ∷ rest))
unfolding walk_fault
walk_fails s names w word rest f = fails_first (turn_fault s names w word) (walk_fault s names (walked s.rules names w word) rest) f

pub level_fails : (s : Shape) (names : Names) (words : List Text) (has : Bool) (below : Kinds) → IsFault (walk_fault s names (walk_from nothing_held) words)
    → IsFault (level_fault s names nothing_held words has below)
level_fails s names words has below f =
    fails_first (walk_fault s names (walk_from nothing_held) words) (after_walk s has below (walk s.rules names nothing_held words)) f

-- a word that no positional takes fails
pub strays : (s : Shape) (names : Names) (position : ℕ) (word : Text) (h : Held) (rest : List Text) → begins_with_hyphen word ≡ false → subcommand_met names idle word ≡ None
    → arg_by_index s.rules position ≡ None → IsFault (stray_fault s) → IsFault (walk_fault s names (walk_at position h) (word ∷ rest))
strays s names position word h rest plain unnamed none stray =
    walk_fails s names (walk_at position h) word rest (subst IsFault (sym (turn_is s names position word h plain unnamed
    ∙ ap (λ (o : Option Rule). option_map_or (λ a. positional_fault s.rules s.args_override_self a h) o (stray_fault s)) none)) stray)

-- a positional takes a word, and the walk goes on
pub goes_on : (s : Shape) (position next : ℕ) (word : Text) (h after : Held) (rest : List Text) → begins_with_hyphen word ≡ false → step_fault s position h value ≡ []
    → to_positional s.rules (arg_by_index s.rules position) word (walk_at position h) h ≡ walk_at next after
    → (walk_fault s [] (walk_at position h) (word ∷ rest) ≡ walk_fault s [] (walk_at next after) rest) × (walked s.rules [] (walk_at position h) word ≡ walk_at next after)
unfolding walk_fault
goes_on s position next word h after rest plain passes takes =
    let on : walked s.rules [] (walk_at position h) word ≡ walk_at next after = walks_to s.rules [] position word h plain refl ∙ takes in (
      ap₂ (λ (k : Kinds) (w : Walk). or_else k (walk_fault s [] w rest)) (turn_is s [] position word h plain refl ∙ passes) on,
      on,
    )

-- ---- a first word that names a subcommand

-- the command's parse is that of the subcommand, on the words behind
module _ (a : App) (name : Text) (sub : Shape) (rest : List Text) (passes : turn_fault a.top (names_of a) (walk_from nothing_held) name ≡ [])
    (stops : walked a.top.rules (names_of a) (walk_from nothing_held) name ≡ record (walk_from nothing_held) { stopped = Some (name, []) })
    (found : find (λ s. answers_to name (label_of s)) a.subs ≡ Some sub) where
  ends_at : walk a.top.rules (names_of a) nothing_held (name ∷ rest) ≡ record (walk_from nothing_held) { stopped = Some (name, rest) }
  ends_at = ap (λ (w : Walk). fold (walked a.top.rules (names_of a)) w rest) stops ∙ sym (walk_stopped a.top.rules (names_of a) (walk_from nothing_held) name [] rest)

  no_fault : walk_fault a.top (names_of a) (walk_from nothing_held) (name ∷ rest) ≡ []
  unfolding walk_fault
  no_fault =
      ap₂ (λ (k : Kinds) (w : Walk). or_else k (walk_fault a.top (names_of a) w rest)) passes stops ∙ stopped_fault a.top (names_of a) (walk_from nothing_held) (name, []) rest

  pub enters_rows : entered a (walk a.top.rules (names_of a) nothing_held (name ∷ rest)).stopped ≡ Some (rows_at sub rest)
  enters_rows = ap (λ (w : Walk). entered a w.stopped) ends_at ∙ ap (option_map (λ (s : Shape). rows_at s rest)) found

  pub enters_fault : built_fault a nothing_held (name ∷ rest)
      ≡ after_walk a.top true (level_fault sub [] nothing_held rest false []) (record (walk_from nothing_held) { stopped = Some (name, rest) })
  enters_fault =
      ap₂ (λ (k : Kinds) (w : Walk). or_else k (after_walk a.top (is_some (entered a w.stopped)) (entered_fault a w.stopped) w)) no_fault ends_at
      ∙ ap (λ (o : Option Shape). after_walk a.top (is_some (option_map (λ (s : Shape). rows_at s rest) o))
      (option_map_or (λ s. level_fault s [] nothing_held rest false []) o []) (record (walk_from nothing_held) { stopped = Some (name, rest) })) found
