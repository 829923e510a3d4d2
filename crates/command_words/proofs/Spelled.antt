-- Words and the command that they are, both ways.
use Rattle.std.proofs.Common.{◌≡◌, ◌∙◌, ℕ, ◌-◌, ◌^◌, ◌<◌, ◌≤◌, List, [], ◌∷◌, Option, Some, decimal, refl, sym, ap, ap₂, subst, codes, arith}
use Rattle.std.proofs.lemmas.Option.{none-some, option_and_then_some, same_Some}
use Rattle.std.specs.Prelude.{option_and_then, unwrap_or}
use Rattle.addr_text.specs.Reading.{decimal_up_to}
use Rattle.clap.specs.Walk.{Text}
use Rattle.command_words.specs.declared.command.Command.{Command}
use Rattle.command_words.specs.declared.command.Command.TheVariants.{Batch, Serve, Publish, Mirror, Load}
use Rattle.command_words.specs.declared.command.Publication.TheVariants.{Statistics, Zones}
use Rattle.command_words.specs.Command.{IsInBounds, IsPositiveUpTo, alone, command_of, load_by, load_of, positive_up_to, serve_by, serve_of, words_of}
use Rattle.addr_text.proofs.Computed.{decimal_found, decimal_read}
use Rattle.command_words.proofs.Decimals.{positive_found, positive_spelled}
use Rattle.command_words.proofs.Commands.{by_rows, is_no_command}

abbrev IsSpelled : List Text → Command → Type 0
IsSpelled words command = (words ≡ words_of command) × IsInBounds command

-- ---- from the words to the command

alone_spelled : (word : Text) (found : Command) (rest : List Text) (command : Command) → IsSpelled (word ∷ []) found → alone found rest ≡ Some command
    → IsSpelled (word ∷ rest) command
alone_spelled word found [] command spelled e = subst (IsSpelled (word ∷ [])) (ap (λ (o : Option Command). unwrap_or o found) e) spelled
alone_spelled word found (text ∷ rest) command spelled e = absurd (none-some command e)

serve_spelled : (http line workers : Text) (command : Command) → serve_by http line workers ≡ Some command
    → IsSpelled (codes "serve" ∷ http ∷ line ∷ workers ∷ []) command
unfolding serve_by
serve_spelled http line workers command e =
    option_and_then_some _ (positive_up_to 65535 http) command e λ h http_is rest.
    option_and_then_some _ (positive_up_to 65535 line) command rest λ l line_is rest.
    option_and_then_some _ (positive_up_to 16 workers) command rest λ w workers_are rest.
    let a = positive_spelled 65535 h http http_is in
    let b = positive_spelled 65535 l line line_is in
    let c = positive_spelled 16 w workers workers_are in
    subst (IsSpelled (codes "serve" ∷ http ∷ line ∷ workers ∷ [])) (same_Some (Serve h l w) command rest)
    (ap₂ (λ x texts. codes "serve" ∷ x ∷ texts) a.0 (ap₂ (λ y z. y ∷ z ∷ []) b.0 c.0), (a.1, b.1, c.1))

serve_of_spelled : (rest : List Text) (command : Command) → serve_of rest ≡ Some command → IsSpelled (codes "serve" ∷ rest) command
serve_of_spelled [] command e = absurd (none-some command e)
serve_of_spelled (http ∷ []) command e = absurd (none-some command e)
serve_of_spelled (http ∷ line ∷ []) command e = absurd (none-some command e)
serve_of_spelled (http ∷ line ∷ workers ∷ []) command e = serve_spelled http line workers command e
serve_of_spelled (http ∷ line ∷ workers ∷ text ∷ rest) command e = absurd (none-some command e)

load_spelled : (seed requests : Text) (command : Command) → load_by seed requests ≡ Some command → IsSpelled (codes "load" ∷ seed ∷ requests ∷ []) command
unfolding load_by
load_spelled seed requests command e =
    option_and_then_some _ (decimal_up_to (2 ^ 64 - 1) seed) command e λ s seed_is rest.
    option_and_then_some _ (decimal_up_to 900000 requests) command rest λ n requests_are rest.
    let a = decimal_read (2 ^ 64 - 1) s seed seed_is in
    let b = decimal_read 900000 n requests requests_are in
    subst (IsSpelled (codes "load" ∷ seed ∷ requests ∷ [])) (same_Some (Load s n) command rest)
    (ap₂ (λ x y. codes "load" ∷ x ∷ y ∷ []) a.0 b.0, (omega (arith, a.1), b.1))

load_of_spelled : (rest : List Text) (command : Command) → load_of rest ≡ Some command → IsSpelled (codes "load" ∷ rest) command
load_of_spelled [] command e = absurd (none-some command e)
load_of_spelled (seed ∷ []) command e = absurd (none-some command e)
load_of_spelled (seed ∷ requests ∷ []) command e = load_spelled seed requests command e
load_of_spelled (seed ∷ requests ∷ text ∷ rest) command e = absurd (none-some command e)

pub command_spelled : (words : List Text) (command : Command) → command_of words ≡ Some command → IsSpelled words command
command_spelled [] command e = absurd (none-some command e)
command_spelled (word ∷ rest) command e =
    by_rows (λ w. command_of (w ∷ rest) ≡ Some command → IsSpelled (w ∷ rest) command) word
    (alone_spelled (codes "batch") Batch rest command (refl, tt))
    (serve_of_spelled rest command)
    (alone_spelled (codes "stats") (Publish Statistics) rest command (refl, tt))
    (alone_spelled (codes "zones") (Publish Zones) rest command (refl, tt))
    (alone_spelled (codes "mirror") Mirror rest command (refl, tt))
    (load_of_spelled rest command)
    (λ not found. absurd (none-some command (sym (is_no_command word rest not) ∙ found)))
    e

-- ---- and back

serve_found : (http line workers : ℕ) → IsPositiveUpTo 65535 http → IsPositiveUpTo 65535 line → IsPositiveUpTo 16 workers
    → serve_by (decimal http) (decimal line) (decimal workers) ≡ Some (Serve http line workers)
unfolding serve_by
serve_found http line workers a b c =
    let first = positive_found 65535 http (decimal http) refl a (omega arith) in
    let second = positive_found 65535 line (decimal line) refl b (omega arith) in
    let third = positive_found 16 workers (decimal workers) refl c (omega arith) in
    ap (option_and_then (λ h. option_and_then (λ l. option_and_then (λ w. Some (Serve h l w)) (positive_up_to 16 (decimal workers))) (positive_up_to 65535 (decimal line)))) first
    ∙ ap (option_and_then (λ l. option_and_then (λ w. Some (Serve http l w)) (positive_up_to 16 (decimal workers)))) second
    ∙ ap (option_and_then (λ w. Some (Serve http line w))) third

load_found : (seed requests : ℕ) → seed < 2 ^ 64 → requests ≤ 900000 → load_by (decimal seed) (decimal requests) ≡ Some (Load seed requests)
unfolding load_by
load_found seed requests fits below =
    let first = decimal_found (2 ^ 64 - 1) seed (decimal seed) refl (omega arith) (omega arith) in
    let second = decimal_found 900000 requests (decimal requests) refl below (omega arith) in
    ap (option_and_then (λ s. option_and_then (λ n. Some (Load s n)) (decimal_up_to 900000 (decimal requests)))) first
    ∙ ap (option_and_then (λ n. Some (Load seed n))) second

pub command_found : (command : Command) → IsInBounds command → command_of (words_of command) ≡ Some command
command_found Batch bounds = refl
command_found (Serve http line workers) bounds = serve_found http line workers bounds.0 bounds.1 bounds.2
command_found (Publish Statistics) bounds = refl
command_found (Publish Zones) bounds = refl
command_found Mirror bounds = refl
command_found (Load seed requests) bounds = load_found seed requests bounds.0 bounds.1
