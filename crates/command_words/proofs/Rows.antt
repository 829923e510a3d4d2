-- The definition on worked examples, which compute.
use Rattle.std.proofs.Common.{◌≡◌, [], ◌∷◌, Some, None, codes, refl}
use Rattle.std.specs.Fmt.{digits}
use Rattle.command_words.specs.declared.command.Command.TheVariants.{Serve, Publish, Load}
use Rattle.command_words.specs.declared.command.Publication.TheVariants.{Zones}
use Rattle.command_words.specs.Command.{command_of, load_by, serve_by}

one_word : command_of (codes "zones" ∷ []) ≡ Some (Publish Zones)
one_word = refl

one_word_more : command_of (codes "zones" ∷ codes "" ∷ []) ≡ None
one_word_more = refl

greatest_doors : command_of (codes "serve" ∷ codes "65535" ∷ codes "1" ∷ codes "16" ∷ []) ≡ Some (Serve 65535 1 16)
unfolding serve_by digits
greatest_doors = refl

no_port : command_of (codes "serve" ∷ codes "0" ∷ codes "1" ∷ codes "1" ∷ []) ≡ None
unfolding serve_by digits
no_port = refl

one_worker_more : command_of (codes "serve" ∷ codes "1" ∷ codes "1" ∷ codes "17" ∷ []) ≡ None
unfolding serve_by digits
one_worker_more = refl

greatest_load : command_of (codes "load" ∷ codes "18446744073709551615" ∷ codes "900000" ∷ []) ≡ Some (Load 18446744073709551615 900000)
unfolding load_by digits
greatest_load = refl

one_request_more : command_of (codes "load" ∷ codes "1" ∷ codes "900001" ∷ []) ≡ None
unfolding load_by digits
one_request_more = refl

leading_zero : command_of (codes "load" ∷ codes "01" ∷ codes "1" ∷ []) ≡ None
unfolding load_by digits
leading_zero = refl
