-- The order of keys that is derived is that of their spaces, then of their classes, then of their first numbers.
use Rattle.std.proofs.Common.{◌≡◌, ℕ, refl}
use Rattle.num_range.specs.declared.space.Space.{Space}
use Rattle.num_range.specs.declared.space.Space.TheVariants.{Asn, Ipv4, Ipv6}
use Rattle.piece_book.specs.declared.free.key.FreeKey.{FreeKey}
use Rattle.piece_book.specs.Free.{key_cmp}
use Rattle.piece_book.specs.contracts.free.key.FreeKeyOrd.TheImpl.{cmp-value}

abbrev key : Space → ℕ → ℕ → FreeKey
key s c f = record { space = s; class = c; first = f }

derived_at : (s t : Space) (c d f g : ℕ) → (cmp-value).it (key s c f) (key t d g) ≡ key_cmp (key s c f) (key t d g)
derived_at Asn Asn c d f g = refl
derived_at Asn Ipv4 c d f g = refl
derived_at Asn Ipv6 c d f g = refl
derived_at Ipv4 Asn c d f g = refl
derived_at Ipv4 Ipv4 c d f g = refl
derived_at Ipv4 Ipv6 c d f g = refl
derived_at Ipv6 Asn c d f g = refl
derived_at Ipv6 Ipv4 c d f g = refl
derived_at Ipv6 Ipv6 c d f g = refl

pub derived_order : (cmp-value).it ≡ key_cmp
derived_order = λ i a b. derived_at a.space b.space a.class b.class a.first b.first i
