use Rattle.std.proofs.Common.{ℕ, List, ◌≡◌, ◌*◌, ◌-◌, ◌^◌, ◌<◌, length, ap, ap₂, ◌∙◌, subst, sym}
use Rattle.reverse_zone.specs.Zone.{label_bits}
use Rattle.mirror_core.specs.Keys.{labels_value}
use Rattle.mirror_core.proofs.Values.{block_read, cut_length, start_fits}
use Rattle.mirror_core.proofs.names.block_of_labels.Goals as goal

bounded : (value bits places : ℕ) (labels given : List ℕ) → value < 2 ^ (bits * length given) → given ≡ labels → places ≡ bits * length labels → value < 2 ^ places
bounded value bits places labels given h same is =
    subst (λ k. value < 2 ^ k) (sym is) (subst (λ (l : List ℕ). value < 2 ^ (bits * length l)) same h)

pub returns : goal.returns
returns c =
    let lens = ap₂ (λ (a b : ℕ). a * b) c.label_bits.ensures c.len.ensures.value in
    let bound = bounded _ _ _ _ _ c.labels_value-value.ensures.bound c.as_slice.ensures.value lens in
    block_read _ _ _ _ _ _ lens (sym c.is_cut_length.ensures ∙ c.if-not-is_cut_length.false)
    (c.labels_value-value.ensures.value ∙ ap (labels_value (label_bits c.args.space)) c.as_slice.ensures.value) bound
    (c.shifted.ensures ∙ ap (λ (w : ℕ). c.labels_value-value.result * 2 ^ (w - c.label_bits.result * c.len.result)) c.width.ensures)
    c.block.ensures.fits c.block.ensures.block

pub shifted-requires-clause-fits : goal.shifted-requires-clause-fits
shifted-requires-clause-fits c =
    let lens = ap₂ (λ (a b : ℕ). a * b) c.label_bits.ensures c.len.ensures.value in
    let bound = bounded _ _ _ _ _ c.labels_value-value.ensures.bound c.as_slice.ensures.value lens in
    let cut = cut_length _ _ (sym c.is_cut_length.ensures ∙ c.if-not-is_cut_length.false) in
    let fits = start_fits _ _ _ cut bound in
    subst (λ (w : ℕ). c.labels_value-value.result * 2 ^ (w - c.label_bits.result * c.len.result) < 2 ^ 128) (sym c.width.ensures) fits
